use Rattle.std.proofs.Common.{sym, ◌∙◌}
use Rattle.constraints.specs.Constraints.{edges_to}
use Rattle.order_solver.proofs.Adding.{open-takes}
use Rattle.order_solver.proofs.Spending.{spends-none}
use Rattle.order_solver.proofs.sides.take_side.Goals as goal

pub returns-then-not-is_open-clause-spends : goal.returns-then-not-is_open-clause-spends
returns-then-not-is_open-clause-spends c = spends-none _ c.args.graph.now

pub returns-clause-takes : goal.returns-clause-takes
returns-clause-takes c = open-takes (edges_to c.args.last_reads.now c.args.source) c.args.graph.now c.add_side.new.graph c.in_ok-_added._added (sym c.is_open.ensures ∙ c.if-not-is_open.false) c.in_ok-_added.ensures.narrows
