use Rattle.std.proofs.Common.{sym, ◌∙◌}
use Rattle.std.proofs.lemmas.Bool.{both_ways}
use Rattle.order_graph.specs.Graphs.{edges_of}
use Rattle.order_solver.proofs.Forced.{greater-on, greater-stuck, greater-undecided, greater-lacks, forces-err}
use Rattle.order_solver.proofs.forcing.force_greater.Goals as goal

pub returns-in_err-take_greater : goal.returns-in_err-take_greater
returns-in_err-take_greater g c = forces-err (g.R.Rivals.rivalry c.args.rivals.now) c.args.graph.now c.take_greater.new.graph _ c.from_residual.ensures.0
    (greater-lacks (g.R.Rivals.rivalry c.args.rivals.now) c.args.at c.args.graph.now c.requires.at
    (greater-undecided (g.R.Rivals.rivalry c.args.rivals.now) c.args.at (edges_of c.args.graph.now) c.acyclic_law.ensures (sym c.is_lesser_open.ensures ∙ c.if-is_lesser_open.false) (λ h. both_ways c.precedes.result c.if-precedes.false (c.precedes.ensures.1 h))) c.in_err-take_greater.ensures.memory)

pub returns-then-branch : goal.returns-then-branch
returns-then-branch g c = greater-on (g.R.Rivals.rivalry c.args.rivals.now) c.args.at c.args.graph.now c.take_greater.new.graph c.in_ok-take_greater.field-0 c.requires.at
    (sym c.is_lesser_open.ensures ∙ c.if-is_lesser_open.false)
    (greater-undecided (g.R.Rivals.rivalry c.args.rivals.now) c.args.at (edges_of c.args.graph.now) c.acyclic_law.ensures (sym c.is_lesser_open.ensures ∙ c.if-is_lesser_open.false) (λ h. both_ways c.precedes.result c.if-precedes.false (c.precedes.ensures.1 h)))
    c.in_ok-take_greater.ensures.takes c.in_ok-take_greater.ensures.spends c.if-branch.true

pub returns-else-branch : goal.returns-else-branch
returns-else-branch g c = greater-stuck (g.R.Rivals.rivalry c.args.rivals.now) c.args.at c.args.graph.now c.take_greater.new.graph c.in_ok-take_greater.field-0 c.requires.at
    (sym c.is_lesser_open.ensures ∙ c.if-is_lesser_open.false) c.in_ok-take_greater.ensures.takes c.if-branch.false
