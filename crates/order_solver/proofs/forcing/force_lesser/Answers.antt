use Rattle.std.proofs.Common.{sym, ◌∙◌}
use Rattle.std.proofs.lemmas.Bool.{both_ways}
use Rattle.order_graph.specs.Graphs.{edges_of}
use Rattle.order_solver.proofs.Forced.{lesser-on, lesser-stuck, lesser-undecided, lesser-lacks, forces-err}
use Rattle.order_solver.proofs.forcing.force_lesser.Goals as goal

pub returns-in_err-take_lesser : goal.returns-in_err-take_lesser
returns-in_err-take_lesser g c = forces-err (g.R.Rivals.rivalry c.args.rivals.now) c.args.graph.now c.take_lesser.new.graph _ c.from_residual.ensures.0
    (lesser-lacks (g.R.Rivals.rivalry c.args.rivals.now) c.args.at c.args.graph.now c.requires.at
    (lesser-undecided (g.R.Rivals.rivalry c.args.rivals.now) c.args.at (edges_of c.args.graph.now) c.acyclic_law.ensures (sym c.is_greater_open.ensures ∙ c.if-is_greater_open.false) (λ h. both_ways c.precedes.result c.if-precedes.false (c.precedes.ensures.1 h))) c.in_err-take_lesser.ensures.memory)

pub returns-then-branch : goal.returns-then-branch
returns-then-branch g c = lesser-on (g.R.Rivals.rivalry c.args.rivals.now) c.args.at c.args.graph.now c.take_lesser.new.graph c.in_ok-take_lesser.field-0 c.requires.at
    (sym c.is_greater_open.ensures ∙ c.if-is_greater_open.false)
    (lesser-undecided (g.R.Rivals.rivalry c.args.rivals.now) c.args.at (edges_of c.args.graph.now) c.acyclic_law.ensures (sym c.is_greater_open.ensures ∙ c.if-is_greater_open.false) (λ h. both_ways c.precedes.result c.if-precedes.false (c.precedes.ensures.1 h)))
    c.in_ok-take_lesser.ensures.takes c.in_ok-take_lesser.ensures.spends c.if-branch.true

pub returns-else-branch : goal.returns-else-branch
returns-else-branch g c = lesser-stuck (g.R.Rivals.rivalry c.args.rivals.now) c.args.at c.args.graph.now c.take_lesser.new.graph c.in_ok-take_lesser.field-0 c.requires.at
    (sym c.is_greater_open.ensures ∙ c.if-is_greater_open.false) c.in_ok-take_lesser.ensures.takes c.if-branch.false
