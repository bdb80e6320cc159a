use Rattle.order_solver.specs.Sides.{IsNarrower}
use Rattle.order_solver.proofs.Beginning.{ChainedTo}
use Rattle.order_solver.proofs.begin.add_run.Given as goal

abbrev pub invariant-loop-at : goal.invariant-loop-at
invariant-loop-at g l = IsNarrower (λ rank. ChainedTo (g.R.Rivals.rivalry l.rivals) rank l.word l.from l.end l.at) l.initial.graph l.graph
