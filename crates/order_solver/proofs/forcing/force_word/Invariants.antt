use Rattle.order_solver.specs.Forcing.{GoesOn}
use Rattle.order_solver.proofs.forcing.force_word.Given as goal

abbrev pub invariant-loop-source : goal.invariant-loop-source
invariant-loop-source g l = GoesOn (g.R.Rivals.rivalry l.rivals) l.initial.graph l.graph
