use Rattle.order_solver.specs.Forcing.{GoesOn}
use Rattle.order_solver.proofs.forcing.force_words.Given as goal

abbrev pub invariant-loop-word : goal.invariant-loop-word
invariant-loop-word g l = GoesOn (g.R.Rivals.rivalry l.rivals) l.initial.graph l.graph
