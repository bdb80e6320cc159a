use Rattle.order_solver.specs.Sides.{IsNarrower}
use Rattle.order_solver.specs.Begun.{HoldsRuns}
use Rattle.order_solver.proofs.begin.add_word.Given as goal

abbrev pub invariant-loop-thread : goal.invariant-loop-thread
invariant-loop-thread g l = IsNarrower (λ rank. HoldsRuns (g.R.Rivals.rivalry l.rivals) rank l.word l.thread) l.initial.graph l.graph
