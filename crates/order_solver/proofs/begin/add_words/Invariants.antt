use Rattle.order_solver.specs.Sides.{IsNarrower}
use Rattle.order_solver.specs.Begun.{HoldsWords}
use Rattle.order_solver.proofs.begin.add_words.Given as goal

abbrev pub invariant-loop-word : goal.invariant-loop-word
invariant-loop-word g l = IsNarrower (λ rank. HoldsWords (g.R.Rivals.rivalry l.rivals) rank l.word) l.initial.graph l.graph
