use Rattle.order_solver.specs.Forcing.{GoesOn}
use Rattle.order_solver.proofs.forcing.force.Given as goal

abbrev pub invariant-loop : goal.invariant-loop
invariant-loop g l = GoesOn (g.R.Rivals.rivalry l.rivals) l.initial.graph l.graph
