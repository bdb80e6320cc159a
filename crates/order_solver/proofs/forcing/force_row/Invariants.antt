use Rattle.std.proofs.Common.{◌<◌}
use Rattle.order_solver.specs.Forcing.{GoesOn}
use Rattle.order_solver.proofs.forcing.force_row.Given as goal

abbrev pub invariant-loop-thread : goal.invariant-loop-thread
invariant-loop-thread g l = record {
  from : l.source < l.from;
  on : GoesOn (g.R.Rivals.rivalry l.rivals) l.initial.graph l.graph;
}
