use Rattle.std.proofs.Common.{◌≤◌}
use Rattle.order_graph.specs.Graphs.{edges_of}
use Rattle.order_solver.specs.Cursors.{AreSettled}
use Rattle.order_solver.proofs.rows.next_in_row.Given as goal

abbrev pub invariant-loop-thread : goal.invariant-loop-thread
invariant-loop-thread g l = record {
  from : l.at.greater ≤ l.from;
  start : (g.R.Rivals.rivalry l.rivals).start l.at.word l.thread ≤ l.from;
  settled : AreSettled (g.R.Rivals.rivalry l.rivals) (edges_of l.graph) l.at.word l.at.lesser l.at.greater l.from;
}
