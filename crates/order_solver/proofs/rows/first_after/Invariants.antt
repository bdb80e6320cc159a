use Rattle.std.proofs.Common.{◌-◌, ◌<◌, ◌≤◌}
use Rattle.plain_search.specs.Edges.{Implies}
use Rattle.order_graph.specs.Graphs.{edges_of}
use Rattle.constraints.specs.Constraints.{edges_to}
use Rattle.order_solver.specs.Rivals.{source_at}
use Rattle.order_solver.specs.Cursors.{AreBefore}
use Rattle.order_solver.proofs.rows.first_after.Given as goal

abbrev pub invariant-loop-low : goal.invariant-loop-low
invariant-loop-low g l = record {
  low : l.from ≤ l.low;
  order : l.low ≤ l.high;
  high : l.high ≤ l.end;
  before : AreBefore (g.R.Rivals.rivalry l.rivals) (edges_of l.graph) l.word l.source l.from l.low;
  last : l.high < l.end → Implies (edges_of l.graph) (edges_to ((g.R.Rivals.rivalry l.rivals).last_reads l.word (source_at (g.R.Rivals.rivalry l.rivals) l.word l.high)) (source_at (g.R.Rivals.rivalry l.rivals) l.word l.source)) → ⊥;
}

abbrev pub decreases-loop-low : goal.decreases-loop-low
decreases-loop-low g l = l.high - l.low
