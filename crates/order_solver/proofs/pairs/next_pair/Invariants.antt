use Rattle.order_graph.specs.Graphs.{edges_of}
use Rattle.order_solver.specs.Cursors.{IsPlace, Passes, pairs_at}
use Rattle.order_solver.proofs.Passing.{rows_left}
use Rattle.order_solver.proofs.pairs.next_pair.Given as goal

abbrev pub invariant-loop-at : goal.invariant-loop-at
invariant-loop-at g l = record {
  place : IsPlace (g.R.Rivals.rivalry l.rivals) l.at;
  passes : Passes (edges_of l.graph) (pairs_at (g.R.Rivals.rivalry l.rivals) l.fn.from) (pairs_at (g.R.Rivals.rivalry l.rivals) l.at);
}

abbrev pub decreases-loop-at : goal.decreases-loop-at
decreases-loop-at g l = rows_left (g.R.Rivals.rivalry l.rivals) l.at
