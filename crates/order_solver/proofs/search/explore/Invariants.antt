use Rattle.std.specs.Prelude.{vec_capacity}
use Rattle.std.proofs.Common.{◌≡◌, ◌≤◌, ◌+◌, ◌-◌, ◌*◌, length, reverse}
use Rattle.order_solver.specs.Rivals.{pairs_from}
use Rattle.order_solver.specs.Cursors.{IsPlace, pairs_at}
use Rattle.order_solver.specs.Frames.{Stacked, StandsOrStuck}
use Rattle.order_solver.specs.Rooms.{side_edges_in, HasMemory}
use Rattle.order_solver.proofs.search.explore.Given as goal

abbrev pub invariant-loop-stands : goal.invariant-loop-stands
invariant-loop-stands g l = record {
  counts : l.graph.counts ≡ (g.R.Rivals.rivalry l.rivals).counts;
  place : IsPlace (g.R.Rivals.rivalry l.rivals) l.at;
  budget : l.dead ≤ l.budget;
  stacked : Stacked (g.R.Rivals.rivalry l.rivals) l.graph.added (reverse l.frames.items);
  stands : StandsOrStuck (g.R.Rivals.rivalry l.rivals) l.graph.added (reverse l.frames.items) l.at l.dead l.stands;
  memory : side_edges_in (g.R.Rivals.rivalry l.rivals) ≤ l.fn.graph.spare → side_edges_in (g.R.Rivals.rivalry l.rivals) ≤ vec_capacity l.fn.frames →
      HasMemory (g.R.Rivals.rivalry l.rivals) (l.fn.graph.spare + length l.fn.graph.added) l.graph (reverse l.frames.items) (vec_capacity l.frames);
}

abbrev pub decreases-loop-stands : goal.decreases-loop-stands
decreases-loop-stands g l = (l.budget - l.dead) * (length (pairs_from (g.R.Rivals.rivalry l.rivals) 0 (g.R.Rivals.rivalry l.rivals).words) + 1) + length (pairs_at (g.R.Rivals.rivalry l.rivals) l.at)
