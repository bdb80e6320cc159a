use Rattle.std.proofs.Common.{◌≡◌, ℕ, reverse}
use Rattle.std.specs.Prelude.{None, vec_capacity}
use Rattle.plain_search.specs.Searches.{PairProblem}
use Rattle.plain_search.specs.Standing.{Stands}
use Rattle.order_solver.specs.Frames.{rests_of, Stacked}
use Rattle.order_solver.specs.Rooms.{KeepsMemory}
use Rattle.order_solver.proofs.search.go_back.Given as goal

abbrev pub invariant-loop-frame : goal.invariant-loop-frame
invariant-loop-frame g l = record {
  counts : l.graph.counts ≡ l.initial.graph.counts;
  stacked : Stacked (g.R.Rivals.rivalry l.rivals) l.graph.added (reverse l.frames.items);
  stands : (problem : PairProblem) (dead : ℕ) → Stands problem (rests_of (g.R.Rivals.rivalry l.rivals) l.initial.graph.added (reverse l.initial.frames.items)) None dead →
      Stands problem (rests_of (g.R.Rivals.rivalry l.rivals) l.graph.added (reverse l.frames.items)) None dead;
  room : KeepsMemory (g.R.Rivals.rivalry l.rivals) l.initial.graph (reverse l.initial.frames.items) (vec_capacity l.initial.frames) l.graph (reverse l.frames.items) (vec_capacity l.frames);
}

abbrev pub decreases-loop-frame : goal.decreases-loop-frame
decreases-loop-frame g l = goal.left-loop-frame g l
