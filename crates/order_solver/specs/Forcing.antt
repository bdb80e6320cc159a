-- Sides that are taken because the other side of their pair closes a cycle.
use Rattle.std.specs.Prelude.{◌≡◌, ℕ, ◌+◌, Bool, true, false, Option, Some, None, Result, Ok, Err, List, ◌++◌}
use Rattle.light_base.specs.declared.memory.Memory.{Memory}
use Rattle.plain_search.specs.declared.Edge.{Edge}
use Rattle.plain_search.specs.Searches.{Pair, PairProblem, problem_of}
use Rattle.plain_search.specs.Standing.{Stands}
use Rattle.order_graph.specs.Graphs.{GraphState, edges_of}
use Rattle.order_solver.specs.Rivals.{Rivalry, problem_in}
use Rattle.order_solver.specs.Rooms.{KeepsRoom, LacksRoom}

-- edges were added at the end, with which the search stands as it stood, whatever waits
pub record GoesOn (r : Rivalry) (old new : GraphState) : Type 0 where
  pub counts : new.counts ≡ old.counts
  pub more : List Edge
  pub added : new.added ≡ old.added ++ more
  pub stands : (waiting : List PairProblem) (pairs : List Pair) (dead : ℕ) → Stands (problem_in r) waiting (Some (problem_of (edges_of old) pairs)) dead →
      Stands (problem_in r) waiting (Some (problem_of (edges_of new) pairs)) dead
  pub room : KeepsRoom r old new

-- edges were added at the end, and then both sides of a pair closed a cycle: one more dead end
pub record IsStuck (r : Rivalry) (old new : GraphState) : Type 0 where
  pub counts : new.counts ≡ old.counts
  pub more : List Edge
  pub added : new.added ≡ old.added ++ more
  pub stands : (waiting : List PairProblem) (pairs : List Pair) (dead : ℕ) → Stands (problem_in r) waiting (Some (problem_of (edges_of old) pairs)) dead →
      Stands (problem_in r) waiting None (dead + 1)
  pub room : KeepsRoom r old new

-- the search goes on, with some sides taken or with none; or it is stuck. Memory is wanted only where there was none left for the pairs
abbrev pub Forces : Rivalry → GraphState → Result (Option Bool) Memory → GraphState → Type 0
Forces r old (Ok (Some some)) new = GoesOn r old new
Forces r old (Ok None) new = IsStuck r old new
Forces r old (Err _) new = LacksRoom r old

-- the same where nothing is said of sides
abbrev pub ForcesAll : Rivalry → GraphState → Result Bool Memory → GraphState → Type 0
ForcesAll r old (Ok true) new = GoesOn r old new
ForcesAll r old (Ok false) new = IsStuck r old new
ForcesAll r old (Err _) new = LacksRoom r old
