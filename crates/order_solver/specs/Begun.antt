-- A graph with which a search may begin.
use Rattle.std.specs.Prelude.{◌≡◌, ℕ, ◌+◌, ◌<◌, Option, Some, None, Result, Ok, Err, [], length}
use Rattle.light_base.specs.declared.memory.Memory.{Memory}
use Rattle.plain_search.specs.Searches.{Solves, problem_of}
use Rattle.plain_search.specs.Standing.{Stands}
use Rattle.order_graph.specs.Graphs.{GraphState, edges_of}
use Rattle.order_solver.specs.Rivals.{Rivalry, pairs_from, problem_in}
use Rattle.order_solver.specs.Cursors.{Chained, IsRooted}

-- of the sources of so many threads on the word, each comes before the next one of its thread, with its last reads
abbrev pub HoldsRuns : Rivalry → (ℕ → ℕ) → ℕ → ℕ → Type 0
HoldsRuns r rank word threads = (t : ℕ) → t < threads → Chained r rank word (r.start word t) (r.start word (t + 1))

-- and so it is on the first words
abbrev pub HoldsWords : Rivalry → (ℕ → ℕ) → ℕ → Type 0
HoldsWords r rank words = (w : ℕ) → w < words → HoldsRuns r rank w (length r.counts)

-- the edges are those of the problem, and more that each solution holds
pub record IsBegun (r : Rivalry) (g : GraphState) : Type 0 where
  pub counts : g.counts ≡ r.counts
  pub rooted : IsRooted r (edges_of g)
  pub stands : Stands (problem_in r) [] (Some (problem_of (edges_of g) (pairs_from r 0 r.words))) 0

-- there is one, or no ranking solves the problem
abbrev pub Begins : Rivalry → Result (Option GraphState) Memory → Type 0
Begins r (Ok (Some g)) = IsBegun r g
Begins r (Ok None) = (rank : ℕ → ℕ) → Solves (problem_in r) rank → ⊥
Begins r (Err _) = Unit {0}
