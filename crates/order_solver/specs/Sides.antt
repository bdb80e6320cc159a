-- Adding sides to a graph.
use Rattle.std.specs.Prelude.{◌≡◌, ℕ, Bool, true, false, Result, Ok, Err, List, ◌++◌}
use Rattle.light_base.specs.declared.memory.Memory.{Memory}
use Rattle.plain_search.specs.declared.Edge.{Edge}
use Rattle.plain_search.specs.Edges.{is_acyclic, Holds, Implies}
use Rattle.order_graph.specs.declared.thread_graph.Added.{Added}
use Rattle.order_graph.specs.declared.thread_graph.Added.TheVariants.{In, Cycle}
use Rattle.order_graph.specs.Graphs.{GraphState, edges_of}

-- edges were added at the end, so that exactly those rankings hold all that held the old ones and for which P is so
pub record IsNarrower (P : (ℕ → ℕ) → Type 0) (old new : GraphState) : Type 0 where
  pub counts : new.counts ≡ old.counts
  pub more : List Edge
  pub added : new.added ≡ old.added ++ more
  pub old_holds : Implies (edges_of new) (edges_of old)
  pub holds : (rank : ℕ → ℕ) → Holds rank (edges_of new) → P rank
  pub all : (rank : ℕ → ℕ) → Holds rank (edges_of old) → P rank → Holds rank (edges_of new)

-- that, or no ranking is left
abbrev pub Narrows : ((ℕ → ℕ) → Type 0) → GraphState → Result Added Memory → GraphState → Type 0
Narrows P old (Ok In) new = IsNarrower P old new
Narrows P old (Ok Cycle) new = (rank : ℕ → ℕ) → Holds rank (edges_of old) → P rank → ⊥
Narrows P old (Err _) new = Unit {0}

-- the side closes no cycle, and was added; or it closes one, and nothing changed
abbrev pub Takes : List Edge → GraphState → Result Bool Memory → GraphState → Type 0
Takes side old (Ok true) new = (is_acyclic (side ++ edges_of old) ≡ true) × IsNarrower (λ rank. Holds rank side) old new
Takes side old (Ok false) new = (is_acyclic (side ++ edges_of old) ≡ false) × (new ≡ old)
Takes side old (Err _) new = Unit {0}
