-- Adding edges that have to hold to a graph.
use Rattle.std.specs.Prelude.{◌≡◌, ℕ, Result, Ok, Err}
use Rattle.light_base.specs.declared.memory.Memory.{Memory}
use Rattle.plain_search.specs.Edges.{Holds, Implies}
use Rattle.order_graph.specs.declared.thread_graph.Added.{Added}
use Rattle.order_graph.specs.declared.thread_graph.Added.TheVariants.{In, Cycle}
use Rattle.order_graph.specs.Graphs.{GraphState, edges_of}

-- exactly those rankings hold all edges of the new graph that hold the old ones and for which P is so
pub record IsNarrower (P : (ℕ → ℕ) → Type 0) (old new : GraphState) : Type 0 where
  pub counts : new.counts ≡ old.counts
  pub old_holds : Implies (edges_of new) (edges_of old)
  pub holds : (rank : ℕ → ℕ) → Holds rank (edges_of new) → P rank
  pub all : (rank : ℕ → ℕ) → Holds rank (edges_of old) → P rank → Holds rank (edges_of new)

-- that, or no ranking is left
abbrev pub Narrows : ((ℕ → ℕ) → Type 0) → GraphState → Result Added Memory → GraphState → Type 0
Narrows P old (Ok In) new = IsNarrower P old new
Narrows P old (Ok Cycle) new = (rank : ℕ → ℕ) → Holds rank (edges_of old) → P rank → ⊥
Narrows P old (Err _) new = Unit {0}
