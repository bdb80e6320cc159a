-- The edges into each node as a list of places: of the newest the place plus one, and for each edge that of the next older one. 0 is none.
use Rattle.std.specs.Prelude.{◌≡◌, ℕ, ◌+◌, ◌<◌, ◌≤◌, List, length, slice_index, slice_index_or}
use Rattle.plain_search.specs.declared.Edge.{Edge}
use Rattle.order_graph.specs.Shapes.{arrow}

abbrev pub end_of : List Edge → ℕ → ℕ
end_of edges k = (slice_index_or edges k (arrow 0 0)).to

-- the last edge into v among so many first ones
pub record IsLatest (edges : List Edge) (below v at : ℕ) : Type 0 where
  pub within : at ≤ below
  pub here : (k : ℕ) → at ≡ k + 1 → end_of edges k ≡ v
  pub none : (k : ℕ) → at ≤ k → k < below → end_of edges k ≡ v → ⊥

pub record AreLinked (nodes : ℕ) (edges : List Edge) (heads older : List ℕ) : Type 0 where
  pub heads_size : length heads ≡ nodes
  pub older_size : length older ≡ length edges
  pub heads_latest : (v : ℕ) → v < nodes → IsLatest edges (length edges) v (slice_index heads v)
  pub older_latest : (k : ℕ) → k < length edges → IsLatest edges k (end_of edges k) (slice_index older k)

pub record EndsBelow (edges : List Edge) (nodes : ℕ) : Type 0 where
  pub ends : (k : ℕ) → k < length edges → end_of edges k < nodes
