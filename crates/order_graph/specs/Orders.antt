-- Orders of a graph's nodes: each comes after those that lead to it, and the least that may come next is next.
use Rattle.std.specs.Prelude.{ℕ, ◌<◌, ◌≤◌, List, length, take, slice_index, Contains}
use Rattle.plain_search.specs.declared.Edge.{Edge}
use Rattle.plain_search.specs.Edges.{LeadsTo}

-- v may come next after these: it is not among them, and all nodes that lead to it are
pub record IsReady (edges : List Edge) (nodes : ℕ) (placed : List ℕ) (v : ℕ) : Type 0 where
  pub node : v < nodes
  pub new : Contains placed v → ⊥
  pub after : (u : ℕ) → LeadsTo edges u v → Contains placed u

-- all nodes, each before those that it leads to; at each place stands the least node that may come next
pub record IsOrder (edges : List Edge) (nodes : ℕ) (order : List ℕ) : Type 0 where
  pub all : (v : ℕ) → v < nodes → Contains order v
  pub before : (i j : ℕ) → i < length order → j < length order → LeadsTo edges (slice_index order i) (slice_index order j) → i < j
  pub ready : (k : ℕ) → k < length order → IsReady edges nodes (take k order) (slice_index order k)
  pub least : (k v : ℕ) → k < length order → IsReady edges nodes (take k order) v → slice_index order k ≤ v
