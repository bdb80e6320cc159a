-- Nodes of threads, and which comes before which.
use Rattle.std.specs.Prelude.{◌≡◌, ℕ, ◌+◌, ◌<◌, ◌⊎◌, List, [], ◌∷◌, ◌++◌, length, slice_index, take, replicate, Contains}
use Rattle.plain_search.specs.declared.Edge.{Edge}
pub use Rattle.plain_search.specs.Chains.{arrow}

-- the thread of each node, and the edges that were added between nodes, the newest last
pub record Shape : Type 0 where
  pub lanes : List ℕ
  pub added : List Edge

abbrev pub shape : List ℕ → List Edge → Shape
shape lanes added = record { lanes = lanes; added = added }

-- the threads of nodes that are numbered thread after thread, from thread t on
abbrev pub lanes_from : ℕ → List ℕ → List ℕ
lanes_from t [] = []
lanes_from t (count ∷ counts) = replicate count t ++ lanes_from (t + 1) counts

abbrev pub lanes_of : List ℕ → List ℕ
lanes_of counts = lanes_from 0 counts

-- v is the next node of u's thread
pub record IsNext (lanes : List ℕ) (u v : ℕ) : Type 0 where
  pub next : v ≡ u + 1
  pub node : v < length lanes
  pub lane : slice_index lanes u ≡ slice_index lanes v

-- an edge that was added, or one of a chain
abbrev pub IsStep : Shape → ℕ → ℕ → Type 0
IsStep g u v = Contains g.added (arrow u v) ⊎ IsNext g.lanes u v

-- a walk of at least one edge, over the nodes between
abbrev pub IsWalk : Shape → ℕ → List ℕ → ℕ → Type 0
IsWalk g u [] v = IsStep g u v
IsWalk g u (m ∷ between) v = IsStep g u m × IsWalk g m between v

pub record IsBefore (g : Shape) (u v : ℕ) : Type 0 where
  pub between : List ℕ
  pub walk : IsWalk g u between v

-- the same node, or a walk to it
abbrev pub Leads : Shape → ℕ → ℕ → Type 0
Leads g u v = (u ≡ v) ⊎ IsBefore g u v

abbrev pub with_edge : Shape → ℕ → ℕ → Shape
with_edge g u v = shape g.lanes (g.added ++ arrow u v ∷ [])

-- the edges that were added first, so many
abbrev pub first_edges : Shape → ℕ → Shape
first_edges g count = shape g.lanes (take count g.added)
