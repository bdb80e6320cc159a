-- Carrying lowered clocks on: along each step clocks rise, or the clock of its end has fallen and its node waits.
use Rattle.std.specs.Prelude.{◌≡◌, ℕ, ◌+◌, ◌*◌, ◌<◌, ◌≤◌, ◌⊎◌, List, [], ◌∷◌, ◌++◌, length, slice_index_or, sum, Contains}
use Rattle.order_graph.specs.Shapes.{Shape, arrow, IsNext, IsStep}
use Rattle.order_graph.specs.Clocks.{Rises, IsOpening, IsClosed, IsExact}

-- nothing changed, or the sum fell and the node waits
abbrev pub Pulled : ℕ → List ℕ → List ℕ → List ℕ → List ℕ → Type 0
Pulled from old work new work' = ((work' ≡ work) × (new ≡ old)) ⊎ ((work' ≡ work ++ from ∷ []) × (sum new < sum old))

pub record AreNodes (nodes : ℕ) (work : List ℕ) : Type 0 where
  pub node : (v : ℕ) → Contains work v → v < nodes

abbrev pub IsGood : ℕ → List ℕ → List ℕ → ℕ → ℕ → Type 0
IsGood threads work clocks x y = Rises threads clocks x y ⊎ Contains work y

-- of the steps into one node, the chain's and the edges below some place may still be owed
pub record IsDue (g : Shape) (threads due below : ℕ) (work clocks : List ℕ) : Type 0 where
  pub edges : (k x y : ℕ) → k < length g.added → slice_index_or g.added k (arrow x y) ≡ arrow x y → IsGood threads work clocks x y ⊎ ((y ≡ due) × (k < below))
  pub chains : (x y : ℕ) → IsNext g.lanes x y → IsGood threads work clocks x y ⊎ ((y ≡ due) × (length g.added < below))

pub record Waits (g : Shape) (threads : ℕ) (work clocks : List ℕ) : Type 0 where
  pub waits : (x y : ℕ) → IsStep g x y → IsGood threads work clocks x y

-- what the steps into a node that were taken so far did
pub record Carried (g : Shape) (threads node at : ℕ) (old work new work' : List ℕ) : Type 0 where
  pub due : IsDue g threads node (length g.added + 1) work old → IsDue g threads node at work' new
  pub weight : 2 * sum new + length work' ≤ 2 * sum old + length work
  pub nodes : AreNodes (length g.lanes) work → AreNodes (length g.lanes) work'

-- along each step clocks rise, but maybe along one
pub record IsClosedBut (g : Shape) (threads u v : ℕ) (clocks : List ℕ) : Type 0 where
  pub closed : (x y : ℕ) → IsStep g x y → Rises threads clocks x y ⊎ ((x ≡ u) × (y ≡ v))

-- no clock fell too low
abbrev pub KeepsOpening : Shape → ℕ → List ℕ → List ℕ → Type 0
KeepsOpening g threads old new = IsOpening g threads old → IsOpening g threads new

-- all that waited was carried on
abbrev pub Closes : Shape → ℕ → List ℕ → List ℕ → List ℕ → Type 0
Closes g threads work old new = Waits g threads work old → IsClosed g threads new

-- clocks that rise but along a new edge rise along that too
abbrev pub ClosesEdge : Shape → ℕ → ℕ → ℕ → List ℕ → List ℕ → Type 0
ClosesEdge g threads u v old new = IsClosedBut g threads u v old → IsClosed g threads new

-- clocks that were exact before the new edge are exact again
abbrev pub TakesEdge : Shape → ℕ → ℕ → ℕ → List ℕ → List ℕ → Type 0
TakesEdge g threads u v old new = IsOpening g threads old → IsClosedBut g threads u v old → IsExact g threads new
