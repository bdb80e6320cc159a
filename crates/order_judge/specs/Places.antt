-- Orders of nodes, which are the numbers below a count, and the place of each node in them.
use Rattle.std.specs.Prelude.{◌≡◌, ◌≢◌, ℕ, suc, ◌<◌, ◌≤◌, eqb, cond, List, [], ◌∷◌, length, slice_index, Contains}
use Rattle.order_judge.specs.declared.places.Placing.{Placing}
use Rattle.order_judge.specs.declared.places.Placing.TheVariants.{Placed, Unknown, Twice, Missing}

-- the first place of the node in the order; the order's length where it has none
abbrev pub place : List ℕ → ℕ → ℕ
place [] node = 0
place (x ∷ order) node = cond (eqb x node) 0 (suc (place order node))

-- the order has each node once and nothing else
pub record IsOrder (nodes : ℕ) (order : List ℕ) : Type 0 where
  pub all : (x : ℕ) → x < nodes → Contains order x
  pub only : (x : ℕ) → Contains order x → x < nodes
  pub once : (i j : ℕ) → i < j → j < length order → slice_index order i ≢ slice_index order j

-- for each node its place
pub record ArePlaces (nodes : ℕ) (order places : List ℕ) : Type 0 where
  pub count : length places ≡ nodes
  pub same : (x : ℕ) → x < nodes → slice_index places x ≡ place order x

-- what stands at place k is no node
abbrev pub IsUnknown : ℕ → List ℕ → ℕ → Type 0
IsUnknown nodes order k = (k < length order) × (nodes ≤ slice_index order k)

-- what stands at place k stands at an earlier place too
abbrev pub IsTwice : List ℕ → ℕ → Type 0
IsTwice order k = (k < length order) × (place order (slice_index order k) < k)

-- the node x stands at no place
abbrev pub IsMissing : ℕ → List ℕ → ℕ → Type 0
IsMissing nodes order x = (x < nodes) × (Contains order x → ⊥)

-- the number is the least one of which this holds
abbrev pub IsLeast : (ℕ → Type 0) → ℕ → Type 0
IsLeast Holds n = Holds n × ((m : ℕ) → m < n → Holds m → ⊥)

-- this holds of no number
abbrev pub IsNever : (ℕ → Type 0) → Type 0
IsNever Holds = (n : ℕ) → Holds n → ⊥

-- each node has its place; or the first fault is the least place that holds no node, the least place of a node that stands
-- at an earlier one too, or the least node that stands at no place
abbrev pub IsPlacing : ℕ → List ℕ → Placing → Type 0
IsPlacing nodes order (Placed places) = IsOrder nodes order × ArePlaces nodes order places.items
IsPlacing nodes order (Unknown k) = IsLeast (IsUnknown nodes order) k
IsPlacing nodes order (Twice k) = IsNever (IsUnknown nodes order) × IsLeast (IsTwice order) k
IsPlacing nodes order (Missing x) = IsNever (IsUnknown nodes order) × IsNever (IsTwice order) × IsLeast (IsMissing nodes order) x
