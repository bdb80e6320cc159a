-- Placing nodes one after the other: of each thread the nodes below its front are placed.
use Rattle.std.specs.Prelude.{◌≡◌, ℕ, ◌*◌, ◌^◌, ◌<◌, ◌≤◌, ◌↔◌, Option, Some, None, List, length, slice_index}
use Rattle.plain_search.specs.declared.Edge.{Edge}
use Rattle.plain_search.specs.Edges.{LeadsTo}
use Rattle.order_graph.specs.Clocks.{clock}

-- the nodes are few enough, each is of one of the threads, those of one thread stand together, and there are so many clocks
pub record HasLanes (threads : ℕ) (lanes : List ℕ) (size : ℕ) : Type 0 where
  pub nodes_few : length lanes < 2 ^ 32
  pub lane : (x : ℕ) → x < length lanes → slice_index lanes x < threads
  pub rising : (i j : ℕ) → i ≤ j → j < length lanes → slice_index lanes i ≤ slice_index lanes j
  pub places : size ≡ length lanes * threads

-- the clocks tell what leads where along these edges
pub record IsClocked (threads : ℕ) (lanes clocks : List ℕ) (edges : List Edge) : Type 0 where
  pub chains : (u v : ℕ) → u < v → v < length lanes → slice_index lanes u ≡ slice_index lanes v → LeadsTo edges u v
  pub node : (u v : ℕ) → LeadsTo edges u v → u < length lanes
  pub loops : (v : ℕ) → LeadsTo edges v v → ⊥
  pub told : (u v : ℕ) → u < length lanes → v < length lanes → (u ≡ v → ⊥) → (clock threads clocks u (slice_index lanes v) ≤ v) ↔ LeadsTo edges u v

abbrev pub front_of : List ℕ → ℕ → ℕ
front_of fronts t = slice_index fronts t

-- the thread's front is one of its nodes
abbrev pub HasFront : List ℕ → List ℕ → ℕ → Type 0
HasFront lanes fronts t = (front_of fronts t < length lanes) × (slice_index lanes (front_of fronts t) ≡ t)

-- the front of thread s leads to that of another thread t
abbrev pub Blocks : ℕ → List ℕ → List ℕ → List ℕ → ℕ → ℕ → Type 0
Blocks threads lanes clocks fronts s t = (s ≡ t → ⊥) × HasFront lanes fronts s × (clock threads clocks (front_of fronts s) t ≤ front_of fronts t)

-- the thread has a front, and no other one leads to it
pub record IsOpenFront (threads : ℕ) (lanes clocks fronts : List ℕ) (t : ℕ) : Type 0 where
  pub front : HasFront lanes fronts t
  pub free : (s : ℕ) → s < threads → Blocks threads lanes clocks fronts s t → ⊥

-- the first thread with such a front
abbrev pub IsFirstOpen : ℕ → List ℕ → List ℕ → List ℕ → Option ℕ → Type 0
IsFirstOpen threads lanes clocks fronts None = (s : ℕ) → s < threads → IsOpenFront threads lanes clocks fronts s → ⊥
IsFirstOpen threads lanes clocks fronts (Some t) = (t < threads) × IsOpenFront threads lanes clocks fronts t × ((s : ℕ) → s < t → IsOpenFront threads lanes clocks fronts s → ⊥)

-- each thread's front is the first of its nodes from some one on
pub record AreStarts (lanes : List ℕ) (from : ℕ) (fronts : List ℕ) : Type 0 where
  pub low : (w : ℕ) → from ≤ w → w < length lanes → front_of fronts (slice_index lanes w) ≤ w
  pub lane : (w : ℕ) → from ≤ w → w < length lanes → slice_index lanes (front_of fronts (slice_index lanes w)) ≡ slice_index lanes w
