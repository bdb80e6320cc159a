-- Clocks: for node x and thread t the number at x * threads + t.
use Rattle.std.specs.Prelude.{◌≡◌, ℕ, ◌+◌, ◌*◌, ◌^◌, ◌<◌, ◌≤◌, ◌⊎◌, Bool, true, false, List, length, slice_index, sum, Contains}
use Rattle.plain_search.specs.declared.Edge.{Edge}
use Rattle.order_graph.specs.Shapes.{Shape, arrow, IsStep, IsNext, Leads}

abbrev pub none : ℕ
none = 4294967295

abbrev pub clock : ℕ → List ℕ → ℕ → ℕ → ℕ
clock threads clocks x t = slice_index clocks (x * threads + t)

-- w is a node of thread t, and x leads to it
pub record IsReached (g : Shape) (x t w : ℕ) : Type 0 where
  pub node : w < length g.lanes
  pub lane : slice_index g.lanes w ≡ t
  pub leads : Leads g x w

-- each clock says only what is so
pub record IsSound (g : Shape) (threads : ℕ) (clocks : List ℕ) : Type 0 where
  pub sound : (x t : ℕ) → x < length g.lanes → t < threads → (clock threads clocks x t ≡ none) ⊎ IsReached g x t (clock threads clocks x t)

-- each clock says only what is so, and at least that x leads to x itself
pub record IsOpening (g : Shape) (threads : ℕ) (clocks : List ℕ) : Type 0 where
  pub sound : IsSound g threads clocks
  pub own : (x : ℕ) → x < length g.lanes → clock threads clocks x (slice_index g.lanes x) ≤ x

-- from u to v clocks do not fall
abbrev pub Rises : ℕ → List ℕ → ℕ → ℕ → Type 0
Rises threads clocks u v = (t : ℕ) → t < threads → clock threads clocks u t ≤ clock threads clocks v t

pub record IsNextClosed (lanes : List ℕ) (threads : ℕ) (clocks : List ℕ) : Type 0 where
  pub closed : (u v : ℕ) → IsNext lanes u v → Rises threads clocks u v

pub record AreEdgesClosed (edges : List Edge) (threads : ℕ) (clocks : List ℕ) : Type 0 where
  pub closed : (u v : ℕ) → Contains edges (arrow u v) → Rises threads clocks u v

pub record IsClosed (g : Shape) (threads : ℕ) (clocks : List ℕ) : Type 0 where
  pub closed : (u v : ℕ) → IsStep g u v → Rises threads clocks u v

-- each number is the least node of its thread that its node leads to, or none
pub record IsExact (g : Shape) (threads : ℕ) (clocks : List ℕ) : Type 0 where
  pub opening : IsOpening g threads clocks
  pub closed : IsClosed g threads clocks

-- the clock of one node was lowered by that of another, at the threads below some one
pub record IsLowering (threads u v below : ℕ) (old new : List ℕ) : Type 0 where
  pub less : (i : ℕ) → slice_index new i ≤ slice_index old i
  pub kept : (x t : ℕ) → t < threads → (clock threads new x t ≡ clock threads old x t) ⊎ ((x ≡ u) × (clock threads new x t ≡ clock threads old v t))
  pub lowered : (t : ℕ) → t < below → clock threads new u t ≤ clock threads old v t

-- nothing changed, or the sum fell
pub record IsTold (old new : List ℕ) (changed : Bool) : Type 0 where
  pub size : length new ≡ length old
  pub still : changed ≡ false → new ≡ old
  pub fell : changed ≡ true → sum new < sum old

pub record Lowered (threads u v : ℕ) (old new : List ℕ) (changed : Bool) : Type 0 where
  pub lowering : IsLowering threads u v threads old new
  pub told : IsTold old new changed

-- the nodes are few enough, and there is a clock for each
pub record HasRoom (threads : ℕ) (lanes : List ℕ) (edges : List Edge) (size : ℕ) : Type 0 where
  pub nodes_few : length lanes < 2 ^ 32
  pub lane : (x : ℕ) → x < length lanes → slice_index lanes x < threads
  pub places : size ≡ length lanes * threads
  pub ends : (u v : ℕ) → Contains edges (arrow u v) → (u < length lanes) × (v < length lanes)

-- clocks were lowered along edges
pub record Swept (g : Shape) (threads : ℕ) (old new : List ℕ) (changed : Bool) : Type 0 where
  pub opening : IsOpening g threads old → IsOpening g threads new
  pub told : IsTold old new changed
