-- Memory for a search: where it stands, each pair is decided once at most, and each may cost the edges of its longer side.
use Rattle.std.specs.Prelude.{◌≡◌, ℕ, ◌+◌, ◌≤◌, List, [], ◌∷◌, ◌⊎◌, length, take, reverse, vec_capacity}
use Rattle.std.specs.Global.{Vec}
use Rattle.plain_search.specs.declared.Edge.{Edge}
use Rattle.plain_search.specs.Edges.{Implies}
use Rattle.plain_search.specs.Searches.{Pair}
use Rattle.order_graph.specs.Graphs.{GraphState, edges_of}
use Rattle.constraints.specs.Constraints.{longer_side, longer_sides}
use Rattle.order_solver.specs.declared.search.Frame.{Frame}
use Rattle.order_solver.specs.Rivals.{Rivalry, source_at, pair_in, pairs_from}
use Rattle.order_solver.specs.Frames.{pair_at, edges_with}

-- what all pairs may cost
abbrev pub side_edges_in : Rivalry → ℕ
side_edges_in r = longer_sides (pairs_from r 0 r.words)

-- the edges imply one side of the pair
abbrev pub IsDecided : List Edge → Pair → Type 0
IsDecided edges pair = Implies edges pair.lesser ⊎ Implies edges pair.greater

-- the edges imply neither side of the pair of these sources of the word
abbrev pub AreUndecided : Rivalry → List Edge → ℕ → ℕ → ℕ → Type 0
AreUndecided r edges word i j = IsDecided edges (pair_in r word (source_at r word i) (source_at r word j)) → ⊥

-- some of these pairs are decided, and cost so much together
abbrev pub HaveCost : List Edge → List Pair → ℕ → Type 0
HaveCost edges [] cost = cost ≡ 0
HaveCost edges (pair ∷ pairs) cost = HaveCost edges pairs cost ⊎
    (IsDecided edges pair × (rest : ℕ) × (cost ≡ rest + longer_side pair) × HaveCost edges pairs rest)

-- no more edges were added, and no more frames stand, than the decided pairs cost; memory for so many edges is enough for the other pairs too
pub record Fits (r : Rivalry) (memory frames : ℕ) (edges : List Edge) (added : ℕ) : Type 0 where
  pub cost : ℕ
  pub decided : HaveCost edges (pairs_from r 0 r.words) cost
  pub few : frames ≤ cost
  pub enough : side_edges_in r + added ≤ memory + cost

-- so it is with the memory that the graph has
pub record HasRoom (r : Rivalry) (memory frames : ℕ) (g : GraphState) : Type 0 where
  pub fits : Fits r memory frames (edges_of g) (length g.added)
  pub spare : memory ≤ g.spare + length g.added

-- so it was at each frame, and its pair was not decided there
abbrev pub FramesFit : Rivalry → ℕ → List Edge → List Frame → Type 0
FramesFit r memory added [] = Unit {0}
FramesFit r memory added (frame ∷ frames) = Fits r memory (length frames) (edges_with r (take frame.mark added)) (length (take frame.mark added)) ×
    (IsDecided (edges_with r (take frame.mark added)) (pair_at r frame.at) → ⊥) × FramesFit r memory (take frame.mark added) frames

-- the search has the memory that it needs: for edges, and for so many frames
pub record HasMemory (r : Rivalry) (memory : ℕ) (g : GraphState) (frames : List Frame) (capacity : ℕ) : Type 0 where
  pub room : HasRoom r memory (length frames) g
  pub past : FramesFit r memory g.added frames
  pub enough : side_edges_in r ≤ capacity

-- at most so many edges were added, each for memory that was spare
pub record SpendsAtMost (count : ℕ) (old new : GraphState) : Type 0 where
  pub added : length new.added ≤ length old.added + count
  pub spare : old.spare + length old.added ≤ new.spare + length new.added

abbrev pub KeepsRoom : Rivalry → GraphState → GraphState → Type 0
KeepsRoom r old new = (memory frames : ℕ) → HasRoom r memory frames old → HasRoom r memory frames new

abbrev pub LacksRoom : Rivalry → GraphState → Type 0
LacksRoom r g = (memory frames : ℕ) → HasRoom r memory frames g → ⊥

abbrev pub KeepsMemory : Rivalry → GraphState → List Frame → ℕ → GraphState → List Frame → ℕ → Type 0
KeepsMemory r old frames capacity new frames' capacity' = (memory : ℕ) → HasMemory r memory old frames capacity → HasMemory r memory new frames' capacity'

abbrev pub LacksMemory : Rivalry → GraphState → List Frame → ℕ → Type 0
LacksMemory r g frames capacity = (memory : ℕ) → HasMemory r memory g frames capacity → ⊥

-- the same of the frames that stand in a vector
abbrev pub StackKeepsMemory : Rivalry → GraphState → Vec Frame → GraphState → Vec Frame → Type 0
StackKeepsMemory r old stack new stack' = KeepsMemory r old (reverse stack.items) (vec_capacity stack) new (reverse stack'.items) (vec_capacity stack')

abbrev pub StackLacksMemory : Rivalry → GraphState → Vec Frame → Type 0
StackLacksMemory r g stack = LacksMemory r g (reverse stack.items) (vec_capacity stack)

-- there is not memory for the longer sides of all pairs, and for a frame at each of their edges
abbrev pub LacksSideMemory : Rivalry → GraphState → Vec Frame → Type 0
LacksSideMemory r g stack = side_edges_in r ≤ g.spare → side_edges_in r ≤ vec_capacity stack → ⊥
