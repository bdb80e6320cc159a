-- Graphs over the nodes of threads: what they are seen as, what they keep, and what adding an edge does.
use Rattle.std.specs.Prelude.{◌≡◌, ℕ, zero, suc, ◌+◌, ◌-◌, ◌<◌, ◌≤◌, Result, Ok, Err, List, [], ◌∷◌, ◌++◌, length, slice_index, sum, take}
use Rattle.light_base.specs.declared.memory.Memory.{Memory}
use Rattle.plain_search.specs.declared.Edge.{Edge}
use Rattle.plain_search.specs.Edges.{IsOrLeadsTo}
pub use Rattle.plain_search.specs.Chains.{links, chains_from}
use Rattle.order_graph.specs.declared.thread_graph.Added.{Added}
use Rattle.order_graph.specs.declared.thread_graph.Added.TheVariants.{In, Cycle}
use Rattle.order_graph.specs.Shapes.{Shape, shape, arrow, lanes_of, IsBefore}
use Rattle.order_graph.specs.Clocks.{HasRoom, IsExact}
use Rattle.order_graph.specs.Links.{AreLinked}

-- the numbers of nodes of the threads, the edges that were added, the newest last, and for how many more there is memory
pub record GraphState : Type 0 where
  pub counts : List ℕ
  pub added : List Edge
  pub spare : ℕ

abbrev pub graph_state : List ℕ → List Edge → ℕ → GraphState
graph_state counts added spare = record { counts = counts; added = added; spare = spare }

-- nodes are numbered from 0, thread after thread
abbrev pub nodes_of : GraphState → ℕ
nodes_of g = sum g.counts

-- the edges of the chains, and those that were added
abbrev pub edges_of : GraphState → List Edge
edges_of g = chains_from 0 g.counts ++ g.added

-- the graph with one more edge
abbrev pub with_added : GraphState → Edge → GraphState
with_added g edge = graph_state g.counts (g.added ++ edge ∷ []) (g.spare - 1)

-- a cycle is told exactly where v is u or comes before it; memory is wanted only where none is spare
abbrev pub Adds : GraphState → ℕ → ℕ → Result Added Memory → GraphState → Type 0
Adds old u v (Ok In) new =
    (IsOrLeadsTo (edges_of old) v u → ⊥) × (new.counts ≡ old.counts) × (new.added ≡ old.added ++ arrow u v ∷ []) × (old.spare ≤ new.spare + 1)
Adds old u v (Ok Cycle) new = IsOrLeadsTo (edges_of old) v u × (new ≡ old)
Adds old u v (Err _) new = (old.spare ≡ 0) × (new ≡ old)

-- the edges that were added first, so many; the memory of the others is spare again
abbrev pub undone : GraphState → ℕ → GraphState
undone g count = graph_state g.counts (take count g.added) (g.spare + (length g.added - count))

-- nodes are numbered thread after thread, no walk leads back to its start, and the clocks are exact
pub record IsGraph (g : Shape) (threads : ℕ) (clocks : List ℕ) : Type 0 where
  pub room : HasRoom threads g.lanes g.added (length clocks)
  pub rising : (i j : ℕ) → i ≤ j → j < length g.lanes → slice_index g.lanes i ≤ slice_index g.lanes j
  pub acyclic : (x : ℕ) → IsBefore g x x → ⊥
  pub exact : IsExact g threads clocks

-- that, with the threads of the nodes laid out, and the edges into each node linked
pub record IsKept (counts lanes : List ℕ) (added : List Edge) (clocks heads older : List ℕ) : Type 0 where
  pub laid : lanes ≡ lanes_of counts
  pub graph : IsGraph (shape lanes added) (length counts) clocks
  pub linked : AreLinked (length lanes) added heads older

-- there is memory for so many more
abbrev pub HasSpare : ℕ → ℕ → ℕ → Type 0
HasSpare spare count capacity = count + spare ≤ capacity
