use Rattle.std.proofs.Common.{◌≤◌, ◌-◌, List, length, vec_capacity}
use Rattle.plain_search.specs.declared.Edge.{Edge}
use Rattle.order_graph.specs.Fronts.{IsClocked}
use Rattle.order_graph.proofs.Ready.{IsPlaced}
use Rattle.order_graph.proofs.Placed.{IsOrdered}
use Rattle.order_graph.proofs.fronts.place_all.Given as goal

abbrev pub invariant-loop-thread : goal.invariant-loop-thread
invariant-loop-thread l = record {
  placed : IsPlaced l.lanes l.fronts l.out.items;
  ordered : (edges : List Edge) → IsClocked l.threads l.lanes l.clocks edges → IsOrdered edges (length l.lanes) l.out.items;
  space : length l.lanes ≤ vec_capacity l.out;
}

abbrev pub decreases-loop-thread : goal.decreases-loop-thread
decreases-loop-thread l = length l.lanes - length l.out.items
