use Rattle.order_graph.proofs.Sweeping.{EdgesSwept}
use Rattle.order_graph.proofs.clocks.sweep_edges.Given as goal

abbrev pub invariant-loop-edge : goal.invariant-loop-edge
invariant-loop-edge l = EdgesSwept l.threads l.lanes l.edges l.edge-index l.initial.clocks l.clocks l.changed
