use Rattle.order_graph.proofs.Sweeping.{ChainsSwept}
use Rattle.order_graph.proofs.clocks.sweep_chains.Given as goal

abbrev pub invariant-loop-k : goal.invariant-loop-k
invariant-loop-k l = ChainsSwept l.threads l.lanes l.edges l.k l.initial.clocks l.clocks l.changed
