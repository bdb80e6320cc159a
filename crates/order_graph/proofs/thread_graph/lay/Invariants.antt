use Rattle.order_graph.proofs.Lanes.{Laid}
use Rattle.order_graph.proofs.thread_graph.lay.Given as goal

abbrev pub invariant-loop-thread : goal.invariant-loop-thread
invariant-loop-thread l = Laid l.counts l.thread l.lanes.items
