use Rattle.order_graph.specs.Clocks.{IsLowering, IsTold}
use Rattle.order_graph.proofs.clocks.lower.Given as goal

abbrev pub invariant-loop-thread : goal.invariant-loop-thread
invariant-loop-thread l = record {
  lowering : IsLowering l.threads l.from l.to l.thread l.initial.clocks l.clocks;
  told : IsTold l.initial.clocks l.clocks l.changed;
}
