use Rattle.std.proofs.Common.{◌<◌, ℕ}
use Rattle.order_graph.specs.Fronts.{IsOpenFront}
use Rattle.order_graph.proofs.fronts.first_open.Given as goal

abbrev pub invariant-loop-thread : goal.invariant-loop-thread
invariant-loop-thread l = (s : ℕ) → s < l.thread → IsOpenFront l.threads l.lanes l.clocks l.fronts s → ⊥
