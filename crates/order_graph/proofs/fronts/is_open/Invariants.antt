use Rattle.std.proofs.Common.{◌<◌, ℕ}
use Rattle.order_graph.specs.Fronts.{Blocks}
use Rattle.order_graph.proofs.fronts.is_open.Given as goal

abbrev pub invariant-loop-other : goal.invariant-loop-other
invariant-loop-other l = (s : ℕ) → s < l.other → Blocks l.threads l.lanes l.clocks l.fronts s l.thread → ⊥
