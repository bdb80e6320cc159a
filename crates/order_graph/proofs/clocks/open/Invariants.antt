use Rattle.std.proofs.Common.{◌≡◌, ℕ, ◌<◌}
use Rattle.std.specs.Prelude.{slice_index}
use Rattle.order_graph.specs.Clocks.{none}
use Rattle.order_graph.proofs.Sweeping.{IsMarked}
use Rattle.order_graph.proofs.clocks.open.Given as goal

abbrev pub invariant-loop-place : goal.invariant-loop-place
invariant-loop-place l = (k : ℕ) → k < l.place-index → slice_index l.clocks k ≡ none

abbrev pub invariant-loop-node : goal.invariant-loop-node
invariant-loop-node l = IsMarked l.threads l.lanes l.node l.clocks
