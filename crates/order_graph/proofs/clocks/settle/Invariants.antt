use Rattle.std.proofs.Common.{sum}
use Rattle.order_graph.specs.Shapes.{shape}
use Rattle.order_graph.specs.Clocks.{IsOpening}
use Rattle.order_graph.proofs.clocks.settle.Given as goal

abbrev pub invariant-sweeps : goal.invariant-sweeps
invariant-sweeps l = IsOpening (shape l.lanes l.edges) l.threads l.initial.clocks → IsOpening (shape l.lanes l.edges) l.threads l.clocks

abbrev pub decreases-sweeps : goal.decreases-sweeps
decreases-sweeps l = sum l.clocks
