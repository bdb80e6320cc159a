use Rattle.std.proofs.Common.{◌≤◌, length}
use Rattle.order_graph.specs.Fronts.{AreStarts}
use Rattle.order_graph.proofs.fronts.start.Given as goal

abbrev pub invariant-loop-node : goal.invariant-loop-node
invariant-loop-node l = record { within : l.node ≤ length l.lanes; starts : AreStarts l.lanes l.node l.fronts }

abbrev pub decreases-loop-node : goal.decreases-loop-node
decreases-loop-node l = l.node
