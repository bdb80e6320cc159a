use Rattle.std.proofs.Common.{◌+◌, ◌*◌, length, sum}
use Rattle.order_graph.specs.Shapes.{shape}
use Rattle.order_graph.proofs.Pulling.{IsCarrying}
use Rattle.order_graph.proofs.carry.carry.Given as goal

abbrev pub invariant-loop-node : goal.invariant-loop-node
invariant-loop-node l = IsCarrying (shape l.lanes l.edges) l.threads l.initial.clocks l.initial.work.items l.clocks l.work.items

abbrev pub decreases-loop-node : goal.decreases-loop-node
decreases-loop-node l = 2 * sum l.clocks + length l.work.items
