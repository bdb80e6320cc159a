use Rattle.order_graph.specs.Shapes.{shape}
use Rattle.order_graph.proofs.Pulling.{IsInto}
use Rattle.order_graph.proofs.carry.lower_into.Given as goal

abbrev pub invariant-loop-at : goal.invariant-loop-at
invariant-loop-at l = IsInto (shape l.lanes l.edges) l.threads l.node l.at l.fn.clocks l.fn.work.items l.clocks l.work.items

abbrev pub decreases-loop-at : goal.decreases-loop-at
decreases-loop-at l = l.at
