use Rattle.std.proofs.Common.{length, sym, ◌∙◌}
use Rattle.order_graph.specs.Shapes.{shape}
use Rattle.order_graph.proofs.Pulling.{nodes-popped, carrying-more, carrying-weight, waits-closed}
use Rattle.order_graph.proofs.carry.carry.Goals as goal

pub lower_into-requires-clause-node : goal.lower_into-requires-clause-node
lower_into-requires-clause-node c = (nodes-popped (length c.args.lanes.now) c.in-Some.node c.pop.new.self.items c.loop-node.work.items c.in-Some.ensures.items c.loop-node.invariant.nodes).1

pub loop-node-preserved : goal.loop-node-preserved
loop-node-preserved c = carrying-more (shape c.args.lanes.now c.args.edges.now) c.args.threads c.in-Some.node c.args.clocks.now c.args.work.now.items c.loop-node.clocks c.loop-node.work.items c.pop.new.self.items
    c.lower_into.new.clocks c.lower_into.new.work.items c.in-Some.ensures.items c.loop-node.invariant c.lower_into.ensures.opening (c.lower_into.ensures.carried c.if-not-lower_into.false)

pub loop-node-smaller : goal.loop-node-smaller
loop-node-smaller c = carrying-weight (shape c.args.lanes.now c.args.edges.now) c.args.threads c.in-Some.node c.loop-node.clocks c.loop-node.work.items c.pop.new.self.items
    c.lower_into.new.clocks c.lower_into.new.work.items c.in-Some.ensures.items (c.lower_into.ensures.carried c.if-not-lower_into.false)

pub returns-clause-closed : goal.returns-clause-closed
returns-clause-closed c = λ z w. waits-closed (shape c.args.lanes.now c.args.edges.now) c.args.threads c.loop-node.work.items c.loop-node.clocks (sym c.loop-node.work.ok.0 ∙ c.in_default.ensures.cases.0) (c.loop-node.invariant.waits w)
