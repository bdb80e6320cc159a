use Rattle.std.proofs.Common.{length, ◌∙◌}
use Rattle.order_graph.proofs.Sweeping.{marked-none, marked-more, marked-opening}
use Rattle.order_graph.proofs.clocks.open.Goals as goal

pub loop-node-init : goal.loop-node-init
loop-node-init c = marked-none c.args.threads c.args.lanes.now c.args.edges.now (length c.args.clocks.now) c.loop-place.place-index c.loop-place.clocks c.requires c.loop-place-test.false c.loop-place.invariant

pub loop-node-preserved : goal.loop-node-preserved
loop-node-preserved c = marked-more c.args.threads c.args.lanes.now c.args.edges.now (length c.args.clocks.now) c.loop-node.node c.loop-node.clocks c.requires
    (c.loop-node.auto.clocks ∙ c.loop-place.auto.clocks) c.loop-node-test.true c.loop-node.invariant

pub returns : goal.returns
returns c = marked-opening c.args.threads c.args.lanes.now c.args.edges.now c.loop-node.node c.loop-node.clocks c.loop-node-test.false c.loop-node.invariant
