use Rattle.std.proofs.Common.{length, arith}
use Rattle.order_graph.specs.Shapes.{shape}
use Rattle.order_graph.proofs.Sweeping.{edges-more, edge_fits, swept-none, edges-closed, or-then, or-else}
use Rattle.order_graph.proofs.clocks.sweep_edges.Goals as goal
use Rattle.order_graph.proofs.clocks.sweep_edges.Goals.{then-changed, else-changed}

pub loop-edge-init : goal.loop-edge-init
loop-edge-init c = record { swept = swept-none (shape c.args.lanes.now c.args.edges.now) c.args.threads c.args.clocks.now; rises = λ z k u v n. absurd (omega (arith, n)) }

pub lower-moved-requires-clause-from : goal.lower-moved-requires-clause-from
lower-moved-requires-clause-from c =
    let m = (edge_fits c.args.threads c.args.lanes.now c.args.edges.now (length c.args.clocks.now) c.loop-edge.edge-index c.requires c.loop-edge-test.true).0 in
    let e = c.loop-edge.auto.clocks in omega (arith, m, e)

pub lower-moved-requires-clause-to : goal.lower-moved-requires-clause-to
lower-moved-requires-clause-to c =
    let m = (edge_fits c.args.threads c.args.lanes.now c.args.edges.now (length c.args.clocks.now) c.loop-edge.edge-index c.requires c.loop-edge-test.true).1 in
    let e = c.loop-edge.auto.clocks in omega (arith, m, e)

pub loop-edge-preserved : goal.loop-edge-preserved
loop-edge-preserved c =
    let more = edges-more c.args.threads c.args.lanes.now c.args.edges.now (length c.args.clocks.now) c.loop-edge.edge-index c.args.clocks.now c.loop-edge.clocks c.lower-moved.new.clocks
    c.loop-edge.changed c.lower-moved.result c.if-changed.changed c.requires c.loop-edge-test.true c.loop-edge.invariant c.lower-moved.ensures in
    elim c.if-changed.branch [ then-changed w ↦ more (or-then _ _ _ w.if-changed.true w.changed-is) | else-changed w ↦ more (or-else _ _ _ w.if-changed.false w.changed-is) ]

pub returns-clause-closed : goal.returns-clause-closed
returns-clause-closed c = λ z. edges-closed c.args.threads c.args.edges.now c.loop-edge.edge-index c.loop-edge.clocks c.loop-edge-test.false (c.loop-edge.invariant.rises z)
