use Rattle.std.proofs.Common.{◌+◌, ◌*◌, ◌<◌, length, refl, arith}
use Rattle.order_graph.proofs.Lowering.{lowering-none, told-none, lower-then, lower-else}
use Rattle.order_graph.proofs.clocks.lower.Goals as goal
use Rattle.order_graph.proofs.clocks.lower.Goals.{then-reached-clocks, else-reached-clocks}

pub loop-thread-init : goal.loop-thread-init
loop-thread-init c = record { lowering = lowering-none c.args.threads c.args.from c.args.to c.args.clocks.now; told = told-none c.args.clocks.now }

pub loop-thread-preserved : goal.loop-thread-preserved
loop-thread-preserved c =
    let i = c.loop-thread.invariant in
    let t = c.loop-thread-test.true in
    let s : c.args.from * c.args.threads + c.loop-thread.thread < length c.loop-thread.clocks = omega arith in
    elim c.if-reached-clocks.branch [
      | then-reached-clocks w ↦ (let r = lower-then c.args.threads c.args.from c.args.to c.loop-thread.thread _ c.args.clocks.now c.loop-thread.clocks c.if-reached-clocks.clocks c.loop-thread.changed c.if-reached-clocks.changed t s i.lowering i.told refl w.if-reached-clocks.true w.clocks-is w.changed-is in record { lowering = r.0; told = r.1 })
      | else-reached-clocks w ↦ (let r = lower-else c.args.threads c.args.from c.args.to c.loop-thread.thread c.args.clocks.now c.loop-thread.clocks c.if-reached-clocks.clocks c.loop-thread.changed c.if-reached-clocks.changed t i.lowering i.told w.if-reached-clocks.false w.clocks-is w.changed-is in record { lowering = r.0; told = r.1 })
    ]
