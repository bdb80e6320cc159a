use Rattle.std.proofs.Common.{◌∙◌}
use Rattle.order_judge.specs.Judging.{no_read}
use Rattle.order_judge.proofs.Ranges.{ranges_more}
use Rattle.order_judge.proofs.judging.ranges_of.Goals as goal

pub loop-read-preserved : goal.loop-read-preserved
loop-read-preserved c =
    let (later, items) =
    ranges_more c.args.reads.now c.args.places.now c.loop-read.ranges.items c.loop-read.read-index no_read c.loop-read-test.true c.loop-read.invariant c.if-to-from.false in
    (later, c.in_ok-push.ensures.items ∙ items)
