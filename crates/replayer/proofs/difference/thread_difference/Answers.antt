use Rattle.replayer.proofs.Items.{parts-differ-at, parts-same-all}
use Rattle.replayer.proofs.difference.thread_difference.Goals as goal

pub returns-then-not-is_same : goal.returns-then-not-is_same
returns-then-not-is_same c =
    parts-differ-at c.args.thread c.loop-place.place c.min-common.result c.args.logged.now c.args.found.now c.at-there.result c.at-here.result (cc (c.min-common.ensures, c.len.ensures, c.len-2.ensures)) c.loop-place-test.true
    c.loop-place.invariant c.at-there.ensures c.at-here.ensures (λ e. (let t = c.if-not-is_same.ensures.1 e in cc t))

pub returns : goal.returns
returns c =
    parts-same-all c.min-common.result c.loop-place.place c.args.logged.now c.args.found.now (cc (c.min-common.ensures, c.len.ensures, c.len-2.ensures)) c.loop-place-test.false c.loop-place.invariant
