use Rattle.std.proofs.Common.{subst}
use Rattle.order_judge.specs.Judging.{AreRanges}
use Rattle.order_judge.proofs.Verdicts.{turns-told}
use Rattle.order_judge.proofs.judging.take_turns.Goals as goal

pub returns : goal.returns
returns c =
    turns-told c.args.places.now c.args.reads.now c.in-Some.ranges _ _ c.is_none.result (subst (AreRanges c.args.reads.now c.args.places.now) c.in-Some.is c.in_ok-ranges.ensures) c.deref.ensures.value
    c.in_ok-first_overlap.ensures c.is_none.ensures
