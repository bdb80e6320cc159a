use Rattle.std.proofs.Common.{ℕ, ◌+◌, List, sym, subst}
use Rattle.std.proofs.lemmas.Bool.{both_ways}
use Rattle.order_judge.proofs.Chaining.{AreRisen, RisesHere, risen-more, risen-not}
use Rattle.order_judge.proofs.rising.chains_rise.Goals as goal

pub returns-then-not-rises : goal.returns-then-not-rises
returns-then-not-rises c = (
  λ f. absurd (cc f),
  λ h. absurd (risen-not c.args.counts.now c.args.places.now c.loop-count.count-index c.loop-count.rest.now c.loop-count.invariant c.loop-count-test.true
      (λ r. both_ways c.rises.result c.if-not-rises.true (c.rises.ensures.1 (subst RisesHere (sym c.split_at.ensures.front) r))) h),
)

pub loop-count-preserved : goal.loop-count-preserved
loop-count-preserved c =
    subst (λ (xs : List ℕ). AreRisen c.args.counts.now c.args.places.now (c.loop-count.count-index + 1) xs) (sym c.split_at.ensures.back)
    (risen-more c.args.counts.now c.args.places.now c.loop-count.count-index c.loop-count.rest.now c.loop-count.invariant c.loop-count-test.true
    (subst RisesHere c.split_at.ensures.front (c.rises.ensures.0 c.if-not-rises.false)))
