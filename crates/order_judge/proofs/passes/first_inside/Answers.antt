use Rattle.std.proofs.Common.{◌≡◌, ℕ, ◌+◌, ◌<◌, ◌≤◌, ◌⊎◌, subst, sym, ◌∙◌, arith, inl, inr}
use Rattle.std.proofs.lemmas.Bool.{cases_lt}
use Rattle.order_judge.specs.LiveRanges.{BeginsInside}
use Rattle.order_judge.proofs.Fronts.{IsFront, front_more, front_hit, front_miss}
use Rattle.order_judge.proofs.Least.{IsLeastAmong, least_hit, least_miss}
use Rattle.order_judge.proofs.passes.first_inside.Goals as goal
use Rattle.order_judge.proofs.passes.first_inside.Goals.{then-one-front, else-one-front}

one-more : (k p : ℕ) → p < k + 1 → (p < k) ⊎ (p ≡ k)
one-more k p l = go (cases_lt p k)
  where
    go : (p < k) ⊎ (k ≤ p) → (p < k) ⊎ (p ≡ k)
    go (inl m) = inl m
    go (inr m) = inr (omega (arith, l, m))

pub loop-one-preserved : goal.loop-one-preserved
loop-one-preserved c =
    let sorted = c.args.sorted.now in
    let k = c.loop-one.one-index in
    let l = c.loop-one-test.true in
    let f : IsFront sorted (k + 1) c.pass.new.self = subst (IsFront sorted (k + 1)) (sym c.pass.ensures) (front_more sorted k _ c.requires l c.loop-one.invariant.0) in (
      f,
      elim c.if-one-front.branch [
        | then-one-front w ↦ subst (IsLeastAmong (λ (p : ℕ). p < k + 1) BeginsInside sorted) (sym (w.least-is ∙ w.min-least.ensures))
            (least_hit _ _ _ sorted _ k (one-more k) l c.loop-one.invariant.1 (front_hit sorted k _ l f w.if-one-front.true))
        | else-one-front w ↦ subst (IsLeastAmong (λ (p : ℕ). p < k + 1) BeginsInside sorted) (sym w.least-is)
            (least_miss _ _ _ sorted _ k (one-more k) c.loop-one.invariant.1 (front_miss sorted k _ c.requires l f w.if-one-front.false))
      ],
    )
