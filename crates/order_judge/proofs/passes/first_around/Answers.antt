use Rattle.std.proofs.Common.{◌≡◌, ℕ, ◌+◌, ◌-◌, ◌<◌, ◌≤◌, ◌⊎◌, length, subst, sym, arith, inl, inr}
use Rattle.std.proofs.lemmas.Bool.{cases_lt}
use Rattle.order_judge.specs.Sorted.{IsAround}
use Rattle.order_judge.proofs.Backs.{IsBack, back_more, back_hit}
use Rattle.order_judge.proofs.Least.{IsLeastAmong, least_hit}
use Rattle.order_judge.proofs.passes.first_around.Goals as goal

one_more : (k p : ℕ) → k - 1 ≤ p → (k ≤ p) ⊎ (p ≡ k - 1)
one_more k p l = go (cases_lt p k)
  where
    go : (p < k) ⊎ (k ≤ p) → (k ≤ p) ⊎ (p ≡ k - 1)
    go (inl m) = inr (omega (arith, l, m))
    go (inr m) = inl m

pub loop-k-preserved-then-back-one : goal.loop-k-preserved-then-back-one
loop-k-preserved-then-back-one c =
    let sorted = c.args.sorted.now in
    let k = c.loop-k.k in
    let t = c.loop-k-test.true in
    let l : k - 1 < length sorted = omega arith in
    let at : IsBack sorted (k - 1 + 1) c.loop-k.back = subst (λ (n : ℕ). IsBack sorted n c.loop-k.back) (let e : k ≡ k - 1 + 1 = omega arith in e) c.loop-k.invariant.0 in
    let b : IsBack sorted (k - 1) c.pass.new.self = subst (IsBack sorted (k - 1)) (sym c.pass.ensures) (back_more sorted (k - 1) _ c.requires l at) in (
      b,
      subst (IsLeastAmong (λ (p : ℕ). k - 1 ≤ p) IsAround sorted) (sym c.min-least.ensures)
          (least_hit _ _ _ sorted _ (k - 1) (one_more k) l c.loop-k.invariant.1 (back_hit sorted (k - 1) _ l (omega arith) b c.if-back-one.true)),
    )
