-- A number under a cap, digit after digit.
use Rattle.std.proofs.Common.{◌≡◌, ℕ, ◌+◌, ◌*◌, ◌<◌, ◌≤◌, List, length, take, get_or, min, sym, ap, ◌∙◌, ⊎_elim, arith, mul-le-mul_left, mul-le-mul_right}
use Rattle.std.proofs.lemmas.Bool.{cases_lt}
use Rattle.std.specs.Char.{digit_value}
use Rattle.std.specs.Str.Parse.{digits_value}
use Rattle.std.proofs.lemmas.Int.Digits.{digits_value_more}

-- what is over the cap stays over it
capped_step : (most base d v : ℕ) → 1 ≤ base → min (min (min most v * base) most + d) most ≡ min most (v * base + d)
capped_step most base d v h =
    ⊎_elim (λ (l : v < most). let e : min most v ≡ v = omega arith in ap (λ n. min (min (n * base) most + d) most) e ∙ capped_sum most (v * base) d)
    (λ (g : most ≤ v).
    let e : min most v ≡ most = omega arith in
    let one : most * 1 ≤ most * base = mul-le-mul_left most h in
    let more : most * base ≤ v * base = mul-le-mul_right base g in
    ap (λ n. min (min (n * base) most + d) most) e ∙ omega arith)
    (cases_lt v most)
  where
    capped_sum : (m n d : ℕ) → min (min n m + d) m ≡ min m (n + d)
    capped_sum m n d = omega arith

-- one more digit
pub capped_more : (most base : ℕ) (bs : List ℕ) (i d v : ℕ) → 1 ≤ base → i < length bs → v ≡ min most (digits_value base (take i bs)) → d ≡ digit_value (get_or bs i 0)
    → min (min (v * base) most + d) most ≡ min most (digits_value base (take (i + 1) bs))
capped_more most base bs i d v one within e f =
    ap (λ n. min (min (n * base) most + d) most) e ∙ capped_step most base d (digits_value base (take i bs)) one
    ∙ ap (λ x. min most (digits_value base (take i bs) * base + x)) f ∙ ap (min most) (sym (digits_value_more base bs i within))
