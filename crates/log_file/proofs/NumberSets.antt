-- What a set of numbers keeps stays so when one more is put in.
use Rattle.std.proofs.Common.{◌≡◌, ℕ, zero, suc, ◌/◌, ◌^◌, ◌<◌, ◌≤◌, Bool, true, false, cond, eqb, ◌||◌, List, [], ◌∷◌, ◌++◌, length, refl, sym, ◌∙◌, ap, subst, arith, inl, inr, ◌⊎◌}
use Rattle.std.specs.Prelude.{slice_index, Contains}
use Rattle.std.specs.Ordering.{nat_cmp, is_eq}
use Rattle.std.specs.List.{list_any}
use Rattle.std.specs.BTreeSet.{BTreeSet}
use Rattle.std.proofs.lemmas.Bool.Decides.{nat_tests}
use Rattle.std.proofs.lemmas.List.Elements.{Contains-append_cases}
use Rattle.std.proofs.lemmas.Map.Views.{Contains-from_any, exact_unsigned_eq}
use Rattle.log_file.specs.NumberSets.{HasNumbers, AreRaised, Puts}
use Rattle.log_file.proofs.Kept.{one_more}

-- a number that is greater than those of its row is not among them
pub greatest_is_new : (numbers ends : List ℕ) (set : BTreeSet ℕ) (g : Bool) (n : ℕ) → HasNumbers numbers ends set g →
    n / 2 ^ 28 < length ends → slice_index ends (n / 2 ^ 28) ≤ n → list_any (eqb n) numbers ≡ false
greatest_is_new numbers ends set g n has row least = either (list_any (eqb n) numbers) refl
  where
    either : (b : Bool) → list_any (eqb n) numbers ≡ b → list_any (eqb n) numbers ≡ false
    either false e = e
    either true e =
        let below = has.below n (Contains-from_any exact_unsigned_eq n numbers e) row in
        absurd (omega (arith, below, least))

-- what an insertion says of each number
pub equal_or_there : (n q : ℕ) (a : Bool) → cond (is_eq (nat_cmp n q)) true a ≡ (a || eqb q n)
equal_or_there n q true = grind (arith, nat_tests)
equal_or_there n q false = grind (arith, nat_tests)

only_one : (n k : ℕ) → Contains (n ∷ []) k → k ≡ n
only_one n k (zero, there, e) = sym e
only_one n k (suc i, there, e) = absurd (omega (arith, there))

-- with one more number, its row's end raised and the set told
pub one_number_more : (numbers numbers' ends ends' : List ℕ) (set set' : BTreeSet ℕ) (g : Bool) (n : ℕ) → HasNumbers numbers ends set g →
    numbers' ≡ numbers ++ n ∷ [] → AreRaised n ends ends' → Puts g n set set' → HasNumbers numbers' ends' set' g
one_number_more numbers numbers' ends ends' set set' g n has more raised put = subst (λ (ns : List ℕ). HasNumbers ns ends' set' g) (sym more) now
  where
    below : (k : ℕ) → (Contains numbers k ⊎ Contains (n ∷ []) k) → k / 2 ^ 28 < length ends' → k < slice_index ends' (k / 2 ^ 28)
    below k (inl old) row =
        let was = has.below k old (omega (arith, raised.size, row)) in
        omega (arith, was, raised.kept (k / 2 ^ 28))
    below k (inr new) row =
        let same : k ≡ n = only_one n k new in
        subst (λ (m : ℕ). m / 2 ^ 28 < length ends' → m < slice_index ends' (m / 2 ^ 28)) (sym same) (λ r. raised.here (omega (arith, raised.size, r))) row

    now : HasNumbers (numbers ++ n ∷ []) ends' set' g
    now = record {
      below = λ k there row. below k (Contains-append_cases numbers (n ∷ []) k there) row;
      gathered = λ yes q. put yes q ∙ ap (λ (b : Bool). b || eqb q n) (has.gathered yes q) ∙ sym (one_more (eqb q) numbers n);
    }
