-- From each place of a list of answers the next one that is yes: filled in from the end.
use Rattle.std.proofs.Common.{◌≡◌, ℕ, ◌+◌, ◌<◌, ◌≤◌, Bool, true, false, List, length, get_or, set, sym, ◌∙◌, subst, arith, inl, inr, ◌⊎◌}
use Rattle.std.proofs.lemmas.Bool.{cases_lt}
use Rattle.std.proofs.lemmas.List.{length-set, get_or-set_same, get_or-set_other}
use Rattle.audit.specs.NextSet.{IsNextSet, AreNextSet}

-- from one place on they are right
pub record FilledFrom (flags : List Bool) (left : ℕ) (next : List ℕ) : Type 0 where
  pub many : length next ≡ length flags + 1
  pub within : left ≤ length flags
  pub each : (i : ℕ) → left ≤ i → i ≤ length flags → IsNextSet flags i (get_or next i 0)

pub at-end : (flags : List Bool) → IsNextSet flags (length flags) (length flags)
at-end flags = record { later = omega arith; within = omega arith; unset = λ k a b. absurd (omega (arith, a, b)); at = λ l. absurd (omega (arith, l)) }

pub at-set : (flags : List Bool) (i : ℕ) → i < length flags → get_or flags i false ≡ true → IsNextSet flags i i
at-set flags i l t = record { later = omega arith; within = omega (arith, l); unset = λ k a b. absurd (omega (arith, a, b)); at = λ m. t }

pub past-unset : (flags : List Bool) (i next : ℕ) → i < length flags → get_or flags i false ≡ false → IsNextSet flags (i + 1) next → IsNextSet flags i next
past-unset flags i next l f n = record {
  later = (let a = n.later in omega (arith, a));
  within = n.within;
  unset = λ k a b. go k b (cases_lt i k) a;
  at = n.at;
}
  where
    go : (k : ℕ) → k < next → (i < k) ⊎ (k ≤ i) → i ≤ k → get_or flags k false ≡ false
    go k b (inl m) a = n.unset k (omega (arith, m)) b
    go k b (inr m) a = let e : i ≡ k = omega (arith, m, a) in subst (λ (x : ℕ). get_or flags x false ≡ false) e f

pub filled-more : (flags : List Bool) (left i value : ℕ) (next new : List ℕ) → FilledFrom flags left next → left ≡ i + 1 → new ≡ set next i value → IsNextSet flags i value → FilledFrom flags i new
filled-more flags left i value next new filled e q one = subst (FilledFrom flags i) (sym q) (record {
  many = length-set next i value ∙ filled.many;
  within = (let w = filled.within in omega (arith, w, e));
  each = λ k a b. go k b (cases_lt i k) a;
})
  where
    go : (k : ℕ) → k ≤ length flags → (i < k) ⊎ (k ≤ i) → i ≤ k → IsNextSet flags k (get_or (set next i value) k 0)
    go k b (inl m) a = subst (IsNextSet flags k) (sym (get_or-set_other next i k value 0 (λ x. absurd (omega (arith, m, x))))) (filled.each k (omega (arith, m, e)) b)
    go k b (inr m) a =
        let s : i ≡ k = omega (arith, m, a) in
        subst (λ (x : ℕ). IsNextSet flags x (get_or (set next i value) x 0)) s
        (subst (IsNextSet flags i) (sym (get_or-set_same next i value 0 (let l = filled.many in let w = filled.within in omega (arith, l, w, e)))) one)

pub filled-all : (flags : List Bool) (left : ℕ) (next : List ℕ) → FilledFrom flags left next → left ≡ 0 → AreNextSet flags next
filled-all flags left next filled e = record { many = filled.many; each = λ i l. filled.each i (omega (arith, e)) l }
