-- The least number of those live ranges, among the seen ones, that are so to some other one.
use Rattle.std.proofs.Common.{◌≡◌, ℕ, ◌<◌, ◌≤◌, min, List, length, refl, subst, sym, arith, inl, inr, ◌⊎◌}
use Rattle.std.proofs.lemmas.Bool.{cases_lt}
use Rattle.order_judge.specs.declared.live_ranges.LiveRange.{LiveRange}
use Rattle.order_judge.specs.declared.sorted.Numbered.{Numbered}
use Rattle.order_judge.specs.Sorted.{numbered_at, live_at, IsLeastNumber}

-- another one to which the one at p is so
abbrev pub HasOther : (LiveRange → LiveRange → Type 0) → List Numbered → ℕ → Type 0
HasOther IsSo sorted p = (q : ℕ) × (q < length sorted) × IsSo (live_at sorted p) (live_at sorted q)

pub record IsLeastAmong (IsSeen : ℕ → Type 0) (IsSo : LiveRange → LiveRange → Type 0) (sorted : List Numbered) (number : ℕ) : Type 0 where
  pub found : (number ≡ 4294967295) ⊎ ((k l : ℕ) × (k < length sorted) × (l < length sorted) × ((numbered_at sorted k).number ≡ number) × IsSo (live_at sorted k) (live_at sorted l))
  pub least : (k l : ℕ) → IsSeen k → k < length sorted → l < length sorted → IsSo (live_at sorted k) (live_at sorted l) → number ≤ (numbered_at sorted k).number

-- none is seen yet
pub least_none : (IsSeen : ℕ → Type 0) (IsSo : LiveRange → LiveRange → Type 0) (sorted : List Numbered) → ((p : ℕ) → IsSeen p → p < length sorted → ⊥) → IsLeastAmong IsSeen IsSo sorted 4294967295
least_none IsSeen IsSo sorted none = record { found = inl refl; least = λ k l s m n so. absurd (none k s m) }

-- the one at p is seen too, and is so to another one
pub least_hit : (IsSeen IsMore : ℕ → Type 0) (IsSo : LiveRange → LiveRange → Type 0) (sorted : List Numbered) (number p : ℕ) → ((k : ℕ) → IsMore k → IsSeen k ⊎ (k ≡ p)) → p < length sorted →
    IsLeastAmong IsSeen IsSo sorted number → HasOther IsSo sorted p → IsLeastAmong IsMore IsSo sorted (min number (numbered_at sorted p).number)
least_hit IsSeen IsMore IsSo sorted number p only inside least (q, l, so) = record {
  found = found (cases_lt number (numbered_at sorted p).number);
  least = λ k i s m n t. go k i m n t (only k s);
}
  where
    Found : ℕ → Type 0
    Found v = (v ≡ 4294967295) ⊎ ((k l : ℕ) × (k < length sorted) × (l < length sorted) × ((numbered_at sorted k).number ≡ v) × IsSo (live_at sorted k) (live_at sorted l))

    found : (number < (numbered_at sorted p).number) ⊎ ((numbered_at sorted p).number ≤ number) → Found (min number (numbered_at sorted p).number)
    found (inl m) = let e : number ≡ min number (numbered_at sorted p).number = omega (arith, m) in subst Found e least.found
    found (inr m) = inr (p, q, inside, l, omega (arith, m), so)

    go : (k i : ℕ) → k < length sorted → i < length sorted → IsSo (live_at sorted k) (live_at sorted i) → IsSeen k ⊎ (k ≡ p) → min number (numbered_at sorted p).number ≤ (numbered_at sorted k).number
    go k i m n t (inl s) = let a = least.least k i s m n t in omega (arith, a)
    go k i m n t (inr e) = let P : ℕ → Type 0 = λ v. min number (numbered_at sorted p).number ≤ (numbered_at sorted v).number in subst P (sym e) (omega arith)

-- the one at p is seen too, and is so to no other one
pub least_miss : (IsSeen IsMore : ℕ → Type 0) (IsSo : LiveRange → LiveRange → Type 0) (sorted : List Numbered) (number p : ℕ) → ((k : ℕ) → IsMore k → IsSeen k ⊎ (k ≡ p)) →
    IsLeastAmong IsSeen IsSo sorted number → (HasOther IsSo sorted p → ⊥) → IsLeastAmong IsMore IsSo sorted number
least_miss IsSeen IsMore IsSo sorted number p only least none = record {
  found = least.found;
  least = λ k i s m n t. go k i m n t (only k s);
}
  where
    go : (k i : ℕ) → k < length sorted → i < length sorted → IsSo (live_at sorted k) (live_at sorted i) → IsSeen k ⊎ (k ≡ p) → number ≤ (numbered_at sorted k).number
    go k i m n t (inl s) = least.least k i s m n t
    go k i m n t (inr e) = absurd (none (i, n, let P : ℕ → Type 0 = λ v. IsSo (live_at sorted v) (live_at sorted i) in subst P e t))

-- all are seen
pub least_all : (IsSeen : ℕ → Type 0) (IsSo : LiveRange → LiveRange → Type 0) (sorted : List Numbered) (number : ℕ) → ((p : ℕ) → p < length sorted → IsSeen p) → IsLeastAmong IsSeen IsSo sorted number → IsLeastNumber IsSo sorted number
least_all IsSeen IsSo sorted number all least = record { found = least.found; least = λ k l m n so. least.least k l (all k m) m n so }
