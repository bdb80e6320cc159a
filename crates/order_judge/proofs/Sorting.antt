-- Live ranges with their numbers, sorted.
use Rattle.std.proofs.Common.{◌≡◌, ℕ, ◌<◌, ◌≤◌, ◌-◌, List, length, get_or, sym, ◌∙◌, ap, subst, arith, Ordering, is_lt, nat_cmp, zero, suc, ◌+◌, false, true, refl, inl, inr, ◌⊎◌}
use Rattle.std.specs.Prelude.{Contains, IsPermutation, nat_lt, eqb}
use Rattle.std.proofs.lemmas.List.{get_or_default}
use Rattle.std.proofs.lemmas.List.Elements.{Contains-get_or}
use Rattle.std.proofs.lemmas.List.Sorted.{IsPermutation-sym, Contains-permutation}
use Rattle.std.specs.Ordering.{ordering_then}
use Rattle.std.proofs.lemmas.Bool.{cases_Bool, eq-eqb, both_ways, ltb-true, ltb-false}
use Rattle.order_judge.specs.declared.live_ranges.LiveRange.{LiveRange}
use Rattle.order_judge.specs.declared.sorted.Numbered.{Numbered}
use Rattle.order_judge.specs.LiveRanges.{range_at}
use Rattle.order_judge.specs.Sorted.{no_numbered, numbered_at, live_at, AreNumbered, AreSorted}

abbrev pub with_number : List LiveRange → ℕ → Numbered
with_number ranges k = record { range = range_at ranges k; number = k }

pub numbered_all : (ranges : List LiveRange) (list : List Numbered) → length list ≡ length ranges → ((k : ℕ) → k < length ranges → numbered_at list k ≡ with_number ranges k) → AreNumbered ranges list
numbered_all ranges list e h = record {
  known = λ k l. let q = h k (omega (arith, l, e)) in let n : (numbered_at list k).number ≡ k = ap (λ (x : Numbered). x.number) q in
      (omega (arith, n, l, e), ap (λ (x : Numbered). x.range) q ∙ ap (range_at ranges) (sym n));
  all = λ i l. (i, omega (arith, l, e), ap (λ (x : Numbered). x.number) (h i l));
}

-- a list with the same elements in another order
pub numbered-moved : (ranges : List LiveRange) (list sorted : List Numbered) → IsPermutation list sorted → AreNumbered ranges list → AreNumbered ranges sorted
numbered-moved ranges list sorted p n = record { known = known; all = all }
  where
    known : (k : ℕ) → k < length sorted → ((numbered_at sorted k).number < length ranges) × (live_at sorted k ≡ range_at ranges (numbered_at sorted k).number)
    known k l = go (Contains-permutation sorted list (numbered_at sorted k) (IsPermutation-sym list sorted p) (Contains-get_or sorted k no_numbered l))
      where
        go : Contains list (numbered_at sorted k) → ((numbered_at sorted k).number < length ranges) × (live_at sorted k ≡ range_at ranges (numbered_at sorted k).number)
        go (i, m, e) =
            let P : Numbered → Type 0 = λ x. (x.number < length ranges) × (x.range ≡ range_at ranges x.number) in
            subst P (get_or_default list i no_numbered (numbered_at sorted k) m ∙ e) (n.known i m)

    all : (i : ℕ) → i < length ranges → (k : ℕ) × (k < length sorted) × ((numbered_at sorted k).number ≡ i)
    all i l = let (k, m, e) = n.all i l in go k e (Contains-permutation list sorted (numbered_at list k) p (Contains-get_or list k no_numbered m))
      where
        go : (k : ℕ) → (numbered_at list k).number ≡ i → Contains sorted (numbered_at list k) → (k : ℕ) × (k < length sorted) × ((numbered_at sorted k).number ≡ i)
        go k e (j, h, q) = (j, h, ap (λ (x : Numbered). x.number) (get_or_default sorted j no_numbered (numbered_at list k) h ∙ q) ∙ e)

-- the one is of an earlier word than the other, or of the same and begins no later
abbrev pub IsNoLater : Numbered → Numbered → Type 0
IsNoLater x y = (x.range.word ≤ y.range.word) × (x.range.word ≡ y.range.word → x.range.from ≤ y.range.from)

-- two numbers compared after two others
lex : (a b c d : ℕ) (e f : Ordering) → is_lt (ordering_then (ordering_then (nat_cmp a b) (ordering_then (nat_cmp c d) e)) f) ≡ false → (b ≤ a) × (a ≡ b → d ≤ c)
lex a b c d e f h = (first (cases_Bool (nat_lt a b)), λ q. second q (cases_Bool (nat_lt c d)))
  where
    first : (nat_lt a b ≡ true) ⊎ (nat_lt a b ≡ false) → b ≤ a
    first (inl t) = absurd (both_ways _ h (rw t refl))
    first (inr t) = ltb-false a b t

    second : a ≡ b → (nat_lt c d ≡ true) ⊎ (nat_lt c d ≡ false) → d ≤ c
    second q (inl t) =
        let less : nat_lt a b ≡ false = not_less (cases_Bool (nat_lt a b)) in
        let same : eqb a b ≡ true = eq-eqb a b q in
        absurd (both_ways _ h (rw (less, same, t) refl))
      where
        not_less : (nat_lt a b ≡ true) ⊎ (nat_lt a b ≡ false) → nat_lt a b ≡ false
        not_less (inl u) = absurd (let l = ltb-true a b u in omega (arith, l, q))
        not_less (inr u) = u
    second q (inr t) = ltb-false c d t

-- what holds of neighbours, of each with itself, and across, holds of each with each later one
far : (list : List Numbered) → ((k : ℕ) → k + 1 < length list → IsNoLater (numbered_at list k) (numbered_at list (k + 1))) → (m k : ℕ) → k + m < length list →
    IsNoLater (numbered_at list k) (numbered_at list (k + m))
far list near zero k l = let P : ℕ → Type 0 = λ n. IsNoLater (numbered_at list k) (numbered_at list n) in subst P (let e : k ≡ k + 0 = omega arith in e) (omega arith, λ e. omega arith)
far list near (suc m) k l = go (far list near m k (omega (arith, l))) (near (k + m) (omega (arith, l)))
  where
    go : IsNoLater (numbered_at list k) (numbered_at list (k + m)) → IsNoLater (numbered_at list (k + m)) (numbered_at list (k + m + 1)) → IsNoLater (numbered_at list k) (numbered_at list (k + suc m))
    go (a, b) (c, d) =
        let P : ℕ → Type 0 = λ n. IsNoLater (numbered_at list k) (numbered_at list n) in
        subst P (let e : k + m + 1 ≡ k + suc m = omega arith in e)
        (omega (arith, a, c), λ e. let x = b (omega (arith, a, c, e)) in let y = d (omega (arith, a, c, e)) in omega (arith, x, y))

pub sorted_by : (list : List Numbered) →
    ((k : ℕ) (d : Numbered) → 0 ≤ k → k + 1 < length list → is_lt (ordering_then (ordering_then (nat_cmp (get_or list (k + 1) d).range.word (get_or list k d).range.word)
    (ordering_then (nat_cmp (get_or list (k + 1) d).range.from (get_or list k d).range.from) (nat_cmp (get_or list (k + 1) d).range.to (get_or list k d).range.to)))
    (nat_cmp (get_or list (k + 1) d).number (get_or list k d).number)) ≡ false) → AreSorted list
sorted_by list h = record {
  words = λ k l m n. (rel k l m n).0;
  starts = λ k l m n e. (rel k l m n).1 e;
}
  where
    near : (k : ℕ) → k + 1 < length list → IsNoLater (numbered_at list k) (numbered_at list (k + 1))
    near k l =
        let (a, b) = lex (live_at list (k + 1)).word (live_at list k).word (live_at list (k + 1)).from (live_at list k).from _ _ (h k no_numbered (omega arith) l) in
        (a, λ e. b (sym e))

    rel : (k l : ℕ) → k ≤ l → l < length list → IsNoLater (numbered_at list k) (numbered_at list l)
    rel k l m n =
        let P : ℕ → Type 0 = λ i. IsNoLater (numbered_at list k) (numbered_at list i) in
        let e : k + (l - k) ≡ l = omega (arith, m) in
        subst P e (far list near (l - k) k (omega (arith, e, n)))
