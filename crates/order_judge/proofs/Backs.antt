-- The back of a pass over sorted live ranges from the last one on.
use Rattle.std.proofs.Common.{◌≡◌, ℕ, ◌+◌, ◌<◌, ◌≤◌, true, false, eqb, List, length, refl, sym, ◌∙◌, ap, arith, inl, inr, ◌⊎◌}
use Rattle.std.specs.Prelude.{nat_lt}
use Rattle.std.proofs.lemmas.Bool.{cases_Bool, cases_lt, eqb-true, eq-eqb, both_ways, ltb-true, ltb-false}
use Rattle.order_judge.specs.declared.sorted.Numbered.{Numbered}
use Rattle.order_judge.specs.declared.passes.Back.{Back}
use Rattle.order_judge.specs.Sorted.{live_at, AreSorted, IsAround, passed_back}
use Rattle.order_judge.proofs.Least.{HasOther}

abbrev pub IsLater : List Numbered → ℕ → ℕ → ℕ → Type 0
IsLater sorted word from q = ((live_at sorted q).word ≡ word) × (from < (live_at sorted q).from)

-- where the next one begins: nowhere, or where a later one does
abbrev pub IsNext : List Numbered → ℕ → (ℕ → Type 0) → ℕ → Type 0
IsNext sorted k IsSo next = (next ≡ 4294967295) ⊎ ((q : ℕ) × (k ≤ q) × (q < length sorted) × IsSo q × ((live_at sorted q).from ≡ next))

-- the back after those from k on
pub record IsBack (sorted : List Numbered) (k : ℕ) (back : Back) : Type 0 where
  pub none : length sorted ≤ k → back.from ≡ 0
  pub here : k < length sorted → ((live_at sorted k).word ≡ back.word) × ((live_at sorted k).from ≡ back.from)
  pub later : (q : ℕ) → k ≤ q → q < length sorted → IsLater sorted back.word back.from q → back.next ≤ (live_at sorted q).from
  pub next_is : IsNext sorted k (IsLater sorted back.word back.from) back.next

abbrev pub back : ℕ → ℕ → ℕ → Back
back word from next = record { word = word; from = from; next = next }

pub back_none : (sorted : List Numbered) → IsBack sorted (length sorted) (back 0 0 4294967295)
back_none sorted = record {
  none = λ l. refl;
  here = λ l. absurd (omega (arith, l));
  later = λ q l m h. absurd (omega (arith, l, m));
  next_is = inl refl;
}

-- the back after one more, from where the next one of its word begins
pub back_step : (sorted : List Numbered) (k next : ℕ) → k < length sorted →
    ((q : ℕ) → k + 1 ≤ q → q < length sorted → IsLater sorted (live_at sorted k).word (live_at sorted k).from q → next ≤ (live_at sorted q).from) →
    IsNext sorted (k + 1) (IsLater sorted (live_at sorted k).word (live_at sorted k).from) next →
    IsBack sorted k (back (live_at sorted k).word (live_at sorted k).from next)
back_step sorted k next inside later next_is = record {
  none = λ l. absurd (omega (arith, l, inside));
  here = λ l. (refl, refl);
  later = λ q l m h. late q l m h (cases_lt k q);
  next_is = was next_is;
}
  where
    late : (q : ℕ) → k ≤ q → q < length sorted → IsLater sorted (live_at sorted k).word (live_at sorted k).from q → (k < q) ⊎ (q ≤ k) → next ≤ (live_at sorted q).from
    late q l m h (inl n) = later q (omega (arith, n)) m h
    late q l m (w, f) (inr n) = let e : (live_at sorted q).from ≡ (live_at sorted k).from = ap (λ (i : ℕ). (live_at sorted i).from) (let r : q ≡ k = omega (arith, l, n) in r) in absurd (omega (arith, e, f))

    was : IsNext sorted (k + 1) (IsLater sorted (live_at sorted k).word (live_at sorted k).from) next → IsNext sorted k (IsLater sorted (live_at sorted k).word (live_at sorted k).from) next
    was (inl e) = inl e
    was (inr (q, l, m, h, e)) = inr (q, omega (arith, l), m, h, e)

-- the back once the one at k has come before
pub back_more : (sorted : List Numbered) (k : ℕ) (b : Back) → AreSorted sorted → k < length sorted → IsBack sorted (k + 1) b → IsBack sorted k (passed_back b (live_at sorted k))
back_more sorted k b s l h = go (cases_Bool (eqb (live_at sorted k).word b.word)) (cases_Bool (nat_lt (live_at sorted k).from b.from))
  where
    -- one of the later ones is not of an earlier word than the next of them, nor does it begin earlier
    place_of : (q : ℕ) → k + 1 ≤ q → q < length sorted → (live_at sorted q).word ≡ (live_at sorted k).word → (b.word ≡ (live_at sorted k).word) × (b.from ≤ (live_at sorted q).from) × ((live_at sorted k).from ≤ b.from)
    place_of q m n e =
        let (w, r) = h.here (omega (arith, m, n)) in
        let a = s.words (k + 1) q m n in
        let c = s.words k (k + 1) (omega arith) (omega (arith, m, n)) in
        let w1 : (live_at sorted (k + 1)).word ≡ (live_at sorted q).word = omega (arith, a, c, e) in
        let w2 : (live_at sorted k).word ≡ (live_at sorted (k + 1)).word = omega (arith, a, c, e) in
        let d = s.starts (k + 1) q m n w1 in
        let f = s.starts k (k + 1) (omega arith) (omega (arith, m, n)) w2 in
        (omega (arith, w, w2), omega (arith, d, r), omega (arith, f, r))

    same : eqb (live_at sorted k).word b.word ≡ true → b.word ≡ (live_at sorted k).word
    same t = sym (eqb-true (live_at sorted k).word b.word t)

    other : eqb (live_at sorted k).word b.word ≡ false → (q : ℕ) → k + 1 ≤ q → q < length sorted → (live_at sorted q).word ≡ (live_at sorted k).word → ⊥
    other t q m n e = both_ways _ t (eq-eqb (live_at sorted k).word b.word (sym (place_of q m n e).0))

    -- there is a next one where something begins later than this
    next : (live_at sorted k).from < b.from → k + 1 < length sorted
    next f = has (cases_lt (k + 1) (length sorted))
      where
        has : (k + 1 < length sorted) ⊎ (length sorted ≤ k + 1) → k + 1 < length sorted
        has (inl m) = m
        has (inr m) = let e = h.none m in absurd (omega (arith, e, f))

    kept : b.from ≤ (live_at sorted k).from → b.word ≡ (live_at sorted k).word → IsNext sorted (k + 1) (IsLater sorted b.word b.from) b.next → IsNext sorted (k + 1) (IsLater sorted (live_at sorted k).word (live_at sorted k).from) b.next
    kept f w (inl e) = inl e
    kept f w (inr (q, m, n, (v, a), e)) = let c = (place_of q m n (v ∙ w)).2 in inr (q, m, n, (v ∙ w, omega (arith, a, f, c)), e)

    go : (eqb (live_at sorted k).word b.word ≡ true) ⊎ (eqb (live_at sorted k).word b.word ≡ false) → (nat_lt (live_at sorted k).from b.from ≡ true) ⊎ (nat_lt (live_at sorted k).from b.from ≡ false) →
        IsBack sorted k (passed_back b (live_at sorted k))
    go (inr t) v = rw t (back_step sorted k 4294967295 l (λ q m n e. absurd (other t q m n e.0)) (inl refl))
    go (inl t) (inl v) =
        let w = same t in
        let f = ltb-true (live_at sorted k).from b.from v in
        let m = next f in
        let (x, y) = h.here m in
        rw (t, v) (back_step sorted k b.from l (λ q i n e. (place_of q i n e.0).1)
        (inr (k + 1, omega arith, m, (x ∙ w, omega (arith, y, f)), y)))
    go (inl t) (inr v) =
        let w = same t in
        let f = ltb-false (live_at sorted k).from b.from v in
        rw (t, v) (back_step sorted k b.next l (λ q i n e. h.later q i n (e.0 ∙ sym w, let c = e.1 in omega (arith, c, f))) (kept f w h.next_is))

-- the next one of its word begins before it ends
pub back_hit : (sorted : List Numbered) (k : ℕ) (b : Back) → k < length sorted → (live_at sorted k).to < 4294967296 → IsBack sorted k b → b.next < (live_at sorted k).to → HasOther IsAround sorted k
back_hit sorted k b l fits h less = go h.next_is
  where
    go : IsNext sorted k (IsLater sorted b.word b.from) b.next → HasOther IsAround sorted k
    go (inl e) = absurd (omega (arith, e, less, fits))
    go (inr (q, m, n, (w, a), e)) =
        let (v, f) = h.here l in
        (q, n, record { word = w ∙ sym v; after = omega (arith, a, f); before = omega (arith, e, less) })

-- and else none begins inside it
pub back_miss : (sorted : List Numbered) (k : ℕ) (b : Back) → AreSorted sorted → k < length sorted → IsBack sorted k b → (live_at sorted k).to ≤ b.next → HasOther IsAround sorted k → ⊥
back_miss sorted k b s l h most (q, m, i) = go (cases_lt q k)
  where
    go : (q < k) ⊎ (k ≤ q) → ⊥
    go (inl n) = let a = s.starts q k (omega (arith, n)) l i.word in let c = i.after in omega (arith, a, c)
    go (inr n) =
        let (v, f) = h.here l in
        let a = i.after in
        let e = h.later q n m (i.word ∙ v, omega (arith, a, f)) in
        let c = i.before in omega (arith, e, c, most)
