-- The front of a pass over sorted live ranges from the first one on.
use Rattle.std.proofs.Common.{◌≡◌, ℕ, ◌+◌, ◌-◌, ◌<◌, ◌≤◌, true, false, eqb, max, List, length, refl, sym, ◌∙◌, ap, arith, inl, inr, ◌⊎◌}
use Rattle.std.specs.Prelude.{nat_lt}
use Rattle.std.proofs.lemmas.Bool.{cases_Bool, cases_lt, eqb-true, eq-eqb, both_ways, ltb-true, ltb-false}
use Rattle.order_judge.specs.declared.sorted.Numbered.{Numbered}
use Rattle.order_judge.specs.declared.passes.Front.{Front}
use Rattle.order_judge.specs.LiveRanges.{BeginsInside}
use Rattle.order_judge.specs.Sorted.{live_at, AreSorted, passed_front}
use Rattle.order_judge.proofs.Least.{HasOther}

-- what has ended of this word, at `bound`, among the first k: nothing, or one of those that are so
abbrev pub IsEnd : List Numbered → ℕ → (ℕ → Type 0) → ℕ → Type 0
IsEnd sorted k IsSo bound = (bound ≡ 0) ⊎ ((q : ℕ) × (q < k) × IsSo q × ((live_at sorted q).to ≡ bound))

abbrev pub IsOf : List Numbered → ℕ → ℕ → Type 0
IsOf sorted word q = (live_at sorted q).word ≡ word

abbrev pub IsEarlier : List Numbered → ℕ → ℕ → ℕ → Type 0
IsEarlier sorted word from q = ((live_at sorted q).word ≡ word) × ((live_at sorted q).from < from)

-- the front after the first k
pub record IsFront (sorted : List Numbered) (k : ℕ) (front : Front) : Type 0 where
  pub here : (p : ℕ) → k ≡ p + 1 → ((live_at sorted p).word ≡ front.word) × ((live_at sorted p).from ≡ front.from)
  pub earlier : (q : ℕ) → q < k → IsEarlier sorted front.word front.from q → (live_at sorted q).to ≤ front.until
  pub all : (q : ℕ) → q < k → IsOf sorted front.word q → (live_at sorted q).to ≤ front.end
  pub until_is : IsEnd sorted k (IsEarlier sorted front.word front.from) front.until
  pub end_is : IsEnd sorted k (IsOf sorted front.word) front.end

abbrev pub front : ℕ → ℕ → ℕ → ℕ → Front
front word from until end = record { word = word; from = from; until = until; end = end }

pub front_none : (sorted : List Numbered) → IsFront sorted 0 (front 0 0 0 0)
front_none sorted = record {
  here = λ p e. absurd (omega (arith, e));
  earlier = λ q l h. absurd (omega (arith, l));
  all = λ q l h. absurd (omega (arith, l));
  until_is = inl refl;
  end_is = inl refl;
}

-- the front after one more, from what ended before it of its word
pub front_step : (sorted : List Numbered) (k until end : ℕ) →
    ((q : ℕ) → q < k → IsEarlier sorted (live_at sorted k).word (live_at sorted k).from q → (live_at sorted q).to ≤ until) →
    ((q : ℕ) → q < k → IsOf sorted (live_at sorted k).word q → (live_at sorted q).to ≤ end) →
    IsEnd sorted k (IsEarlier sorted (live_at sorted k).word (live_at sorted k).from) until → IsEnd sorted k (IsOf sorted (live_at sorted k).word) end →
    IsFront sorted (k + 1) (front (live_at sorted k).word (live_at sorted k).from until (max end (live_at sorted k).to))
front_step sorted k until end earlier all until_is end_is = record {
  here = λ p e. let q : p ≡ k = omega (arith, e) in (ap (λ (i : ℕ). (live_at sorted i).word) q, ap (λ (i : ℕ). (live_at sorted i).from) q);
  earlier = λ q l h. early q h (cases_lt q k) l;
  all = λ q l h. each q h (cases_lt q k) l;
  until_is = was until_is;
  end_is = ends (cases_lt end (live_at sorted k).to) end_is;
}
  where
    early : (q : ℕ) → IsEarlier sorted (live_at sorted k).word (live_at sorted k).from q → (q < k) ⊎ (k ≤ q) → q < k + 1 → (live_at sorted q).to ≤ until
    early q h (inl m) l = earlier q m h
    early q (w, f) (inr m) l = let e : (live_at sorted q).from ≡ (live_at sorted k).from = ap (λ (i : ℕ). (live_at sorted i).from) (let r : q ≡ k = omega (arith, l, m) in r) in absurd (omega (arith, e, f))

    each : (q : ℕ) → IsOf sorted (live_at sorted k).word q → (q < k) ⊎ (k ≤ q) → q < k + 1 → (live_at sorted q).to ≤ max end (live_at sorted k).to
    each q h (inl m) l = let a = all q m h in omega (arith, a)
    each q h (inr m) l = let e : (live_at sorted q).to ≡ (live_at sorted k).to = ap (λ (i : ℕ). (live_at sorted i).to) (let r : q ≡ k = omega (arith, l, m) in r) in omega (arith, e)

    was : IsEnd sorted k (IsEarlier sorted (live_at sorted k).word (live_at sorted k).from) until → IsEnd sorted (k + 1) (IsEarlier sorted (live_at sorted k).word (live_at sorted k).from) until
    was (inl e) = inl e
    was (inr (q, l, h, e)) = inr (q, omega (arith, l), h, e)

    ends : (end < (live_at sorted k).to) ⊎ ((live_at sorted k).to ≤ end) → IsEnd sorted k (IsOf sorted (live_at sorted k).word) end → IsEnd sorted (k + 1) (IsOf sorted (live_at sorted k).word) (max end (live_at sorted k).to)
    ends (inl m) h = inr (k, omega arith, refl, omega (arith, m))
    ends (inr m) (inl e) = inl (omega (arith, e, m))
    ends (inr m) (inr (q, l, h, e)) = inr (q, omega (arith, l), h, omega (arith, e, m))

-- the front once the one at k has come next
pub front_more : (sorted : List Numbered) (k : ℕ) (f : Front) → AreSorted sorted → k < length sorted → IsFront sorted k f → IsFront sorted (k + 1) (passed_front f (live_at sorted k))
front_more sorted k f s l h = go (cases_Bool (eqb (live_at sorted k).word f.word)) (cases_Bool (nat_lt f.from (live_at sorted k).from))
  where
    -- one of the first k is not of a later word than the last of them, nor does it begin later
    place_of : (q : ℕ) → q < k → (live_at sorted q).word ≡ (live_at sorted k).word → (f.word ≡ (live_at sorted k).word) × ((live_at sorted q).from ≤ f.from) × (f.from ≤ (live_at sorted k).from)
    place_of q m e =
        let (w, r) = h.here (k - 1) (omega (arith, m)) in
        let a = s.words q (k - 1) (omega (arith, m)) (omega (arith, l)) in
        let b = s.words (k - 1) k (omega arith) l in
        let w1 : (live_at sorted q).word ≡ (live_at sorted (k - 1)).word = omega (arith, a, b, e) in
        let w2 : (live_at sorted (k - 1)).word ≡ (live_at sorted k).word = omega (arith, a, b, e) in
        let c = s.starts q (k - 1) (omega (arith, m)) (omega (arith, l)) w1 in
        let d = s.starts (k - 1) k (omega arith) l w2 in
        (omega (arith, w, w2), omega (arith, c, r), omega (arith, d, r))

    other : eqb (live_at sorted k).word f.word ≡ false → (q : ℕ) → q < k → IsOf sorted (live_at sorted k).word q → ⊥
    other t q m e = both_ways _ t (eq-eqb (live_at sorted k).word f.word (sym (place_of q m e).0))

    same : eqb (live_at sorted k).word f.word ≡ true → f.word ≡ (live_at sorted k).word
    same t = sym (eqb-true (live_at sorted k).word f.word t)

    moved : (bound : ℕ) (IsSo : ℕ → Type 0) (IsMore : ℕ → Type 0) → ((q : ℕ) → q < k → IsSo q → IsMore q) → IsEnd sorted k IsSo bound → IsEnd sorted k IsMore bound
    moved bound IsSo IsMore to (inl e) = inl e
    moved bound IsSo IsMore to (inr (q, m, i, e)) = inr (q, m, to q m i, e)

    go : (eqb (live_at sorted k).word f.word ≡ true) ⊎ (eqb (live_at sorted k).word f.word ≡ false) → (nat_lt f.from (live_at sorted k).from ≡ true) ⊎ (nat_lt f.from (live_at sorted k).from ≡ false) →
        IsFront sorted (k + 1) (passed_front f (live_at sorted k))
    go (inr t) v = rw t (front_step sorted k 0 0 (λ q m e. absurd (other t q m e.0)) (λ q m e. absurd (other t q m e)) (inl refl) (inl refl))
    go (inl t) (inl v) =
        let w = same t in
        let b = ltb-true f.from (live_at sorted k).from v in
        rw (t, v) (front_step sorted k f.end f.end (λ q m e. h.all q m (e.0 ∙ sym w)) (λ q m e. h.all q m (e ∙ sym w))
        (moved f.end (IsOf sorted f.word) (IsEarlier sorted (live_at sorted k).word (live_at sorted k).from) (λ q m e. (e ∙ w, let p = (place_of q m (e ∙ w)).1 in omega (arith, p, b))) h.end_is)
        (moved f.end (IsOf sorted f.word) (IsOf sorted (live_at sorted k).word) (λ q m e. e ∙ w) h.end_is))
    go (inl t) (inr v) =
        let w = same t in
        let b = ltb-false f.from (live_at sorted k).from v in
        rw (t, v) (front_step sorted k f.until f.end (λ q m e. h.earlier q m (e.0 ∙ sym w, let c = e.1 in omega (arith, c, b))) (λ q m e. h.all q m (e ∙ sym w))
        (moved f.until (IsEarlier sorted f.word f.from) (IsEarlier sorted (live_at sorted k).word (live_at sorted k).from) (λ q m e. (e.0 ∙ w, let p = (place_of q m (e.0 ∙ w)).2 in let c = e.1 in omega (arith, p, c))) h.until_is)
        (moved f.end (IsOf sorted f.word) (IsOf sorted (live_at sorted k).word) (λ q m e. e ∙ w) h.end_is))

-- the last one begins before an earlier one of its word ends: it begins inside that
pub front_hit : (sorted : List Numbered) (k : ℕ) (f : Front) → k < length sorted → IsFront sorted (k + 1) f → (live_at sorted k).from < f.until → HasOther BeginsInside sorted k
front_hit sorted k f l h less = go h.until_is
  where
    go : IsEnd sorted (k + 1) (IsEarlier sorted f.word f.from) f.until → HasOther BeginsInside sorted k
    go (inl e) = absurd (omega (arith, e, less))
    go (inr (q, m, (w, a), e)) =
        let (v, b) = h.here k refl in
        (q, omega (arith, m, l), record { word = v ∙ sym w; after = omega (arith, a, b); before = omega (arith, e, less) })

-- and else it begins inside none
pub front_miss : (sorted : List Numbered) (k : ℕ) (f : Front) → AreSorted sorted → k < length sorted → IsFront sorted (k + 1) f → f.until ≤ (live_at sorted k).from → HasOther BeginsInside sorted k → ⊥
front_miss sorted k f s l h most (q, m, i) = go (cases_lt q (k + 1))
  where
    go : (q < k + 1) ⊎ (k + 1 ≤ q) → ⊥
    go (inl n) =
        let (v, b) = h.here k refl in
        let a = i.after in
        let e = h.earlier q n (sym i.word ∙ v, omega (arith, a, b)) in
        let c = i.before in omega (arith, e, c, most)
    go (inr n) = let a = s.starts k q (omega (arith, n)) m i.word in let b = i.after in omega (arith, a, b)
