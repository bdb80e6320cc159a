-- Which live ranges overlap, by what the passes found.
use Rattle.std.proofs.Common.{◌≡◌, ℕ, ◌<◌, ◌≤◌, min, List, length, refl, sym, ◌∙◌, subst, arith, inl, inr, ◌⊎◌}
use Rattle.std.proofs.lemmas.Bool.{cases_order, cases_lt}
use Rattle.std.proofs.lemmas.List.{get_or_default}
use Rattle.order_judge.specs.declared.live_ranges.LiveRange.{LiveRange}
use Rattle.order_judge.specs.declared.sorted.Numbered.{Numbered}
use Rattle.order_judge.specs.LiveRanges.{no_range, range_at, BeginsInside, Overlap, IsFirstOverlap, AreApart}
use Rattle.order_judge.specs.Sorted.{numbered_at, live_at, AreNumbered, IsLeastNumber, IsAround}

pub overlap-sym : (a b : LiveRange) → Overlap a b → Overlap b a
overlap-sym a b (inl h) = inr h
overlap-sym a b (inr h) = inl h

pub overlap-self : (a : LiveRange) → Overlap a a → ⊥
overlap-self a (inl h) = let l = h.after in omega (arith, l)
overlap-self a (inr h) = let l = h.after in omega (arith, l)

-- what the two passes over the sorted live ranges found
pub record AreFound (ranges : List LiveRange) (sorted : List Numbered) (inside around : ℕ) : Type 0 where
  pub numbered : AreNumbered ranges sorted
  pub inside_is : IsLeastNumber BeginsInside sorted inside
  pub around_is : IsLeastNumber IsAround sorted around

-- one that overlaps another has a number no less than the least
pub found-least : (ranges : List LiveRange) (sorted : List Numbered) (inside around k l : ℕ) → AreFound ranges sorted inside around → k < length ranges → l < length ranges →
    Overlap (range_at ranges k) (range_at ranges l) → min inside around ≤ k
found-least ranges sorted inside around k l f m n o = go (f.numbered.all k m) (f.numbered.all l n) o
  where
    Here : ℕ → Type 0
    Here i = (p : ℕ) × (p < length sorted) × ((numbered_at sorted p).number ≡ i)

    live : (i : ℕ) → (h : Here i) → range_at ranges i ≡ live_at sorted h.0
    live i (p, l, e) = sym ((f.numbered.known p l).1 ∙ (let F : ℕ → LiveRange = range_at ranges in let P : ℕ → Type 0 = λ j. F (numbered_at sorted p).number ≡ F j in subst P e refl))

    go : Here k → Here l → Overlap (range_at ranges k) (range_at ranges l) → min inside around ≤ k
    go (p, a, e) (q, b, d) (inl h) =
        let i : BeginsInside (live_at sorted p) (range_at ranges l) = let P : LiveRange → Type 0 = λ r. BeginsInside r (range_at ranges l) in subst P (live k (p, a, e)) h in
        let j : BeginsInside (live_at sorted p) (live_at sorted q) = subst (BeginsInside (live_at sorted p)) (live l (q, b, d)) i in
        let s = f.inside_is.least p q a b j in omega (arith, s, e)
    go (p, a, e) (q, b, d) (inr h) =
        let i : BeginsInside (range_at ranges l) (live_at sorted p) = subst (BeginsInside (range_at ranges l)) (live k (p, a, e)) h in
        let j : IsAround (live_at sorted p) (live_at sorted q) = let P : LiveRange → Type 0 = λ r. BeginsInside r (live_at sorted p) in subst P (live l (q, b, d)) i in
        let s = f.around_is.least p q a b j in omega (arith, s, e)

-- the live range with the least number overlaps another
pub found-other : (ranges : List LiveRange) (sorted : List Numbered) (inside around : ℕ) → AreFound ranges sorted inside around → length ranges < 4294967296 → min inside around < length ranges →
    (l : ℕ) × (l < length ranges) × Overlap (range_at ranges (min inside around)) (range_at ranges l)
found-other ranges sorted inside around f fits less = go (cases_lt inside around)
  where
    Found : ℕ → Type 0
    Found i = (l : ℕ) × (l < length ranges) × Overlap (range_at ranges i) (range_at ranges l)

    named : (p q : ℕ) → p < length sorted → q < length sorted → Overlap (live_at sorted p) (live_at sorted q) → Found (numbered_at sorted p).number
    named p q a b o =
        let (m, e) = f.numbered.known p a in
        let (n, d) = f.numbered.known q b in
        let P : LiveRange → Type 0 = λ r. Overlap r (live_at sorted q) in
        ((numbered_at sorted q).number, n, subst (Overlap (range_at ranges (numbered_at sorted p).number)) d (subst P e o))

    inside_found : inside < 4294967295 → (inside ≡ 4294967295) ⊎ ((k l : ℕ) × (k < length sorted) × (l < length sorted) × ((numbered_at sorted k).number ≡ inside) × BeginsInside (live_at sorted k) (live_at sorted l)) → Found inside
    inside_found h (inl e) = absurd (omega (arith, e, h))
    inside_found h (inr (p, q, a, b, e, i)) = subst Found e (named p q a b (inl i))

    around_found : around < 4294967295 → (around ≡ 4294967295) ⊎ ((k l : ℕ) × (k < length sorted) × (l < length sorted) × ((numbered_at sorted k).number ≡ around) × IsAround (live_at sorted k) (live_at sorted l)) → Found around
    around_found h (inl e) = absurd (omega (arith, e, h))
    around_found h (inr (p, q, a, b, e, i)) = subst Found e (named p q a b (inr i))

    go : (inside < around) ⊎ (around ≤ inside) → Found (min inside around)
    go (inl h) = let e : inside ≡ min inside around = omega (arith, h) in subst Found e (inside_found (omega (arith, e, less, fits)) f.inside_is.found)
    go (inr h) = let e : around ≡ min inside around = omega (arith, h) in subst Found e (around_found (omega (arith, e, less, fits)) f.around_is.found)

-- the first one that overlaps another has some other one that it overlaps
pub found_other : (ranges : List LiveRange) (sorted : List Numbered) (inside around i : ℕ) → AreFound ranges sorted inside around → length ranges < 4294967296 → i ≡ min inside around → i < length ranges →
    ((j : ℕ) → j < length ranges → Overlap (range_at ranges i) (range_at ranges j) → ⊥) → ⊥
found_other ranges sorted inside around i f fits e less none =
    let (l, m, o) = found-other ranges sorted inside around f fits (omega (arith, e, less)) in
    none l m (let P : ℕ → Type 0 = λ n. Overlap (range_at ranges n) (range_at ranges l) in subst P (sym e) o)

-- no number was found
pub found-none : (ranges : List LiveRange) (sorted : List Numbered) (inside around : ℕ) → AreFound ranges sorted inside around → length ranges ≤ min inside around → AreApart ranges
found-none ranges sorted inside around f most a b (k, l, e) (m, n, d) o =
    let here : Overlap (range_at ranges k) b = let P : LiveRange → Type 0 = λ r. Overlap r b in subst P (sym (get_or_default ranges k no_range a l ∙ e)) o in
    let both : Overlap (range_at ranges k) (range_at ranges m) = subst (Overlap (range_at ranges k)) (sym (get_or_default ranges m no_range b n ∙ d)) here in
    let s = found-least ranges sorted inside around k m f l n both in
    omega (arith, s, most, l)

-- the first two
found-first : (ranges : List LiveRange) (sorted : List Numbered) (inside around j : ℕ) → AreFound ranges sorted inside around → min inside around < length ranges → j < length ranges →
    Overlap (range_at ranges (min inside around)) (range_at ranges j) → ((l : ℕ) → l < j → Overlap (range_at ranges (min inside around)) (range_at ranges l) → ⊥) → IsFirstOverlap ranges (min inside around) j
found-first ranges sorted inside around j f less m o before = record {
  rising = go (cases_order (min inside around) j);
  below = m;
  here = o;
  first = λ k l below n h. let s = found-least ranges sorted inside around k l f (omega (arith, below, less)) n h in omega (arith, s, below);
  second = before;
}
  where
    go : (min inside around ≡ j) ⊎ ((min inside around < j) ⊎ (j < min inside around)) → min inside around < j
    go (inl e) = absurd (overlap-self (range_at ranges (min inside around)) (let P : ℕ → Type 0 = λ i. Overlap (range_at ranges (min inside around)) (range_at ranges i) in subst P (sym e) o))
    go (inr (inl l)) = l
    go (inr (inr l)) =
        let s = found-least ranges sorted inside around j (min inside around) f m less (overlap-sym (range_at ranges (min inside around)) (range_at ranges j) o) in
        absurd (omega (arith, s, l))

pub found_first : (ranges : List LiveRange) (sorted : List Numbered) (inside around i j : ℕ) → AreFound ranges sorted inside around → i ≡ min inside around → i < length ranges → j < length ranges →
    Overlap (range_at ranges i) (range_at ranges j) → ((l : ℕ) → l < j → Overlap (range_at ranges i) (range_at ranges l) → ⊥) → IsFirstOverlap ranges i j
found_first ranges sorted inside around i j f e less m o before =
    let P : ℕ → Type 0 = λ n. n < length ranges → Overlap (range_at ranges n) (range_at ranges j) → ((l : ℕ) → l < j → Overlap (range_at ranges n) (range_at ranges l) → ⊥) → IsFirstOverlap ranges n j in
    subst P (sym e) (λ l h b. found-first ranges sorted inside around j f l m h b) less o before
