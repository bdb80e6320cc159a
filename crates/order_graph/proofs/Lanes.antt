use Rattle.std.proofs.Common.{◌≡◌, ℕ, ◌+◌, ◌*◌, ◌-◌, ◌<◌, ◌≤◌, List, [], ◌∷◌, ◌++◌, length, take, drop, replicate, refl, sym, ◌∙◌, ap, subst, arith, inl, inr, ◌⊎◌}
use Rattle.std.specs.Prelude.{slice_index, sum}
use Rattle.std.proofs.lemmas.Bool.{cases_lt}
use Rattle.std.proofs.lemmas.List.{length-append, length-replicate, get_or_append_left, get_or-replicate, get_or-append_right, drop_more, take_all, append_assoc, append-nil, drop_all}
use Rattle.std.proofs.lemmas.List.Sums.{sum_by-cons}
use Rattle.order_graph.specs.Shapes.{Shape, shape, lanes_from, lanes_of, IsStep, IsWalk}
use Rattle.order_graph.specs.Clocks.{IsExact, HasRoom}
use Rattle.order_graph.specs.Graphs.{IsGraph}

pub length-lanes_from : (t : ℕ) (counts : List ℕ) → length (lanes_from t counts) ≡ sum counts
length-lanes_from t [] = refl
length-lanes_from t (c ∷ counts) =
    let a = length-append (replicate c t) (lanes_from (t + 1) counts) in
    let b = length-replicate c t in
    let d = length-lanes_from (t + 1) counts in
    let s = sum_by-cons (λ (x : ℕ). x) c counts in
    omega (arith, a, b, d, s)

pub lanes_from-within : (t : ℕ) (counts : List ℕ) (i : ℕ) → i < length (lanes_from t counts) → (t ≤ slice_index (lanes_from t counts) i) × (slice_index (lanes_from t counts) i < t + length counts)
lanes_from-within t [] i l = absurd (omega (arith, l))
lanes_from-within t (c ∷ counts) i l = go (lanes_from-within (t + 1) counts) (cases_lt i c)
  where
    go : ((k : ℕ) → k < length (lanes_from (t + 1) counts) → (t + 1 ≤ slice_index (lanes_from (t + 1) counts) k) × (slice_index (lanes_from (t + 1) counts) k < t + 1 + length counts)) →
        (i < c) ⊎ (c ≤ i) → (t ≤ slice_index (replicate c t ++ lanes_from (t + 1) counts) i) × (slice_index (replicate c t ++ lanes_from (t + 1) counts) i < t + length (c ∷ counts))
    go ih (inl k) =
        let n = length-replicate c t in
        let a = get_or_append_left (replicate c t) (lanes_from (t + 1) counts) 0 i (omega (arith, n, k)) in
        let b = get_or-replicate c i t 0 k in
        (omega (arith, a, b), omega (arith, a, b))
    go ih (inr k) =
        let n = length-replicate c t in
        let a = get_or-append_right (replicate c t) (lanes_from (t + 1) counts) c i 0 n k in
        let m = length-append (replicate c t) (lanes_from (t + 1) counts) in
        let w = ih (i - c) (omega (arith, m, n, k, l)) in
        let p = w.0 in
        let q = w.1 in
        (omega (arith, a, p), omega (arith, a, q))

pub lanes_from-rising : (t : ℕ) (counts : List ℕ) (i j : ℕ) → i ≤ j → j < length (lanes_from t counts) → slice_index (lanes_from t counts) i ≤ slice_index (lanes_from t counts) j
lanes_from-rising t [] i j s l = absurd (omega (arith, l))
lanes_from-rising t (c ∷ counts) i j s l = go (lanes_from-rising (t + 1) counts) (cases_lt i c)
  where
    go : ((x y : ℕ) → x ≤ y → y < length (lanes_from (t + 1) counts) → slice_index (lanes_from (t + 1) counts) x ≤ slice_index (lanes_from (t + 1) counts) y) →
        (i < c) ⊎ (c ≤ i) → slice_index (replicate c t ++ lanes_from (t + 1) counts) i ≤ slice_index (replicate c t ++ lanes_from (t + 1) counts) j
    go ih (inl k) =
        let n = length-replicate c t in
        let a = get_or_append_left (replicate c t) (lanes_from (t + 1) counts) 0 i (omega (arith, n, k)) in
        let b = get_or-replicate c i t 0 k in
        let w = (lanes_from-within t (c ∷ counts) j l).0 in
        omega (arith, a, b, w)
    go ih (inr k) =
        let n = length-replicate c t in
        let a = get_or-append_right (replicate c t) (lanes_from (t + 1) counts) c i 0 n k in
        let b = get_or-append_right (replicate c t) (lanes_from (t + 1) counts) c j 0 n (omega (arith, k, s)) in
        let m = length-append (replicate c t) (lanes_from (t + 1) counts) in
        let w = ih (i - c) (j - c) (omega (arith, s)) (omega (arith, m, n, k, s, l)) in
        omega (arith, a, b, w)

-- the lanes laid so far, with those of the counts that are left
abbrev pub Laid : List ℕ → ℕ → List ℕ → Type 0
Laid counts i lanes = lanes ++ lanes_from i (drop i counts) ≡ lanes_of counts

pub laid-more : (counts lanes new : List ℕ) (i count end : ℕ) → i < length counts → count ≡ slice_index counts i → end ≡ length lanes + count → new ≡ take end lanes ++ replicate (end - length lanes) i →
    Laid counts i lanes → Laid counts (i + 1) new
laid-more counts lanes new i count end l e f n h =
    let d = drop_more counts i 0 l in
    let a : take end lanes ≡ lanes = take_all end lanes (omega (arith, f)) in
    let b : end - length lanes ≡ slice_index counts i = omega (arith, f, e) in
    let p : new ≡ lanes ++ replicate (slice_index counts i) i = n ∙ ap (λ (x : List ℕ). x ++ replicate (end - length lanes) i) a ∙ ap (λ (x : ℕ). lanes ++ replicate x i) b in
    let q : lanes ++ lanes_from i (slice_index counts i ∷ drop (i + 1) counts) ≡ lanes_of counts = subst (λ (x : List ℕ). lanes ++ lanes_from i x ≡ lanes_of counts) d h in
    ap (λ (x : List ℕ). x ++ lanes_from (i + 1) (drop (i + 1) counts)) p ∙ append_assoc lanes (replicate (slice_index counts i) i) (lanes_from (i + 1) (drop (i + 1) counts)) ∙ q

pub laid-all : (counts lanes : List ℕ) (i : ℕ) → length counts ≤ i → Laid counts i lanes → lanes ≡ lanes_of counts
laid-all counts lanes i l h =
    let d = drop_all i counts l in
    sym (append-nil lanes) ∙ subst (λ (x : List ℕ). lanes ++ lanes_from i x ≡ lanes_of counts) d h

pub laid-within : (counts lanes : List ℕ) (i : ℕ) → Laid counts i lanes → length lanes + sum (drop i counts) ≡ sum counts
laid-within counts lanes i h =
    let a = length-append lanes (lanes_from i (drop i counts)) in
    let b = length-lanes_from i (drop i counts) in
    let d = length-lanes_from 0 counts in
    let e = ap length h in
    omega (arith, a, b, d, e)

pub room-new : (counts : List ℕ) (size : ℕ) → sum counts < 4294967296 → size ≡ length (lanes_of counts) * length counts → HasRoom (length counts) (lanes_of counts) [] size
room-new counts size few e =
    let n = length-lanes_from 0 counts in record {
      nodes_few = omega (arith, n, few);
      lane = λ x l. (let w = (lanes_from-within 0 counts x l).1 in omega (arith, w));
      places = e;
      ends = λ u v c. absurd (let m = c.1 in omega (arith, m));
    }

walk-up : (g : Shape) → ((a b : ℕ) → IsStep g a b → a < b) → (u : ℕ) (between : List ℕ) (v : ℕ) → IsWalk g u between v → u < v
walk-up g up u [] v s = up u v s
walk-up g up u (m ∷ between) v (s, w) = let a = up u m s in let b = walk-up g up m between v w in omega (arith, a, b)

pub graph-new : (counts : List ℕ) (clocks : List ℕ) → HasRoom (length counts) (lanes_of counts) [] (length clocks) → IsExact (shape (lanes_of counts) []) (length counts) clocks →
    IsGraph (shape (lanes_of counts) []) (length counts) clocks
graph-new counts clocks room exact = record {
  room = room;
  rising = lanes_from-rising 0 counts;
  acyclic = λ x p. absurd (let m = walk-up (shape (lanes_of counts) []) up x p.between x p.walk in omega (arith, m));
  exact = exact;
}
  where
    up : (a b : ℕ) → IsStep (shape (lanes_of counts) []) a b → a < b
    up a b (inl c) = absurd (let m = c.1 in omega (arith, m))
    up a b (inr n) = let m = n.next in omega (arith, m)
