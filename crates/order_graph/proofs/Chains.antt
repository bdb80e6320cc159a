-- The edges of the chains are the steps from each node to the next of its thread.
use Rattle.std.proofs.Common.{◌≡◌, ℕ, zero, suc, ◌+◌, ◌-◌, ◌<◌, ◌≤◌, List, [], ◌∷◌, ◌++◌, length, replicate, sym, ◌∙◌, ap, subst, arith, inl, inr, ◌⊎◌}
use Rattle.std.specs.Prelude.{Contains, slice_index}
use Rattle.std.proofs.lemmas.Bool.{cases_lt}
use Rattle.std.proofs.lemmas.List.{length-append, length-replicate, get_or_append_left, get_or-replicate, get_or-append_right}
use Rattle.std.proofs.lemmas.List.Elements.{Contains-append_left, Contains-append_right, Contains-append_cases}
use Rattle.plain_search.specs.declared.Edge.{Edge}
use Rattle.plain_search.specs.Edges.{LeadsTo, IsOrLeadsTo}
use Rattle.plain_search.specs.Edges as Plain
use Rattle.order_graph.specs.Shapes.{shape, arrow, lanes_from, lanes_of, IsNext, IsStep, IsWalk, IsBefore, Leads}
use Rattle.order_graph.specs.Graphs.{links, chains_from}
use Rattle.order_graph.proofs.Lanes.{lanes_from-within}

-- which edges a chain has
pub links-in : (n count u v : ℕ) → Contains (links n count) (arrow u v) → (n ≤ u) × (u < n + count) × (v ≡ u + 1)
links-in n zero u v (k, l, h) = absurd (omega (arith, l))
links-in n (suc count) u v (zero, l, h) =
    let p : n ≡ u = ap (λ (e : Edge). e.from) h in
    let q : n + 1 ≡ v = ap (λ (e : Edge). e.to) h in
    (omega (arith, p), omega (arith, p), omega (arith, p, q))
links-in n (suc count) u v (suc k, l, h) =
    let (a, b, c) = links-in (n + 1) count u v (k, omega (arith, l), h) in
    (omega (arith, a), omega (arith, b), c)

pub in-links : (n count u : ℕ) → n ≤ u → u < n + count → Contains (links n count) (arrow u (u + 1))
in-links n zero u a b = absurd (omega (arith, a, b))
in-links n (suc count) u a b = go (in-links (n + 1) count u) (cases_lt n u)
  where
    go : (n + 1 ≤ u → u < n + 1 + count → Contains (links (n + 1) count) (arrow u (u + 1))) → (n < u) ⊎ (u ≤ n) → Contains (links n (suc count)) (arrow u (u + 1))
    go ih (inl l) = let (k, m, h) = ih (omega (arith, l)) (omega (arith, b)) in (suc k, omega (arith, m), h)
    go ih (inr l) = let e : n ≡ u = omega (arith, a, l) in (0, omega arith, ap (λ (k : ℕ). arrow k (k + 1)) e)

-- v is the next node of u's thread, where nodes are numbered from n on, and threads from t on
pub record IsNextFrom (n t : ℕ) (counts : List ℕ) (u v : ℕ) : Type 0 where
  pub low : n ≤ u
  pub next : v ≡ u + 1
  pub node : v - n < length (lanes_from t counts)
  pub lane : slice_index (lanes_from t counts) (u - n) ≡ slice_index (lanes_from t counts) (v - n)

-- the first thread's nodes, and those of the others
lane-here : (t count : ℕ) (counts : List ℕ) (i : ℕ) → i < count → slice_index (lanes_from t (count ∷ counts)) i ≡ t
lane-here t count counts i l =
    get_or_append_left (replicate count t) (lanes_from (t + 1) counts) 0 i (let n = length-replicate count t in omega (arith, n, l)) ∙ get_or-replicate count i t 0 l

lane-later : (t count : ℕ) (counts : List ℕ) (i : ℕ) → count ≤ i → slice_index (lanes_from t (count ∷ counts)) i ≡ slice_index (lanes_from (t + 1) counts) (i - count)
lane-later t count counts i l = get_or-append_right (replicate count t) (lanes_from (t + 1) counts) count i 0 (length-replicate count t) l

lanes-size : (t count : ℕ) (counts : List ℕ) → length (lanes_from t (count ∷ counts)) ≡ count + length (lanes_from (t + 1) counts)
lanes-size t count counts = let a = length-append (replicate count t) (lanes_from (t + 1) counts) in let b = length-replicate count t in omega (arith, a, b)

pub chains-next : (n t : ℕ) (counts : List ℕ) (u v : ℕ) → Contains (chains_from n counts) (arrow u v) → IsNextFrom n t counts u v
chains-next n t [] u v (k, l, h) = absurd (omega (arith, l))
chains-next n t (count ∷ counts) u v c = go (chains-next (n + count) (t + 1) counts u v) (Contains-append_cases (links n (count - 1)) (chains_from (n + count) counts) (arrow u v) c)
  where
    size : length (lanes_from t (count ∷ counts)) ≡ count + length (lanes_from (t + 1) counts)
    size = lanes-size t count counts

    here : (n ≤ u) × (u < n + (count - 1)) × (v ≡ u + 1) → IsNextFrom n t (count ∷ counts) u v
    here (a, b, e) = record {
      low = a;
      next = e;
      node = omega (arith, size, a, b, e);
      lane = lane-here t count counts (u - n) (omega (arith, a, b)) ∙ sym (lane-here t count counts (v - n) (omega (arith, a, b, e)));
    }

    later : IsNextFrom (n + count) (t + 1) counts u v → IsNextFrom n t (count ∷ counts) u v
    later r =
        let a = r.low in
        let e = r.next in
        let m = r.node in
        let p : (u - n) - count ≡ u - (n + count) = omega (arith, a) in
        let q : (v - n) - count ≡ v - (n + count) = omega (arith, a, e) in
        let At : ℕ → ℕ = λ i. slice_index (lanes_from (t + 1) counts) i in
        record {
          low = omega (arith, a);
          next = e;
          node = omega (arith, size, a, e, m);
          lane = lane-later t count counts (u - n) (omega (arith, a)) ∙ ap At p ∙ r.lane ∙ sym (ap At q) ∙ sym (lane-later t count counts (v - n) (omega (arith, a, e)));
        }

    go : (Contains (chains_from (n + count) counts) (arrow u v) → IsNextFrom (n + count) (t + 1) counts u v) →
        Contains (links n (count - 1)) (arrow u v) ⊎ Contains (chains_from (n + count) counts) (arrow u v) → IsNextFrom n t (count ∷ counts) u v
    go ih (inl d) = here (links-in n (count - 1) u v d)
    go ih (inr d) = later (ih d)

pub next-chains : (n t : ℕ) (counts : List ℕ) (u v : ℕ) → IsNextFrom n t counts u v → Contains (chains_from n counts) (arrow u v)
next-chains n t [] u v r = absurd (let m = r.node in omega (arith, m))
next-chains n t (count ∷ counts) u v r = go (next-chains (n + count) (t + 1) counts u v) (cases_lt (v - n) count) (cases_lt (u - n) count)
  where
    size : length (lanes_from t (count ∷ counts)) ≡ count + length (lanes_from (t + 1) counts)
    size = lanes-size t count counts

    go : (IsNextFrom (n + count) (t + 1) counts u v → Contains (chains_from (n + count) counts) (arrow u v)) → ((v - n) < count) ⊎ (count ≤ v - n) → ((u - n) < count) ⊎ (count ≤ u - n) →
        Contains (links n (count - 1) ++ chains_from (n + count) counts) (arrow u v)
    go ih (inl l) m =
        let a = r.low in
        let e = r.next in
        let d : Contains (links n (count - 1)) (arrow u v) = subst (λ (k : ℕ). Contains (links n (count - 1)) (arrow u k)) (sym e) (in-links n (count - 1) u a (omega (arith, a, e, l))) in
        Contains-append_left (links n (count - 1)) (chains_from (n + count) counts) (arrow u v) d
    go ih (inr l) (inl m) =
        let a = lane-here t count counts (u - n) m in
        let b = lane-later t count counts (v - n) l in
        let e = r.lane in
        let w = (lanes_from-within (t + 1) counts (v - n - count) (let s = r.node in omega (arith, s, size, l))).0 in
        absurd (omega (arith, a, b, e, w))
    go ih (inr l) (inr m) =
        let a = r.low in
        let e = r.next in
        let s = r.node in
        let low : n + count ≤ u = omega (arith, a, m) in
        let p : (u - n) - count ≡ u - (n + count) = omega (arith, low) in
        let q : (v - n) - count ≡ v - (n + count) = omega (arith, low, e) in
        let At : ℕ → ℕ = λ i. slice_index (lanes_from (t + 1) counts) i in
        Contains-append_right (links n (count - 1)) (chains_from (n + count) counts) (arrow u v)
        (ih (record {
          low = low;
          next = e;
          node = omega (arith, s, size, low, e);
          lane = sym (ap At p) ∙ sym (lane-later t count counts (u - n) m) ∙ r.lane ∙ lane-later t count counts (v - n) l ∙ ap At q;
        }))

next-from : (counts : List ℕ) (u v : ℕ) → IsNext (lanes_of counts) u v → IsNextFrom 0 0 counts u v
next-from counts u v s =
    let At : ℕ → ℕ = λ i. slice_index (lanes_of counts) i in
    let p : u - 0 ≡ u = omega arith in
    let q : v - 0 ≡ v = omega arith in
    record { low = omega arith; next = s.next; node = (let m = s.node in omega (arith, m)); lane = ap At p ∙ s.lane ∙ sym (ap At q) }

from-next : (counts : List ℕ) (u v : ℕ) → IsNextFrom 0 0 counts u v → IsNext (lanes_of counts) u v
from-next counts u v s =
    let At : ℕ → ℕ = λ i. slice_index (lanes_of counts) i in
    let p : u - 0 ≡ u = omega arith in
    let q : v - 0 ≡ v = omega arith in
    record { next = s.next; node = (let m = s.node in omega (arith, m)); lane = sym (ap At p) ∙ s.lane ∙ ap At q }

-- a step is an edge of a chain, or one that was added
pub step-contained : (counts : List ℕ) (added : List Edge) (u v : ℕ) → IsStep (shape (lanes_of counts) added) u v → Contains (chains_from 0 counts ++ added) (arrow u v)
step-contained counts added u v (inl c) = Contains-append_right (chains_from 0 counts) added (arrow u v) c
step-contained counts added u v (inr s) = Contains-append_left (chains_from 0 counts) added (arrow u v)
    (next-chains 0 0 counts u v (next-from counts u v s))

pub contained-step : (counts : List ℕ) (added : List Edge) (u v : ℕ) → Contains (chains_from 0 counts ++ added) (arrow u v) → IsStep (shape (lanes_of counts) added) u v
contained-step counts added u v c = go (Contains-append_cases (chains_from 0 counts) added (arrow u v) c)
  where
    go : Contains (chains_from 0 counts) (arrow u v) ⊎ Contains added (arrow u v) → IsStep (shape (lanes_of counts) added) u v
    go (inl d) = inr (from-next counts u v (chains-next 0 0 counts u v d))
    go (inr d) = inl d

-- so walks are walks
pub walk-plain : (counts : List ℕ) (added : List Edge) (u : ℕ) (between : List ℕ) (v : ℕ) → IsWalk (shape (lanes_of counts) added) u between v → Plain.IsWalk (chains_from 0 counts ++ added) u between v
walk-plain counts added u [] v s = step-contained counts added u v s
walk-plain counts added u (m ∷ between) v (s, w) = (step-contained counts added u m s, walk-plain counts added m between v w)

pub plain-walk : (counts : List ℕ) (added : List Edge) (u : ℕ) (between : List ℕ) (v : ℕ) → Plain.IsWalk (chains_from 0 counts ++ added) u between v → IsWalk (shape (lanes_of counts) added) u between v
plain-walk counts added u [] v s = contained-step counts added u v s
plain-walk counts added u (m ∷ between) v (s, w) = (contained-step counts added u m s, plain-walk counts added m between v w)

pub before-leads : (counts : List ℕ) (added : List Edge) (u v : ℕ) → IsBefore (shape (lanes_of counts) added) u v → LeadsTo (chains_from 0 counts ++ added) u v
before-leads counts added u v p = (p.between, walk-plain counts added u p.between v p.walk)

pub leads-before : (counts : List ℕ) (added : List Edge) (u v : ℕ) → LeadsTo (chains_from 0 counts ++ added) u v → IsBefore (shape (lanes_of counts) added) u v
leads-before counts added u v (between, w) = record { between = between; walk = plain-walk counts added u between v w }

pub is_or-leads : (counts : List ℕ) (added : List Edge) (u v : ℕ) → Leads (shape (lanes_of counts) added) u v → IsOrLeadsTo (chains_from 0 counts ++ added) u v
is_or-leads counts added u v (inl e) = inl e
is_or-leads counts added u v (inr p) = inr (before-leads counts added u v p)

pub leads-is_or : (counts : List ℕ) (added : List Edge) (u v : ℕ) → IsOrLeadsTo (chains_from 0 counts ++ added) u v → Leads (shape (lanes_of counts) added) u v
leads-is_or counts added u v (inl e) = inl e
leads-is_or counts added u v (inr p) = inr (leads-before counts added u v p)
