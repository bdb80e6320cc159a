-- Placing one node more.
use Rattle.std.proofs.Common.{◌≡◌, ℕ, ◌+◌, ◌<◌, ◌≤◌, eqb, List, [], ◌∷◌, ◌++◌, length, take, set, get_or, refl, sym, ◌∙◌, ap, subst, arith, inl, inr, ◌⊎◌, get_or-set_other, get_or-set_same}
use Rattle.std.specs.Prelude.{Contains, slice_index, ◌↔◌}
use Rattle.std.specs.List.{IsDistinct}
use Rattle.std.proofs.lemmas.Bool.{cases_eq, cases_lt, false_from_ne_true, eqb-true}
use Rattle.std.proofs.lemmas.List.{length_push, get_or_push, get_or_append_left, get_or-take, take_at, take-append-le, length-take-le}
use Rattle.std.proofs.lemmas.List.Elements.{Contains-append_left, Contains-push, Contains-push_cases}
use Rattle.std.proofs.lemmas.Cmp.{nat_eq_equiv}
use Rattle.std.proofs.lemmas.Map.Keys.{IsDistinct-push}
use Rattle.std.proofs.lemmas.Map.Views.{Contains-from_any}
use Rattle.std.proofs.lemmas.Map.Steps.{length-le_from_distinct_below}
use Rattle.plain_search.specs.declared.Edge.{Edge}
use Rattle.plain_search.specs.Edges.{LeadsTo}
use Rattle.order_graph.specs.Orders.{IsReady, IsOrder}
use Rattle.order_graph.specs.Fronts.{HasLanes, front_of, HasFront, AreStarts}
use Rattle.order_graph.proofs.Ready.{IsPlaced, front-new}

pub placed-more : (threads : ℕ) (lanes : List ℕ) (size : ℕ) (fronts out : List ℕ) (t next : ℕ) → HasLanes threads lanes size → IsPlaced lanes fronts out → HasFront lanes fronts t → t < length fronts → next ≡ front_of fronts t + 1 →
    IsPlaced lanes (set fronts t next) (out ++ front_of fronts t ∷ [])
placed-more threads lanes size fronts out t next h p front b n = record {
  placed = λ w l. placed w l (cases_eq (slice_index lanes w) t);
  front = λ w l. follow w l (cases_eq (slice_index lanes w) t);
  nodes = λ w c. node w (Contains-push_cases out (front_of fronts t) w c);
  distinct = IsDistinct-push {eq = eqb} nat_eq_equiv out (front_of fronts t) p.distinct
      (false_from_ne_true _ (λ c. front-new lanes fronts out t p front (Contains-from_any {eq = eqb} (λ x y. eqb-true x y) (front_of fronts t) out c)));
}
  where
    here : (s : ℕ) → s ≡ t → front_of (set fronts t next) s ≡ front_of fronts t + 1
    here s e = ap (λ (x : ℕ). front_of (set fronts t next) x) e ∙ get_or-set_same fronts t next 0 b ∙ n

    there : (s : ℕ) → (s ≡ t → ⊥) → front_of (set fronts t next) s ≡ front_of fronts s
    there s ne = get_or-set_other fronts t s next 0 ne

    placed : (w : ℕ) → w < length lanes → (slice_index lanes w ≡ t) ⊎ (slice_index lanes w ≡ t → ⊥) → Contains (out ++ front_of fronts t ∷ []) w ↔ (w < front_of (set fronts t next) (slice_index lanes w))
    placed w l (inl e) = (λ c. to (Contains-push_cases out (front_of fronts t) w c), λ s. from (cases_lt w (front_of fronts t)) s)
      where
        same : front_of fronts (slice_index lanes w) ≡ front_of fronts t
        same = ap (λ (x : ℕ). front_of fronts x) e

        to : Contains out w ⊎ (front_of fronts t ≡ w) → w < front_of (set fronts t next) (slice_index lanes w)
        to (inl c) = let a = (p.placed w l).0 c in let q = here (slice_index lanes w) e in omega (arith, a, q, same)
        to (inr d) = let q = here (slice_index lanes w) e in omega (arith, d, q)

        from : (w < front_of fronts t) ⊎ (front_of fronts t ≤ w) → w < front_of (set fronts t next) (slice_index lanes w) → Contains (out ++ front_of fronts t ∷ []) w
        from (inl m) s = Contains-append_left out (front_of fronts t ∷ []) w ((p.placed w l).1 (omega (arith, m, same)))
        from (inr m) s =
            let q = here (slice_index lanes w) e in
            let d : front_of fronts t ≡ w = omega (arith, m, s, q) in
            subst (λ (x : ℕ). Contains (out ++ front_of fronts t ∷ []) x) d (Contains-push out (front_of fronts t))
    placed w l (inr ne) = (λ c. to (Contains-push_cases out (front_of fronts t) w c), λ s. from s)
      where
        to : Contains out w ⊎ (front_of fronts t ≡ w) → w < front_of (set fronts t next) (slice_index lanes w)
        to (inl c) = let a = (p.placed w l).0 c in let q = there (slice_index lanes w) ne in omega (arith, a, q)
        to (inr d) = absurd (ne (sym (ap (λ (x : ℕ). slice_index lanes x) d) ∙ front.1))

        from : w < front_of (set fronts t next) (slice_index lanes w) → Contains (out ++ front_of fronts t ∷ []) w
        from s = let q = there (slice_index lanes w) ne in Contains-append_left out (front_of fronts t ∷ []) w ((p.placed w l).1 (omega (arith, s, q)))

    follow : (w : ℕ) → w < length lanes → (slice_index lanes w ≡ t) ⊎ (slice_index lanes w ≡ t → ⊥) → front_of (set fronts t next) (slice_index lanes w) ≤ w →
        slice_index lanes (front_of (set fronts t next) (slice_index lanes w)) ≡ slice_index lanes w
    follow w l (inl e) s =
        let q = here (slice_index lanes w) e in
        let a = h.rising (front_of fronts t) (front_of fronts t + 1) (omega arith) (omega (arith, s, q, l)) in
        let d = h.rising (front_of fronts t + 1) w (omega (arith, s, q)) l in
        let f = front.1 in
        ap (λ (x : ℕ). slice_index lanes x) q ∙ (let z : slice_index lanes (front_of fronts t + 1) ≡ slice_index lanes w = omega (arith, a, d, f, e) in z)
    follow w l (inr ne) s =
        let q = there (slice_index lanes w) ne in
        ap (λ (x : ℕ). slice_index lanes x) q ∙ p.front w l (omega (arith, q, s))

    node : (w : ℕ) → Contains out w ⊎ (front_of fronts t ≡ w) → w < length lanes
    node w (inl c) = p.nodes w c
    node w (inr d) = let f = front.0 in omega (arith, f, d)

-- there are never more placed than there are nodes
pub placed-few : (lanes fronts out : List ℕ) → IsPlaced lanes fronts out → length out ≤ length lanes
placed-few lanes fronts out p = length-le_from_distinct_below out (length lanes) p.distinct (λ q c. p.nodes q (Contains-from_any {eq = eqb} (λ x y. eqb-true x y) q out c))

-- so there is one node left where there is a front
pub placed-space : (threads : ℕ) (lanes : List ℕ) (size : ℕ) (fronts out : List ℕ) (t : ℕ) → HasLanes threads lanes size → IsPlaced lanes fronts out → HasFront lanes fronts t → t < length fronts → length out < length lanes
placed-space threads lanes size fronts out t h p front b =
    let m = placed-few lanes (set fronts t (front_of fronts t + 1)) (out ++ front_of fronts t ∷ []) (placed-more threads lanes size fronts out t (front_of fronts t + 1) h p front b refl) in
    let n = length_push out (front_of fronts t) in omega (arith, m, n)

-- nothing is placed yet
pub placed-none : (lanes fronts : List ℕ) → AreStarts lanes 0 fronts → IsPlaced lanes fronts []
unfolding IsDistinct
placed-none lanes fronts s = record {
  placed = λ w l. (λ c. absurd (let m = c.1 in omega (arith, m)), λ m. absurd (let n = s.low w (omega arith) l in omega (arith, m, n)));
  front = λ w l m. s.lane w (omega arith) l;
  nodes = λ w c. absurd (let m = c.1 in omega (arith, m));
  distinct = tt;
}

-- each node placed so far could come next, and was the least such one
pub record IsOrdered (edges : List Edge) (nodes : ℕ) (out : List ℕ) : Type 0 where
  pub ready : (k : ℕ) → k < length out → IsReady edges nodes (take k out) (slice_index out k)
  pub least : (k v : ℕ) → k < length out → IsReady edges nodes (take k out) v → slice_index out k ≤ v

pub ordered-none : (edges : List Edge) (nodes : ℕ) → IsOrdered edges nodes []
ordered-none edges nodes = record { ready = λ k l. absurd (omega (arith, l)); least = λ k v l. absurd (omega (arith, l)) }

pub ordered-more : (edges : List Edge) (nodes : ℕ) (out : List ℕ) (f : ℕ) → IsOrdered edges nodes out → IsReady edges nodes out f → ((v : ℕ) → IsReady edges nodes out v → f ≤ v) → IsOrdered edges nodes (out ++ f ∷ [])
ordered-more edges nodes out f o r s = record { ready = λ k l. ready k l (cases_lt k (length out)); least = λ k v l. least k v l (cases_lt k (length out)) }
  where
    size : length (out ++ f ∷ []) ≡ length out + 1
    size = length_push out f

    early : (k : ℕ) → k < length out → take k (out ++ f ∷ []) ≡ take k out
    early k l = take-append-le k out (f ∷ []) (omega (arith, l))

    at : (k : ℕ) → k < length out → slice_index (out ++ f ∷ []) k ≡ slice_index out k
    at k l = get_or_append_left out (f ∷ []) 0 k l

    late : (k : ℕ) → k ≡ length out → take k (out ++ f ∷ []) ≡ out
    late k e = take_at out (f ∷ []) k (sym e)

    last : (k : ℕ) → k ≡ length out → slice_index (out ++ f ∷ []) k ≡ f
    last k e = get_or_push out f 0 k (sym e)

    ready : (k : ℕ) → k < length (out ++ f ∷ []) → (k < length out) ⊎ (length out ≤ k) → IsReady edges nodes (take k (out ++ f ∷ [])) (slice_index (out ++ f ∷ []) k)
    ready k l (inl m) = subst (λ (z : List ℕ). IsReady edges nodes z (slice_index (out ++ f ∷ []) k)) (sym (early k m)) (subst (λ (x : ℕ). IsReady edges nodes (take k out) x) (sym (at k m)) (o.ready k m))
    ready k l (inr m) =
        let e : k ≡ length out = omega (arith, l, m, size) in
        subst (λ (z : List ℕ). IsReady edges nodes z (slice_index (out ++ f ∷ []) k)) (sym (late k e)) (subst (λ (x : ℕ). IsReady edges nodes out x) (sym (last k e)) r)

    least : (k v : ℕ) → k < length (out ++ f ∷ []) → (k < length out) ⊎ (length out ≤ k) → IsReady edges nodes (take k (out ++ f ∷ [])) v → slice_index (out ++ f ∷ []) k ≤ v
    least k v l (inl m) c = let a = o.least k v m (subst (λ (z : List ℕ). IsReady edges nodes z v) (early k m) c) in let b = at k m in omega (arith, a, b)
    least k v l (inr m) c =
        let e : k ≡ length out = omega (arith, l, m, size) in
        let a = s v (subst (λ (z : List ℕ). IsReady edges nodes z v) (late k e) c) in let b = last k e in omega (arith, a, b)

-- each before those that it leads to
pub ordered-before : (edges : List Edge) (nodes : ℕ) (out : List ℕ) → IsOrdered edges nodes out → (i j : ℕ) → i < length out → j < length out → LeadsTo edges (slice_index out i) (slice_index out j) → i < j
ordered-before edges nodes out o i j l m w = go ((o.ready j m).after (slice_index out i) w) (cases_lt i j)
  where
    go : Contains (take j out) (slice_index out i) → (i < j) ⊎ (j ≤ i) → i < j
    go c (inl s) = s
    go (k, n, e) (inr s) = absurd ((o.ready i l).new (k, shorter, again))
      where
        low : k < j
        low = let q = length-take-le j out (omega (arith, m)) in omega (arith, n, q)

        shorter : k < length (take i out)
        shorter = let q = length-take-le i out (omega (arith, l)) in let b = low in omega (arith, q, b, s)

        again : get_or (take i out) k (slice_index out i) ≡ slice_index out i
        again = get_or-take i out k (slice_index out i) (let b = low in omega (arith, b, s)) ∙ sym (get_or-take j out k (slice_index out i) low) ∙ e

pub ordered-all : (edges : List Edge) (nodes : ℕ) (out : List ℕ) → IsOrdered edges nodes out → ((v : ℕ) → v < nodes → Contains out v) → IsOrder edges nodes out
ordered-all edges nodes out o all = record { all = all; before = ordered-before edges nodes out o; ready = o.ready; least = o.least }

-- one more node's thread has a front
pub starts-more : (lanes fronts : List ℕ) (node : ℕ) → node < length lanes → slice_index lanes node < length fronts → AreStarts lanes (node + 1) fronts → AreStarts lanes node (set fronts (slice_index lanes node) node)
starts-more lanes fronts node l b s = record { low = λ w m n. low w m n (cases_eq (slice_index lanes w) (slice_index lanes node)); lane = λ w m n. lane w m n (cases_eq (slice_index lanes w) (slice_index lanes node)) }
  where
    here : (x : ℕ) → x ≡ slice_index lanes node → front_of (set fronts (slice_index lanes node) node) x ≡ node
    here x e = ap (λ (y : ℕ). front_of (set fronts (slice_index lanes node) node) y) e ∙ get_or-set_same fronts (slice_index lanes node) node 0 b

    there : (x : ℕ) → (x ≡ slice_index lanes node → ⊥) → front_of (set fronts (slice_index lanes node) node) x ≡ front_of fronts x
    there x ne = get_or-set_other fronts (slice_index lanes node) x node 0 ne

    later : (w : ℕ) → node ≤ w → (slice_index lanes w ≡ slice_index lanes node → ⊥) → (w ≡ node) ⊎ (w ≡ node → ⊥) → node + 1 ≤ w
    later w m ne (inl e) = absurd (ne (ap (λ (x : ℕ). slice_index lanes x) e))
    later w m ne (inr e) = omega (arith, m, e)

    low : (w : ℕ) → node ≤ w → w < length lanes → (slice_index lanes w ≡ slice_index lanes node) ⊎ (slice_index lanes w ≡ slice_index lanes node → ⊥) →
        front_of (set fronts (slice_index lanes node) node) (slice_index lanes w) ≤ w
    low w m n (inl e) = let q = here (slice_index lanes w) e in omega (arith, q, m)
    low w m n (inr ne) = let q = there (slice_index lanes w) ne in let a = s.low w (later w m ne (cases_eq w node)) n in omega (arith, q, a)

    lane : (w : ℕ) → node ≤ w → w < length lanes → (slice_index lanes w ≡ slice_index lanes node) ⊎ (slice_index lanes w ≡ slice_index lanes node → ⊥) →
        slice_index lanes (front_of (set fronts (slice_index lanes node) node) (slice_index lanes w)) ≡ slice_index lanes w
    lane w m n (inl e) = ap (λ (x : ℕ). slice_index lanes x) (here (slice_index lanes w) e) ∙ sym e
    lane w m n (inr ne) = ap (λ (x : ℕ). slice_index lanes x) (there (slice_index lanes w) ne) ∙ s.lane w (later w m ne (cases_eq w node)) n

pub starts-none : (lanes fronts : List ℕ) (from : ℕ) → length lanes ≤ from → AreStarts lanes from fronts
starts-none lanes fronts from l = record { low = λ w m n. absurd (omega (arith, l, m, n)); lane = λ w m n. absurd (omega (arith, l, m, n)) }
