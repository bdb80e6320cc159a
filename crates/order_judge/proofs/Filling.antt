-- The places of nodes as they are filled in, one after the other.
use Rattle.std.proofs.Common.{◌≡◌, ℕ, zero, suc, ◌+◌, ◌<◌, ◌≤◌, true, false, eqb, List, [], ◌∷◌, length, get_or, sym, ◌∙◌, ap, arith, inl, inr, ◌⊎◌}
use Rattle.std.specs.Prelude.{◌≢◌, Contains}
use Rattle.std.proofs.Math.ListN.{set, replicate}
use Rattle.std.proofs.lemmas.Bool.{cases_Bool, cases_lt, cases_eq, eqb-true, eq-eqb, both_ways}
use Rattle.std.proofs.lemmas.List.{length-set, length-replicate, get_or-set_same, get_or-set_other, get_or-replicate, get_or_default}
use Rattle.order_judge.specs.Places.{place, IsOrder, ArePlaces, IsUnknown, IsTwice, IsMissing, IsLeast, IsNever}

-- a node of the order stands at its place
pub at_place : (order : List ℕ) (x : ℕ) → Contains order x → (place order x < length order) × (get_or order (place order x) 0 ≡ x)
at_place [] x (k, l, h) = absurd (omega (arith, l))
at_place (y ∷ order) x c = go (cases_Bool (eqb y x)) (at_place order x) c
  where
    go : (eqb y x ≡ true) ⊎ (eqb y x ≡ false) → (Contains order x → (place order x < length order) × (get_or order (place order x) 0 ≡ x)) → Contains (y ∷ order) x →
        (place (y ∷ order) x < length (y ∷ order)) × (get_or (y ∷ order) (place (y ∷ order) x) 0 ≡ x)
    go (inl t) ih c = rw t (omega arith, eqb-true y x t)
    go (inr t) ih (zero, l, h) = absurd (both_ways _ t (eq-eqb y x h))
    go (inr t) ih (suc k, l, h) = let (a, b) = ih (k, omega arith, h) in rw t (omega (arith, a), b)

-- and nowhere before
pub place-first : (order : List ℕ) (k x : ℕ) → k < length order → get_or order k 0 ≡ x → place order x ≤ k
place-first [] k x l h = absurd (omega (arith, l))
place-first (y ∷ order) zero x l h = rw (eq-eqb y x h) (omega arith)
place-first (y ∷ order) (suc k) x l h = go (cases_Bool (eqb y x)) (place-first order k x (omega (arith, l)) h)
  where
    go : (eqb y x ≡ true) ⊎ (eqb y x ≡ false) → place order x ≤ k → place (y ∷ order) x ≤ suc k
    go (inl t) ih = rw t (omega arith)
    go (inr t) ih = rw t (omega (arith, ih))

pub contains_at : (order : List ℕ) (k : ℕ) → k < length order → Contains order (get_or order k 0)
contains_at order k l = (k, l, get_or_default order k (get_or order k 0) 0 l)

-- in an order the place of the node at k is k
pub place_at : (nodes : ℕ) (order : List ℕ) → IsOrder nodes order → (k : ℕ) → k < length order → place order (get_or order k 0) ≡ k
place_at nodes order o k l = go (cases_lt (place order (get_or order k 0)) k) (cases_lt k (place order (get_or order k 0)))
  where
    found : (place order (get_or order k 0) < length order) × (get_or order (place order (get_or order k 0)) 0 ≡ get_or order k 0)
    found = at_place order (get_or order k 0) (contains_at order k l)

    go : (place order (get_or order k 0) < k) ⊎ (k ≤ place order (get_or order k 0)) → (k < place order (get_or order k 0)) ⊎ (place order (get_or order k 0) ≤ k) → place order (get_or order k 0) ≡ k
    go (inl m) c = absurd (o.once (place order (get_or order k 0)) k m l found.1)
    go (inr m) (inl n) = absurd (o.once k (place order (get_or order k 0)) n found.0 (sym found.1))
    go (inr m) (inr n) = omega (arith, m, n)

-- one place, one node
pub same_place : (nodes : ℕ) (order : List ℕ) → IsOrder nodes order → (x y : ℕ) → x < nodes → y < nodes → place order x ≡ place order y → x ≡ y
same_place nodes order o x y l m e =
    let (a, b) = at_place order x (o.all x l) in
    let (c, d) = at_place order y (o.all y m) in
    sym b ∙ ap (λ (n : ℕ). get_or order n 0) e ∙ d

-- the first k nodes of the list have their places, each of them once, and no other node has one
pub record Filled (nodes : ℕ) (order places : List ℕ) (k : ℕ) : Type 0 where
  pub count : length places ≡ nodes
  pub known : IsNever (IsUnknown nodes order)
  pub there : (j : ℕ) → j < k → get_or places (get_or order j 0) 0 ≡ j
  pub back : (x : ℕ) → x < nodes → (get_or places x 0 ≡ 4294967295) ⊎ ((get_or places x 0 < k) × (get_or order (get_or places x 0) 0 ≡ x))

pub filled_none : (nodes : ℕ) (order : List ℕ) → IsNever (IsUnknown nodes order) → Filled nodes order (replicate nodes 4294967295) 0
filled_none nodes order known = record {
  count = length-replicate nodes 4294967295;
  known = known;
  there = λ j l. absurd (omega (arith, l));
  back = λ x l. inl (get_or-replicate nodes x 4294967295 0 l);
}

-- where each place has a node, what stands at k is one
pub node_at : (nodes : ℕ) (order : List ℕ) → IsNever (IsUnknown nodes order) → (k : ℕ) → k < length order → get_or order k 0 < nodes
node_at nodes order known k l = go (cases_lt (get_or order k 0) nodes)
  where
    go : (get_or order k 0 < nodes) ⊎ (nodes ≤ get_or order k 0) → get_or order k 0 < nodes
    go (inl m) = m
    go (inr m) = absurd (known k (l, m))

pub filled_more : (nodes : ℕ) (order places : List ℕ) (k x : ℕ) → Filled nodes order places k → k < length order → length order < 4294967296 → get_or order k 0 ≡ x → get_or places x 0 ≡ 4294967295 →
    Filled nodes order (set places x k) (k + 1)
filled_more nodes order places k x f l fits at h = record {
  count = length-set places x k ∙ f.count;
  known = f.known;
  there = λ j m. there j (cases_lt j k) m;
  back = λ y m. back y m (cases_eq y x);
}
  where
    inside : x < length places
    inside = let c = f.count in let n = node_at nodes order f.known k l in omega (arith, n, c, at)

    there : (j : ℕ) → (j < k) ⊎ (k ≤ j) → j < k + 1 → get_or (set places x k) (get_or order j 0) 0 ≡ j
    there j (inl m) n =
        let b = f.there j m in
        let other : get_or order j 0 ≢ x = λ e. let q : get_or places (get_or order j 0) 0 ≡ get_or places x 0 = ap (λ (y : ℕ). get_or places y 0) e in omega (arith, q, b, h, m, l, fits) in
        get_or-set_other places x (get_or order j 0) k 0 other ∙ b
    there j (inr m) n =
        let e : j ≡ k = omega (arith, m, n) in
        let q : get_or order j 0 ≡ x = ap (λ (i : ℕ). get_or order i 0) e ∙ at in
        ap (λ (y : ℕ). get_or (set places x k) y 0) q ∙ get_or-set_same places x k 0 inside ∙ sym e

    back : (y : ℕ) → y < nodes → (y ≡ x) ⊎ (y ≢ x) → (get_or (set places x k) y 0 ≡ 4294967295) ⊎ ((get_or (set places x k) y 0 < k + 1) × (get_or order (get_or (set places x k) y 0) 0 ≡ y))
    back y m (inl e) =
        let q : get_or (set places x k) y 0 ≡ k = ap (λ (z : ℕ). get_or (set places x k) z 0) e ∙ get_or-set_same places x k 0 inside in
        inr (omega (arith, q), ap (λ (i : ℕ). get_or order i 0) q ∙ at ∙ sym e)
    back y m (inr n) = kept (f.back y m) (get_or-set_other places x y k 0 n)
      where
        kept : (get_or places y 0 ≡ 4294967295) ⊎ ((get_or places y 0 < k) × (get_or order (get_or places y 0) 0 ≡ y)) → get_or (set places x k) y 0 ≡ get_or places y 0 →
            (get_or (set places x k) y 0 ≡ 4294967295) ⊎ ((get_or (set places x k) y 0 < k + 1) × (get_or order (get_or (set places x k) y 0) 0 ≡ y))
        kept (inl a) q = inl (q ∙ a)
        kept (inr (a, b)) q = inr (omega (arith, a, q), ap (λ (i : ℕ). get_or order i 0) q ∙ b)

-- none of the first k stands twice
pub filled-once : (nodes : ℕ) (order places : List ℕ) (k : ℕ) → Filled nodes order places k → k ≤ length order → (m : ℕ) → m < k → IsTwice order m → ⊥
filled-once nodes order places k f full m l (n, h) =
    let x = get_or order m 0 in
    let (a, b) = at_place order x (contains_at order m n) in
    let p = f.there (place order x) (omega (arith, h, l)) in
    let q = f.there m l in
    let e : get_or places (get_or order (place order x) 0) 0 ≡ get_or places x 0 = ap (λ (y : ℕ). get_or places y 0) b in
    omega (arith, p, q, e, h)

-- what stands at k has a place already: it is the first such node
pub filled-twice : (nodes : ℕ) (order places : List ℕ) (k : ℕ) → Filled nodes order places k → k < length order → get_or places (get_or order k 0) 0 ≢ 4294967295 →
    IsNever (IsUnknown nodes order) × IsLeast (IsTwice order) k
filled-twice nodes order places k f l h =
    (f.known, ((l, go (f.back (get_or order k 0) (node_at nodes order f.known k l))), λ m below. filled-once nodes order places k f (omega (arith, l)) m below))
  where
    go : (get_or places (get_or order k 0) 0 ≡ 4294967295) ⊎ ((get_or places (get_or order k 0) 0 < k) × (get_or order (get_or places (get_or order k 0) 0) 0 ≡ get_or order k 0)) → place order (get_or order k 0) < k
    go (inl e) = absurd (h e)
    go (inr (a, b)) = let p = place-first order (get_or places (get_or order k 0) 0) (get_or order k 0) (omega (arith, a, l)) b in omega (arith, p, a)

-- all nodes of the list have their places, and this is the first node with none
pub filled-missing : (nodes : ℕ) (order places : List ℕ) (x : ℕ) → Filled nodes order places (length order) → length order < 4294967296 → x < nodes → get_or places x 0 ≡ 4294967295 →
    ((y : ℕ) → y < x → get_or places y 0 ≢ 4294967295) → IsNever (IsUnknown nodes order) × IsNever (IsTwice order) × IsLeast (IsMissing nodes order) x
filled-missing nodes order places x f fits l h before =
    (f.known, (λ m t. filled-once nodes order places (length order) f (omega arith) m t.0 t), ((l, here), λ y below g. go y (f.back y (omega (arith, below, l))) (before y below) g.1))
  where
    here : Contains order x → ⊥
    here (k, m, q) =
        let e = f.there k m in
        let p : get_or places (get_or order k 0) 0 ≡ get_or places x 0 = ap (λ (y : ℕ). get_or places y 0) (get_or_default order k 0 x m ∙ q) in
        omega (arith, e, p, h, m, fits)

    go : (y : ℕ) → (get_or places y 0 ≡ 4294967295) ⊎ ((get_or places y 0 < length order) × (get_or order (get_or places y 0) 0 ≡ y)) → get_or places y 0 ≢ 4294967295 → (Contains order y → ⊥) → ⊥
    go y (inl e) n g = n e
    go y (inr (a, b)) n g = g (get_or places y 0, a, get_or_default order (get_or places y 0) y 0 a ∙ b)

-- all nodes have their places
pub filled-all : (nodes : ℕ) (order places : List ℕ) → Filled nodes order places (length order) → ((x : ℕ) → x < nodes → get_or places x 0 ≢ 4294967295) → IsOrder nodes order × ArePlaces nodes order places
filled-all nodes order places f set_there = (is_order, record { count = f.count; same = λ x l. same x (found x l (f.back x l)) })
  where
    found : (x : ℕ) → x < nodes → (get_or places x 0 ≡ 4294967295) ⊎ ((get_or places x 0 < length order) × (get_or order (get_or places x 0) 0 ≡ x)) →
        (get_or places x 0 < length order) × (get_or order (get_or places x 0) 0 ≡ x)
    found x l (inl e) = absurd (set_there x l e)
    found x l (inr h) = h

    is_order : IsOrder nodes order
    is_order = record {
      all = λ x l. let (m, q) = found x l (f.back x l) in (get_or places x 0, m, get_or_default order (get_or places x 0) x 0 m ∙ q);
      only = λ x (k, l, h). let e = get_or_default order k 0 x l ∙ h in let n = node_at nodes order f.known k l in omega (arith, e, n);
      once = λ i j l m e.
          let a = f.there i (omega (arith, l, m)) in
          let b = f.there j m in
          let q : get_or places (get_or order i 0) 0 ≡ get_or places (get_or order j 0) 0 = ap (λ (y : ℕ). get_or places y 0) e in
          omega (arith, q, a, b, l);
    }

    same : (x : ℕ) → (get_or places x 0 < length order) × (get_or order (get_or places x 0) 0 ≡ x) → get_or places x 0 ≡ place order x
    same x (a, b) = sym (place_at nodes order is_order (get_or places x 0) a) ∙ ap (place order) b
