-- Walks, and the test that adds edge after edge.
use Rattle.std.proofs.Common.{◌≡◌, ℕ, zero, suc, true, eqb, List, [], ◌∷◌, ◌++◌, refl, sym, ap, subst, arith, inl, inr, ◌⊎◌}
use Rattle.std.specs.Prelude.{Contains, ◌||◌, ◌&&◌}
use Rattle.std.proofs.lemmas.Bool.{eqb-true, eq-eqb, and_parts, and_from, or_cases, or_left, or_right}
use Rattle.plain_search.specs.declared.Edge.{Edge}
use Rattle.plain_search.specs.Edges.{IsWalk, LeadsTo, reaches}

abbrev pub Reaches : List Edge → ℕ → ℕ → Type 0
Reaches edges u v = reaches edges u v ≡ true

-- the same number, or a walk to it
abbrev pub Arrives : List Edge → ℕ → ℕ → Type 0
Arrives edges u v = (u ≡ v) ⊎ Reaches edges u v

pub arrives-of : (edges : List Edge) (u v : ℕ) → (eqb u v || reaches edges u v) ≡ true → Arrives edges u v
arrives-of edges u v h = go (or_cases (eqb u v) (reaches edges u v) h)
  where
    go : (eqb u v ≡ true) ⊎ (reaches edges u v ≡ true) → Arrives edges u v
    go (inl t) = inl (eqb-true u v t)
    go (inr t) = inr t

pub arrives-test : (edges : List Edge) (u v : ℕ) → Arrives edges u v → (eqb u v || reaches edges u v) ≡ true
arrives-test edges u v (inl e) = or_left (eqb u v) (reaches edges u v) (eq-eqb u v e)
arrives-test edges u v (inr r) = or_right (eqb u v) (reaches edges u v) r

pub reaches-view : (e : Edge) (edges : List Edge) (u v : ℕ) → Reaches (e ∷ edges) u v → Reaches edges u v ⊎ (Arrives edges u e.from × Arrives edges e.to v)
unfolding reaches
reaches-view e edges u v h = go (or_cases (reaches edges u v) ((eqb u e.from || reaches edges u e.from) && (eqb e.to v || reaches edges e.to v)) h)
  where
    go : (reaches edges u v ≡ true) ⊎ (((eqb u e.from || reaches edges u e.from) && (eqb e.to v || reaches edges e.to v)) ≡ true) → Reaches edges u v ⊎ (Arrives edges u e.from × Arrives edges e.to v)
    go (inl t) = inl t
    go (inr t) = let p = and_parts (eqb u e.from || reaches edges u e.from) (eqb e.to v || reaches edges e.to v) t in inr (arrives-of edges u e.from p.0, arrives-of edges e.to v p.1)

pub reaches-without : (e : Edge) (edges : List Edge) (u v : ℕ) → Reaches edges u v → Reaches (e ∷ edges) u v
unfolding reaches
reaches-without e edges u v h = or_left (reaches edges u v) ((eqb u e.from || reaches edges u e.from) && (eqb e.to v || reaches edges e.to v)) h

pub reaches-with : (e : Edge) (edges : List Edge) (u v : ℕ) → Arrives edges u e.from → Arrives edges e.to v → Reaches (e ∷ edges) u v
unfolding reaches
reaches-with e edges u v a b = or_right (reaches edges u v) ((eqb u e.from || reaches edges u e.from) && (eqb e.to v || reaches edges e.to v))
    (and_from (eqb u e.from || reaches edges u e.from) (eqb e.to v || reaches edges e.to v) (arrives-test edges u e.from a) (arrives-test edges e.to v b))

pub reaches-nil : (u v : ℕ) → Reaches [] u v → ⊥
unfolding reaches
reaches-nil u v h = cc

-- walks join
pub reaches-trans : (edges : List Edge) (u v w : ℕ) → Reaches edges u v → Reaches edges v w → Reaches edges u w
reaches-trans [] u v w a b = absurd (reaches-nil u v a)
reaches-trans (e ∷ edges) u v w a b = go (reaches-trans edges) (reaches-view e edges u v a) (reaches-view e edges v w b)
  where
    left : ((x y z : ℕ) → Reaches edges x y → Reaches edges y z → Reaches edges x z) → (x y z : ℕ) → Reaches edges x y → Arrives edges y z → Arrives edges x z
    left t x y z r (inl q) = inr (subst (λ (k : ℕ). Reaches edges x k) q r)
    left t x y z r (inr q) = inr (t x y z r q)

    right : ((x y z : ℕ) → Reaches edges x y → Reaches edges y z → Reaches edges x z) → (x y z : ℕ) → Arrives edges x y → Reaches edges y z → Arrives edges x z
    right t x y z (inl q) r = inr (subst (λ (k : ℕ). Reaches edges k z) (sym q) r)
    right t x y z (inr q) r = inr (t x y z q r)

    go : ((x y z : ℕ) → Reaches edges x y → Reaches edges y z → Reaches edges x z) → Reaches edges u v ⊎ (Arrives edges u e.from × Arrives edges e.to v) →
        Reaches edges v w ⊎ (Arrives edges v e.from × Arrives edges e.to w) → Reaches (e ∷ edges) u w
    go t (inl p) (inl q) = reaches-without e edges u w (t u v w p q)
    go t (inl p) (inr (q, s)) = reaches-with e edges u w (left t u v e.from p q) s
    go t (inr (p, s)) (inl q) = reaches-with e edges u w p (right t e.to v w s q)
    go t (inr (p, s)) (inr (q, r)) = reaches-with e edges u w p r

-- an edge is a walk
pub reaches-edge : (edges : List Edge) (u v : ℕ) → Contains edges (record { from = u; to = v }) → Reaches edges u v
reaches-edge [] u v (k, l, h) = absurd (omega (arith, l))
reaches-edge (e ∷ edges) u v (zero, l, h) =
    let p : e.from ≡ u = ap (λ (x : Edge). x.from) h in
    let q : e.to ≡ v = ap (λ (x : Edge). x.to) h in
    reaches-with e edges u v (inl (sym p)) (inl q)
reaches-edge (e ∷ edges) u v (suc k, l, h) = reaches-without e edges u v (reaches-edge edges u v (k, omega arith, h))

pub walk-reaches : (edges : List Edge) (u : ℕ) (between : List ℕ) (v : ℕ) → IsWalk edges u between v → Reaches edges u v
walk-reaches edges u [] v c = reaches-edge edges u v c
walk-reaches edges u (m ∷ between) v (c, w) = reaches-trans edges u m v (reaches-edge edges u m c) (walk-reaches edges m between v w)

pub walk-more : (e : Edge) (edges : List Edge) (u : ℕ) (between : List ℕ) (v : ℕ) → IsWalk edges u between v → IsWalk (e ∷ edges) u between v
walk-more e edges u [] v (k, l, h) = (suc k, omega arith, h)
walk-more e edges u (m ∷ between) v ((k, l, h), w) = ((suc k, omega arith, h), walk-more e edges m between v w)

pub walks-join : (edges : List Edge) (u : ℕ) (one : List ℕ) (m : ℕ) (two : List ℕ) (v : ℕ) → IsWalk edges u one m → IsWalk edges m two v → IsWalk edges u (one ++ m ∷ two) v
walks-join edges u [] m two v a b = (a, b)
walks-join edges u (n ∷ one) m two v (c, a) b = (c, walks-join edges n one m two v a b)

pub reaches-walk : (edges : List Edge) (u v : ℕ) → Reaches edges u v → LeadsTo edges u v
reaches-walk [] u v h = absurd (reaches-nil u v h)
reaches-walk (e ∷ edges) u v h = go (reaches-walk edges) (reaches-view e edges u v h)
  where
    here : LeadsTo (e ∷ edges) e.from e.to
    here = ([], (0, omega arith, refl))

    before : ((x y : ℕ) → Reaches edges x y → LeadsTo edges x y) → (x : ℕ) → Arrives edges x e.from → LeadsTo (e ∷ edges) x e.to
    before ih x (inl q) = subst (λ (k : ℕ). LeadsTo (e ∷ edges) k e.to) (sym q) here
    before ih x (inr r) = let (b, w) = ih x e.from r in (b ++ e.from ∷ [], walks-join (e ∷ edges) x b e.from [] e.to (walk-more e edges x b e.from w) here.1)

    after : ((x y : ℕ) → Reaches edges x y → LeadsTo edges x y) → (x y : ℕ) → LeadsTo (e ∷ edges) x e.to → Arrives edges e.to y → LeadsTo (e ∷ edges) x y
    after ih x y w (inl q) = subst (λ (k : ℕ). LeadsTo (e ∷ edges) x k) q w
    after ih x y (a, w) (inr r) = let (b, z) = ih e.to y r in (a ++ e.to ∷ b, walks-join (e ∷ edges) x a e.to b y w (walk-more e edges e.to b y z))

    go : ((x y : ℕ) → Reaches edges x y → LeadsTo edges x y) → Reaches edges u v ⊎ (Arrives edges u e.from × Arrives edges e.to v) → LeadsTo (e ∷ edges) u v
    go ih (inl r) = let (b, w) = ih u v r in (b, walk-more e edges u b v w)
    go ih (inr (p, q)) = after ih u v (before ih u p) q
