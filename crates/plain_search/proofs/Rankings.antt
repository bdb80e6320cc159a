-- Edges without a cycle are those that hold under some ranking.
use Rattle.std.proofs.Common.{◌≡◌, ℕ, suc, ◌+◌, ◌<◌, ◌≤◌, true, false, cond, eqb, List, [], ◌∷◌, ◌++◌, refl, sym, ap, subst, arith, inl, inr, ◌⊎◌}
use Rattle.std.specs.Prelude.{◌||◌, not}
use Rattle.std.proofs.lemmas.Bool.{and_parts, and_from, cases_Bool, not-true, not_from_false, false_from_ne_true, both_ways}
use Rattle.std.proofs.lemmas.List.Elements.{All-nil, All-cons, All-head, All-tail, All-append}
use Rattle.std.proofs.lemmas.List.{get_or_default}
use Rattle.plain_search.specs.declared.Edge.{Edge}
use Rattle.plain_search.specs.Edges.{LeadsTo, reaches, is_acyclic, Holds, Implies}
use Rattle.plain_search.proofs.Walks.{Reaches, Arrives, arrives-of, arrives-test, reaches-view, reaches-nil, reaches-trans, reaches-edge, walk-reaches, reaches-with, reaches-without}

abbrev pub Rises : (ℕ → ℕ) → Edge → Type 0
Rises rank e = rank e.from < rank e.to

-- along a walk ranks rise
pub reaches-rises : (rank : ℕ → ℕ) (edges : List Edge) (u v : ℕ) → Holds rank edges → Reaches edges u v → rank u < rank v
reaches-rises rank [] u v h r = absurd (reaches-nil u v r)
reaches-rises rank (e ∷ edges) u v h r = go (λ x y q. reaches-rises rank edges x y (All-tail (Rises rank) e edges h) q) (All-head (Rises rank) e edges h) (reaches-view e edges u v r)
  where
    leads : ((x y : ℕ) → Reaches edges x y → rank x < rank y) → (x y : ℕ) → Arrives edges x y → rank x ≤ rank y
    leads ih x y (inl q) = let s = ap rank q in omega (arith, s)
    leads ih x y (inr q) = let s = ih x y q in omega (arith, s)

    go : ((x y : ℕ) → Reaches edges x y → rank x < rank y) → rank e.from < rank e.to → Reaches edges u v ⊎ (Arrives edges u e.from × Arrives edges e.to v) → rank u < rank v
    go ih l (inl q) = ih u v q
    go ih l (inr (p, q)) = let a = leads ih u e.from p in let b = leads ih e.to v q in omega (arith, a, b, l)

pub acyclic-parts : (e : Edge) (edges : List Edge) → is_acyclic (e ∷ edges) ≡ true → (is_acyclic edges ≡ true) × (Arrives edges e.to e.from → ⊥)
unfolding is_acyclic
acyclic-parts e edges h =
    let p = and_parts (is_acyclic edges) (not (eqb e.to e.from || reaches edges e.to e.from)) h in
    (p.0, λ q. both_ways _ (not-true (eqb e.to e.from || reaches edges e.to e.from) p.1) (arrives-test edges e.to e.from q))

pub acyclic-from : (e : Edge) (edges : List Edge) → is_acyclic edges ≡ true → (Arrives edges e.to e.from → ⊥) → is_acyclic (e ∷ edges) ≡ true
unfolding is_acyclic
acyclic-from e edges a no_loop = and_from (is_acyclic edges) (not (eqb e.to e.from || reaches edges e.to e.from)) a
    (not_from_false (eqb e.to e.from || reaches edges e.to e.from) (false_from_ne_true _ (λ t. no_loop (arrives-of edges e.to e.from t))))

pub ranked-acyclic : (rank : ℕ → ℕ) (edges : List Edge) → Holds rank edges → is_acyclic edges ≡ true
unfolding is_acyclic
ranked-acyclic rank [] h = refl
ranked-acyclic rank (e ∷ edges) h = acyclic-from e edges (ranked-acyclic rank edges (All-tail (Rises rank) e edges h)) (no_loop (All-head (Rises rank) e edges h))
  where
    no_loop : rank e.from < rank e.to → Arrives edges e.to e.from → ⊥
    no_loop l (inl q) = let s = ap rank q in absurd (omega (arith, s, l))
    no_loop l (inr r) = let s = reaches-rises rank edges e.to e.from (All-tail (Rises rank) e edges h) r in absurd (omega (arith, s, l))

-- with one edge more, all that its end leads to are raised by the rank of its start
abbrev pub raised : (ℕ → ℕ) → List Edge → Edge → ℕ → ℕ
raised rank edges e x = cond (eqb e.to x || reaches edges e.to x) (suc (rank e.from + rank x)) (rank x)

pub acyclic-ranked : (edges : List Edge) → is_acyclic edges ≡ true → (rank : ℕ → ℕ) × Holds rank edges
acyclic-ranked [] h = (λ x. x, All-nil (Rises (λ x. x)))
acyclic-ranked (e ∷ edges) h = let p = acyclic-parts e edges h in go p.1 (acyclic-ranked edges p.0)
  where
    go : (Arrives edges e.to e.from → ⊥) → (rank : ℕ → ℕ) × Holds rank edges → (rank : ℕ → ℕ) × Holds rank (e ∷ edges)
    go no_loop (rank, h) = (raised rank edges e, All-cons (Rises (raised rank edges e)) e edges first rest)
      where
        start : (eqb e.to e.from || reaches edges e.to e.from) ≡ false
        start = false_from_ne_true _ (λ t. no_loop (arrives-of edges e.to e.from t))

        end : (eqb e.to e.to || reaches edges e.to e.to) ≡ true
        end = arrives-test edges e.to e.to (inl refl)

        first : raised rank edges e e.from < raised rank edges e e.to
        first = rw start (rw end (omega arith))

        later : (x y : ℕ) → Reaches edges x y → Arrives edges e.to x → Arrives edges e.to y
        later x y r (inl q) = inr (subst (λ (k : ℕ). Reaches edges k y) (sym q) r)
        later x y r (inr q) = inr (reaches-trans edges e.to x y q r)

        rise : (x y : ℕ) → Reaches edges x y → rank x < rank y →
            ((eqb e.to x || reaches edges e.to x) ≡ true) ⊎ ((eqb e.to x || reaches edges e.to x) ≡ false) →
            ((eqb e.to y || reaches edges e.to y) ≡ true) ⊎ ((eqb e.to y || reaches edges e.to y) ≡ false) →
            raised rank edges e x < raised rank edges e y
        rise x y r l (inl a) (inl b) = rw a (rw b (omega (arith, l)))
        rise x y r l (inl a) (inr b) = absurd (both_ways _ b (arrives-test edges e.to y (later x y r (arrives-of edges e.to x a))))
        rise x y r l (inr a) (inl b) = rw a (rw b (omega (arith, l)))
        rise x y r l (inr a) (inr b) = rw a (rw b l)

        rest : Holds (raised rank edges e) edges
        rest k d kl = rise _ _ (reaches-edge edges _ _ (k, kl, get_or_default edges k _ d kl)) (h k d kl) (cases_Bool _) (cases_Bool _)

pub acyclic-no_loop : (edges : List Edge) → is_acyclic edges ≡ true → (v : ℕ) → LeadsTo edges v v → ⊥
acyclic-no_loop edges h v (b, w) =
    let (rank, holds) = acyclic-ranked edges h in
    let l = reaches-rises rank edges v v holds (walk-reaches edges v b v w) in absurd (omega (arith, l))

pub no_loop-acyclic : (edges : List Edge) → ((v : ℕ) → Reaches edges v v → ⊥) → is_acyclic edges ≡ true
unfolding is_acyclic
no_loop-acyclic [] h = refl
no_loop-acyclic (e ∷ edges) h = acyclic-from e edges (no_loop-acyclic edges (λ v r. h v (reaches-without e edges v v r))) none
  where
    none : Arrives edges e.to e.from → ⊥
    none l = h e.from (reaches-with e edges e.from e.from (inl refl) l)

pub Holds-split : (rank : ℕ → ℕ) (xs ys : List Edge) → Holds rank (xs ++ ys) → Holds rank xs × Holds rank ys
Holds-split rank [] ys h = (All-nil (Rises rank), h)
Holds-split rank (x ∷ xs) ys h =
    let (p, q) = Holds-split rank xs ys (All-tail (Rises rank) x (xs ++ ys) h) in
    (All-cons (Rises rank) x xs (All-head (Rises rank) x (xs ++ ys) h) p, q)

pub Holds-join : (rank : ℕ → ℕ) (xs ys : List Edge) → Holds rank xs → Holds rank ys → Holds rank (xs ++ ys)
Holds-join rank xs ys p q = All-append (Rises rank) xs ys p q

-- what acyclic edges imply is acyclic
pub acyclic-implied : (edges others : List Edge) → Implies edges others → is_acyclic edges ≡ true → is_acyclic others ≡ true
acyclic-implied edges others by a = let (rank, h) = acyclic-ranked edges a in ranked-acyclic rank others (by rank h)

-- where edges have a cycle, no ranking holds them
pub cyclic-unranked : (edges : List Edge) → is_acyclic edges ≡ false → (rank : ℕ → ℕ) → Holds rank edges → ⊥
cyclic-unranked edges c rank h = both_ways _ c (ranked-acyclic rank edges h)

-- where each ranking ranks u below v, a walk leads there: else an edge back could be added
pub ranked-reaches : (edges : List Edge) (u v : ℕ) → is_acyclic edges ≡ true → ((rank : ℕ → ℕ) → Holds rank edges → rank u < rank v) → Reaches edges u v
ranked-reaches edges u v a below = go (cases_Bool (reaches edges u v)) (acyclic-ranked edges a)
  where
    back : Edge
    back = record { from = v; to = u }

    go : (reaches edges u v ≡ true) ⊎ (reaches edges u v ≡ false) → (rank : ℕ → ℕ) × Holds rank edges → Reaches edges u v
    go (inl t) r = t
    go (inr n) (rank, h) = absurd (turned (acyclic-ranked (back ∷ edges) (acyclic-from back edges a apart)))
      where
        apart : Arrives edges u v → ⊥
        apart (inl e) = let l = below rank h in let s = ap rank e in absurd (omega (arith, l, s))
        apart (inr r) = both_ways _ n r

        turned : (rank : ℕ → ℕ) × Holds rank (back ∷ edges) → ⊥
        turned (other, k) =
            let l = below other (All-tail (Rises other) back edges k) in
            let m : other v < other u = All-head (Rises other) back edges k in
            absurd (omega (arith, l, m))
