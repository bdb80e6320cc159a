-- What the search finds.
use Rattle.std.proofs.Common.{◌≡◌, ℕ, suc, ◌<◌, true, false, List, [], ◌∷◌, ◌++◌, length, refl, sym, ◌∙◌, ap, arith, inl, inr, ◌⊎◌}
use Rattle.std.specs.Prelude.{All}
use Rattle.std.proofs.lemmas.Bool.{cases_Bool, cond-true, cond-false, both_ways}
use Rattle.std.proofs.lemmas.List.Elements.{All-nil, All-cons, All-head, All-tail}
use Rattle.plain_search.specs.declared.Edge.{Edge}
use Rattle.plain_search.specs.Edges.{is_acyclic, Holds}
use Rattle.plain_search.specs.Searches.{Pair, PairProblem, problem_of, HoldsOneSide, Solves, Side, Lesser, Greater, chosen, HasChoice, Outcome, nothing, at_pair, search, outcome}
use Rattle.plain_search.proofs.Rankings.{ranked-acyclic, acyclic-ranked, Holds-split, Holds-join}
use Rattle.plain_search.proofs.Outcomes.{Counts, found_left, found_right, found_cases, at_pair-counts}

abbrev pub Solved : List Edge → List Pair → (ℕ → ℕ) → Type 0
Solved edges pairs rank = Solves (problem_of edges pairs) rank

-- a solution with a side added is a solution that takes this side
pub solves-lesser : (edges : List Edge) (pair : Pair) (pairs : List Pair) (rank : ℕ → ℕ) → Solved (pair.lesser ++ edges) pairs rank → Solved edges (pair ∷ pairs) rank
solves-lesser edges pair pairs rank s =
    let (p, q) = Holds-split rank pair.lesser edges s.base in
    record { base = q; sides = All-cons (HoldsOneSide rank) pair pairs (inl p) s.sides }

pub solves-greater : (edges : List Edge) (pair : Pair) (pairs : List Pair) (rank : ℕ → ℕ) → Solved (pair.greater ++ edges) pairs rank → Solved edges (pair ∷ pairs) rank
solves-greater edges pair pairs rank s =
    let (p, q) = Holds-split rank pair.greater edges s.base in
    record { base = q; sides = All-cons (HoldsOneSide rank) pair pairs (inr p) s.sides }

-- and each solution takes one
pub solves-cases : (edges : List Edge) (pair : Pair) (pairs : List Pair) (rank : ℕ → ℕ) → Solved edges (pair ∷ pairs) rank →
    Solved (pair.lesser ++ edges) pairs rank ⊎ Solved (pair.greater ++ edges) pairs rank
solves-cases edges pair pairs rank s = go (All-head (HoldsOneSide rank) pair pairs s.sides)
  where
    go : HoldsOneSide rank pair → Solved (pair.lesser ++ edges) pairs rank ⊎ Solved (pair.greater ++ edges) pairs rank
    go (inl h) = inl (record { base = Holds-join rank pair.lesser edges h s.base; sides = All-tail (HoldsOneSide rank) pair pairs s.sides })
    go (inr h) = inr (record { base = Holds-join rank pair.greater edges h s.base; sides = All-tail (HoldsOneSide rank) pair pairs s.sides })

pub found-solved : (pairs : List Pair) (edges : List Edge) → is_acyclic edges ≡ true → (search edges pairs).found ≡ true → (rank : ℕ → ℕ) × Solved edges pairs rank
unfolding search
found-solved [] edges a h = let (rank, holds) = acyclic-ranked edges a in (rank, record { base = holds; sides = All-nil (HoldsOneSide rank) })
found-solved (pair ∷ pairs) edges a h =
    go (found_cases (is_acyclic (pair.lesser ++ edges)) (is_acyclic (pair.greater ++ edges)) (search (pair.lesser ++ edges) pairs) (search (pair.greater ++ edges) pairs) h)
    (found-solved pairs (pair.lesser ++ edges)) (found-solved pairs (pair.greater ++ edges))
  where
    Found : List Edge → Type 0
    Found side = (is_acyclic (side ++ edges) ≡ true) × ((search (side ++ edges) pairs).found ≡ true)

    Deeper : List Edge → Type 0
    Deeper side = is_acyclic (side ++ edges) ≡ true → (search (side ++ edges) pairs).found ≡ true → (rank : ℕ → ℕ) × Solved (side ++ edges) pairs rank

    go : Found pair.lesser ⊎ Found pair.greater → Deeper pair.lesser → Deeper pair.greater → (rank : ℕ → ℕ) × Solved edges (pair ∷ pairs) rank
    go (inl (b, f)) l g = let (rank, s) = l b f in (rank, solves-lesser edges pair pairs rank s)
    go (inr (b, f)) l g = let (rank, s) = g b f in (rank, solves-greater edges pair pairs rank s)

pub solved-found : (pairs : List Pair) (edges : List Edge) (rank : ℕ → ℕ) → Solved edges pairs rank → (search edges pairs).found ≡ true
unfolding search
solved-found [] edges rank s = refl
solved-found (pair ∷ pairs) edges rank s = go (solves-cases edges pair pairs rank s) (solved-found pairs (pair.lesser ++ edges) rank) (solved-found pairs (pair.greater ++ edges) rank)
  where
    lesser : Outcome
    lesser = search (pair.lesser ++ edges) pairs

    greater : Outcome
    greater = search (pair.greater ++ edges) pairs

    go : Solved (pair.lesser ++ edges) pairs rank ⊎ Solved (pair.greater ++ edges) pairs rank →
        (Solved (pair.lesser ++ edges) pairs rank → lesser.found ≡ true) → (Solved (pair.greater ++ edges) pairs rank → greater.found ≡ true) →
        (at_pair (is_acyclic (pair.lesser ++ edges)) (is_acyclic (pair.greater ++ edges)) lesser greater).found ≡ true
    go (inl t) l g = rw (ranked-acyclic rank (pair.lesser ++ edges) t.base) (found_left (is_acyclic (pair.greater ++ edges)) lesser greater (l t))
    go (inr t) l g = rw (ranked-acyclic rank (pair.greater ++ edges) t.base) (found_right (is_acyclic (pair.lesser ++ edges)) lesser greater (g t))

-- a search that finds nothing meets a dead end
pub search-counts : (pairs : List Pair) (edges : List Edge) → Counts (search edges pairs)
unfolding search
search-counts [] edges = λ h. cc h
search-counts (pair ∷ pairs) edges = at_pair-counts (is_acyclic (pair.lesser ++ edges)) (is_acyclic (pair.greater ++ edges)) (search (pair.lesser ++ edges) pairs) (search (pair.greater ++ edges) pairs)
    (search-counts pairs (pair.lesser ++ edges)) (search-counts pairs (pair.greater ++ edges))

-- the search begins where the edges have no cycle, and nowhere else
pub outcome-begun : (problem : PairProblem) → is_acyclic problem.edges ≡ true → outcome problem ≡ search problem.edges problem.pairs
outcome-begun problem a = cond-true (is_acyclic problem.edges) (search problem.edges problem.pairs) nothing a

pub outcome-refused : (problem : PairProblem) → is_acyclic problem.edges ≡ false → outcome problem ≡ nothing
outcome-refused problem c = cond-false (is_acyclic problem.edges) (search problem.edges problem.pairs) nothing c

pub outcome-solved : (problem : PairProblem) → (outcome problem).found ≡ true → (rank : ℕ → ℕ) × Solves problem rank
outcome-solved problem h = go (cases_Bool (is_acyclic problem.edges))
  where
    go : (is_acyclic problem.edges ≡ true) ⊎ (is_acyclic problem.edges ≡ false) → (rank : ℕ → ℕ) × Solves problem rank
    go (inl a) = found-solved problem.pairs problem.edges a (sym (ap (λ (o : Outcome). o.found) (outcome-begun problem a)) ∙ h)
    go (inr c) = absurd (both_ways _ (ap (λ (o : Outcome). o.found) (outcome-refused problem c)) h)

pub solved-outcome : (problem : PairProblem) (rank : ℕ → ℕ) → Solves problem rank → (outcome problem).found ≡ true
solved-outcome problem rank s = rw (ranked-acyclic rank problem.edges s.base) (solved-found problem.pairs problem.edges rank s)

-- a solution holds one side of each pair, which may be chosen
pub solved-chosen : (pairs : List Pair) (rank : ℕ → ℕ) → All (HoldsOneSide rank) pairs → (sides : List Side) × (length sides ≡ length pairs) × Holds rank (chosen pairs sides)
solved-chosen [] rank s = ([], refl, All-nil (λ (e : Edge). rank e.from < rank e.to))
solved-chosen (pair ∷ pairs) rank s = go (All-head (HoldsOneSide rank) pair pairs s) (solved-chosen pairs rank (All-tail (HoldsOneSide rank) pair pairs s))
  where
    go : HoldsOneSide rank pair → (sides : List Side) × (length sides ≡ length pairs) × Holds rank (chosen pairs sides) →
        (sides : List Side) × (length sides ≡ length (pair ∷ pairs)) × Holds rank (chosen (pair ∷ pairs) sides)
    go (inl h) (sides, l, r) = (Lesser ∷ sides, ap suc l, Holds-join rank pair.lesser (chosen pairs sides) h r)
    go (inr h) (sides, l, r) = (Greater ∷ sides, ap suc l, Holds-join rank pair.greater (chosen pairs sides) h r)

-- a choice of one side of each pair that holds is a solution
pub chosen-solved : (pairs : List Pair) (sides : List Side) (rank : ℕ → ℕ) → length sides ≡ length pairs → Holds rank (chosen pairs sides) → All (HoldsOneSide rank) pairs
chosen-solved [] sides rank l h = All-nil (HoldsOneSide rank)
chosen-solved (pair ∷ pairs) [] rank l h = absurd (omega (arith, l))
chosen-solved (pair ∷ pairs) (Lesser ∷ sides) rank l h =
    let (p, q) = Holds-split rank pair.lesser (chosen pairs sides) h in
    All-cons (HoldsOneSide rank) pair pairs (inl p) (chosen-solved pairs sides rank (omega (arith, l)) q)
chosen-solved (pair ∷ pairs) (Greater ∷ sides) rank l h =
    let (p, q) = Holds-split rank pair.greater (chosen pairs sides) h in
    All-cons (HoldsOneSide rank) pair pairs (inr p) (chosen-solved pairs sides rank (omega (arith, l)) q)

pub solved-choice : (problem : PairProblem) (rank : ℕ → ℕ) → Solves problem rank → HasChoice problem
solved-choice problem rank s =
    let (sides, l, h) = solved-chosen problem.pairs rank s.sides in
    (sides, l, ranked-acyclic rank (chosen problem.pairs sides ++ problem.edges) (Holds-join rank (chosen problem.pairs sides) problem.edges h s.base))

pub choice-solved : (problem : PairProblem) → HasChoice problem → (rank : ℕ → ℕ) × Solves problem rank
choice-solved problem (sides, l, a) =
    let (rank, h) = acyclic-ranked (chosen problem.pairs sides ++ problem.edges) a in
    let (p, q) = Holds-split rank (chosen problem.pairs sides) problem.edges h in
    (rank, record { base = q; sides = chosen-solved problem.pairs sides rank l p })
