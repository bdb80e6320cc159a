-- Edges added before their turn, and pairs that are passed.
use Rattle.std.proofs.Common.{◌≡◌, ℕ, true, false, List, [], ◌∷◌, ◌++◌, refl, sym, ◌∙◌, arith, inl, inr, ◌⊎◌}
use Rattle.std.specs.Prelude.{All, Contains}
use Rattle.std.proofs.lemmas.Bool.{cases_Bool, both_ways, false_from_ne_true}
use Rattle.std.proofs.lemmas.List.Elements.{All-contains}
use Rattle.plain_search.specs.declared.Edge.{Edge}
use Rattle.plain_search.specs.Edges.{is_acyclic, Holds, Implies}
use Rattle.plain_search.specs.Searches.{Pair, PairProblem, problem_of, HoldsOneSide, Outcome, at_pair, search, outcome, IsNoWorse}
use Rattle.plain_search.proofs.Rankings.{acyclic-implied, cyclic-unranked, Holds-split, Holds-join}
use Rattle.plain_search.proofs.Outcomes.{or_else-found, or_else-failed, at_pair-no_worse}
use Rattle.plain_search.proofs.Choosing.{Solved, solves-lesser, solves-greater, found-solved, solved-found, search-counts}

-- edges that hold in every solution may be added before the search
pub forced : (pairs : List Pair) (edges more : List Edge) → Implies more edges → ((rank : ℕ → ℕ) → Solved edges pairs rank → Holds rank more) →
    IsNoWorse (search more pairs) (search edges pairs)
unfolding search
forced [] edges more wider kept = (refl, omega arith)
forced (pair ∷ pairs) edges more wider kept =
    at_pair-no_worse (is_acyclic (pair.lesser ++ more)) (is_acyclic (pair.greater ++ more)) (is_acyclic (pair.lesser ++ edges)) (is_acyclic (pair.greater ++ edges))
    (search (pair.lesser ++ more) pairs) (search (pair.greater ++ more) pairs) (search (pair.lesser ++ edges) pairs) (search (pair.greater ++ edges) pairs)
    (acyclic-implied (pair.lesser ++ more) (pair.lesser ++ edges) (beside pair.lesser))
    (acyclic-implied (pair.greater ++ more) (pair.greater ++ edges) (beside pair.greater))
    (λ _. forced pairs (pair.lesser ++ edges) (pair.lesser ++ more) (beside pair.lesser) by_lesser)
    (λ _. forced pairs (pair.greater ++ edges) (pair.greater ++ more) (beside pair.greater) by_greater)
    (shut pair.lesser by_lesser) (shut pair.greater by_greater)
    (search-counts pairs (pair.lesser ++ edges)) (search-counts pairs (pair.greater ++ edges))
  where
    beside : (side : List Edge) → Implies (side ++ more) (side ++ edges)
    beside side rank h = let (p, q) = Holds-split rank side more h in Holds-join rank side edges p (wider rank q)

    with_more : (side : List Edge) (rank : ℕ → ℕ) → Solved (side ++ edges) pairs rank → Holds rank more → Holds rank (side ++ more)
    with_more side rank s h = Holds-join rank side more (Holds-split rank side edges s.base).0 h

    by_lesser : (rank : ℕ → ℕ) → Solved (pair.lesser ++ edges) pairs rank → Holds rank (pair.lesser ++ more)
    by_lesser rank s = with_more pair.lesser rank s (kept rank (solves-lesser edges pair pairs rank s))

    by_greater : (rank : ℕ → ℕ) → Solved (pair.greater ++ edges) pairs rank → Holds rank (pair.greater ++ more)
    by_greater rank s = with_more pair.greater rank s (kept rank (solves-greater edges pair pairs rank s))

    shut : (side : List Edge) → ((rank : ℕ → ℕ) → Solved (side ++ edges) pairs rank → Holds rank (side ++ more)) →
        is_acyclic (side ++ more) ≡ false → is_acyclic (side ++ edges) ≡ true → (search (side ++ edges) pairs).found ≡ false
    shut side to cyclic a = false_from_ne_true _ (λ f. let (rank, s) = found-solved pairs (side ++ edges) a f in cyclic-unranked (side ++ more) cyclic rank (to rank s))

-- the same of the whole outcomes: of edges that have a cycle nothing comes
pub forced-outcome : (edges more : List Edge) (pairs : List Pair) → Implies more edges → ((rank : ℕ → ℕ) → Solved edges pairs rank → Holds rank more) →
    IsNoWorse (outcome (problem_of more pairs)) (outcome (problem_of edges pairs))
forced-outcome edges more pairs wider kept = go (cases_Bool (is_acyclic more)) (cases_Bool (is_acyclic edges))
  where
    none : is_acyclic more ≡ false → is_acyclic edges ≡ true → (search edges pairs).found ≡ false
    none c a = false_from_ne_true _ (λ t. let (rank, s) = found-solved pairs edges a t in cyclic-unranked more c rank (kept rank s))

    go : (is_acyclic more ≡ true) ⊎ (is_acyclic more ≡ false) → (is_acyclic edges ≡ true) ⊎ (is_acyclic edges ≡ false) →
        IsNoWorse (outcome (problem_of more pairs)) (outcome (problem_of edges pairs))
    go (inl a) b = rw a (rw (acyclic-implied more edges wider a) (forced pairs edges more wider kept))
    go (inr c) (inl b) = rw c (rw b (sym (none c b), omega arith))
    go (inr c) (inr d) = rw c (rw d (refl, omega arith))

pub alike-outcome : (one two : List Edge) (pairs : List Pair) → Implies one two → Implies two one → outcome (problem_of one pairs) ≡ outcome (problem_of two pairs)
alike-outcome one two pairs there back =
    let (f, d) = forced-outcome two one pairs there (λ rank s. back rank s.base) in
    let (g, e) = forced-outcome one two pairs back (λ rank s. there rank s.base) in
    let n : (outcome (problem_of one pairs)).dead ≡ (outcome (problem_of two pairs)).dead = omega (arith, d, e) in
    λ i. record { found = f i; dead = n i }

-- one side of a pair that closes a cycle leaves the other
pub other-greater : (problem : PairProblem) (edges : List Edge) (pair : Pair) (rank : ℕ → ℕ) → Contains problem.pairs pair → All (HoldsOneSide rank) problem.pairs → Holds rank edges →
    is_acyclic (pair.lesser ++ edges) ≡ false → Holds rank pair.greater
other-greater problem edges pair rank c sides h shut = go (All-contains (HoldsOneSide rank) problem.pairs pair sides c)
  where
    go : HoldsOneSide rank pair → Holds rank pair.greater
    go (inl l) = absurd (cyclic-unranked (pair.lesser ++ edges) shut rank (Holds-join rank pair.lesser edges l h))
    go (inr g) = g

pub other-lesser : (problem : PairProblem) (edges : List Edge) (pair : Pair) (rank : ℕ → ℕ) → Contains problem.pairs pair → All (HoldsOneSide rank) problem.pairs → Holds rank edges →
    is_acyclic (pair.greater ++ edges) ≡ false → Holds rank pair.lesser
other-lesser problem edges pair rank c sides h shut = go (All-contains (HoldsOneSide rank) problem.pairs pair sides c)
  where
    go : HoldsOneSide rank pair → Holds rank pair.lesser
    go (inl l) = l
    go (inr g) = absurd (cyclic-unranked (pair.greater ++ edges) shut rank (Holds-join rank pair.greater edges g h))

pub search-pair : (edges : List Edge) (pair : Pair) (pairs : List Pair) → search edges (pair ∷ pairs) ≡
    at_pair (is_acyclic (pair.lesser ++ edges)) (is_acyclic (pair.greater ++ edges)) (search (pair.lesser ++ edges) pairs) (search (pair.greater ++ edges) pairs)
unfolding search
search-pair edges pair pairs = refl

-- a side that the edges imply closes no cycle with them, and adds nothing
pub implied-acyclic : (edges side : List Edge) → is_acyclic edges ≡ true → Implies edges side → is_acyclic (side ++ edges) ≡ true
implied-acyclic edges side a by = acyclic-implied edges (side ++ edges) (λ rank h. Holds-join rank side edges (by rank h) h) a

pub implied-no_worse : (edges side : List Edge) (pairs : List Pair) → Implies edges side → IsNoWorse (search edges pairs) (search (side ++ edges) pairs)
implied-no_worse edges side pairs by = forced pairs (side ++ edges) edges (λ rank h. Holds-join rank side edges (by rank h) h) (λ rank s. (Holds-split rank side edges s.base).1)

pub passed-greater : (edges : List Edge) (pair : Pair) (pairs : List Pair) → is_acyclic edges ≡ true → Implies edges pair.greater → is_acyclic (pair.lesser ++ edges) ≡ false →
    IsNoWorse (search edges pairs) (search edges (pair ∷ pairs))
passed-greater edges pair pairs a by shut =
    rw (search-pair edges pair pairs) (rw shut (rw (implied-acyclic edges pair.greater a by) (implied-no_worse edges pair.greater pairs by)))

pub passed-lesser : (edges : List Edge) (pair : Pair) (pairs : List Pair) → is_acyclic edges ≡ true → Implies edges pair.lesser →
    IsNoWorse (search edges pairs) (search edges (pair ∷ pairs))
passed-lesser edges pair pairs a by =
    rw (search-pair edges pair pairs) (rw (implied-acyclic edges pair.lesser a by) (go (cases_Bool (is_acyclic (pair.greater ++ edges))) (cases_Bool lesser.found)))
  where
    lesser : Outcome
    lesser = search (pair.lesser ++ edges) pairs

    greater : Outcome
    greater = search (pair.greater ++ edges) pairs

    same : IsNoWorse (search edges pairs) lesser
    same = implied-no_worse edges pair.lesser pairs by

    -- a solution of the greater half is one of the lesser half too
    none : is_acyclic (pair.greater ++ edges) ≡ true → lesser.found ≡ false → greater.found ≡ false
    none g n = false_from_ne_true _ (λ t.
        let (rank, s) = found-solved pairs (pair.greater ++ edges) g t in
        let e : Holds rank edges = (Holds-split rank pair.greater edges s.base).1 in
        both_ways _ n (solved-found pairs (pair.lesser ++ edges) rank (record { base = Holds-join rank pair.lesser edges (by rank e) e; sides = s.sides })))

    go : (is_acyclic (pair.greater ++ edges) ≡ true) ⊎ (is_acyclic (pair.greater ++ edges) ≡ false) → (lesser.found ≡ true) ⊎ (lesser.found ≡ false) →
        IsNoWorse (search edges pairs) (at_pair true (is_acyclic (pair.greater ++ edges)) lesser greater)
    go (inr c) f = rw c same
    go (inl c) (inl t) = rw c (rw (or_else-found lesser greater t) same)
    go (inl c) (inr n) = rw c (rw (or_else-failed lesser greater n) (let (f, d) = same in (f ∙ n ∙ sym (none c n), omega (arith, d))))

pub passed : (edges : List Edge) (pair : Pair) (pairs : List Pair) → is_acyclic edges ≡ true →
    Implies edges pair.lesser ⊎ (Implies edges pair.greater × (is_acyclic (pair.lesser ++ edges) ≡ false)) → IsNoWorse (search edges pairs) (search edges (pair ∷ pairs))
passed edges pair pairs a (inl by) = passed-lesser edges pair pairs a by
passed edges pair pairs a (inr (by, shut)) = passed-greater edges pair pairs a by shut

pub passed-outcome : (edges : List Edge) (pair : Pair) (pairs : List Pair) → Implies edges pair.lesser ⊎ (Implies edges pair.greater × (is_acyclic (pair.lesser ++ edges) ≡ false)) →
    IsNoWorse (outcome (problem_of edges pairs)) (outcome (problem_of edges (pair ∷ pairs)))
passed-outcome edges pair pairs by = go (cases_Bool (is_acyclic edges))
  where
    go : (is_acyclic edges ≡ true) ⊎ (is_acyclic edges ≡ false) → IsNoWorse (outcome (problem_of edges pairs)) (outcome (problem_of edges (pair ∷ pairs)))
    go (inl a) = rw a (passed edges pair pairs a by)
    go (inr c) = rw c (refl, omega arith)
