-- Pairs that the edges of a problem decide.
use Rattle.std.proofs.Common.{◌≡◌, ℕ, ◌+◌, Bool, true, false, cond, List, [], ◌∷◌, ◌++◌, length, refl, arith, inl, inr, ◌⊎◌}
use Rattle.std.specs.Prelude.{◌&&◌, not, count_by}
use Rattle.std.proofs.lemmas.Bool.{cases_Bool, both_ways, false_from_ne_true}
use Rattle.std.proofs.lemmas.List.Sums.{sum_by-cons}
use Rattle.plain_search.specs.declared.Edge.{Edge}
use Rattle.plain_search.specs.Edges.{is_acyclic, Holds}
use Rattle.plain_search.specs.Searches.{Pair, PairProblem, Solves, Side, Lesser, Greater, is_open}
use Rattle.plain_search.specs.Openness.{is_forced, is_stuck, HoldsOnly, NotOpenIsDecided, CyclicIsStuck, SolvedIsNotStuck}
use Rattle.plain_search.proofs.Rankings.{acyclic-implied, cyclic-unranked, Holds-split, Holds-join}
use Rattle.plain_search.proofs.Forcing.{other-greater, other-lesser}

-- a shut side holds in no solution
pub shut-unsolved : (problem : PairProblem) (side : List Edge) (rank : ℕ → ℕ) → Solves problem rank → is_acyclic (side ++ problem.edges) ≡ false → Holds rank side → ⊥
shut-unsolved problem side rank s c h = cyclic-unranked (side ++ problem.edges) c rank (Holds-join rank side problem.edges h s.base)

pub not_open_is_decided : NotOpenIsDecided
not_open_is_decided problem pair some within s shut = go (cases_Bool (is_acyclic (pair.lesser ++ problem.edges))) (cases_Bool (is_acyclic (pair.greater ++ problem.edges)))
  where
    go : (is_acyclic (pair.lesser ++ problem.edges) ≡ true) ⊎ (is_acyclic (pair.lesser ++ problem.edges) ≡ false) →
        (is_acyclic (pair.greater ++ problem.edges) ≡ true) ⊎ (is_acyclic (pair.greater ++ problem.edges) ≡ false) →
        (side : Side) × ((rank : ℕ → ℕ) → Solves problem rank → HoldsOnly rank pair side)
    go (inr c) g = (Greater, λ rank t. (other-greater problem problem.edges pair rank within t.sides t.base c, shut-unsolved problem pair.lesser rank t c))
    go (inl a) (inr c) = (Lesser, λ rank t. (other-lesser problem problem.edges pair rank within t.sides t.base c, shut-unsolved problem pair.greater rank t c))
    go (inl a) (inl b) = absurd (both_ways _ shut (rw a (rw b refl)))

-- one more pair is one more of one kind
abbrev pub one_of_three : (lesser greater : Bool) → cond (lesser && greater) 1 0 + cond (cond (not lesser) (not (not greater)) (not greater)) 1 0 + cond (not lesser && not greater) 1 0 ≡ 1
one_of_three true true = refl
one_of_three true false = refl
one_of_three false true = refl
one_of_three false false = refl

more : (test : Pair → Bool) (pair : Pair) (pairs : List Pair) → count_by test (pair ∷ pairs) ≡ cond (test pair) 1 0 + count_by test pairs
more test pair pairs = sum_by-cons (λ p. cond (test p) 1 0) pair pairs

pub counted : (edges : List Edge) (pairs : List Pair) → length pairs ≡ count_by (is_open edges) pairs + count_by (is_forced edges) pairs + count_by (is_stuck edges) pairs
counted edges [] = refl
counted edges (pair ∷ pairs) =
    let h = counted edges pairs in
    let k = one_of_three (is_acyclic (pair.lesser ++ edges)) (is_acyclic (pair.greater ++ edges)) in
    rw (more (is_open edges) pair pairs) (rw (more (is_forced edges) pair pairs) (rw (more (is_stuck edges) pair pairs) (omega (arith, h, k))))

pub cyclic-shut : (edges side : List Edge) → is_acyclic edges ≡ false → is_acyclic (side ++ edges) ≡ false
cyclic-shut edges side c = false_from_ne_true _ (λ a. both_ways _ c (acyclic-implied (side ++ edges) edges (λ rank h. (Holds-split rank side edges h).1) a))

pub cyclic_is_stuck : CyclicIsStuck
cyclic_is_stuck edges pair c = rw (cyclic-shut edges pair.lesser c) (rw (cyclic-shut edges pair.greater c) refl)

pub solved_is_not_stuck : SolvedIsNotStuck
solved_is_not_stuck problem pair rank within s = go (cases_Bool (is_acyclic (pair.lesser ++ problem.edges))) (cases_Bool (is_acyclic (pair.greater ++ problem.edges)))
  where
    go : (is_acyclic (pair.lesser ++ problem.edges) ≡ true) ⊎ (is_acyclic (pair.lesser ++ problem.edges) ≡ false) →
        (is_acyclic (pair.greater ++ problem.edges) ≡ true) ⊎ (is_acyclic (pair.greater ++ problem.edges) ≡ false) → is_stuck problem.edges pair ≡ false
    go (inl a) g = rw a refl
    go (inr c) (inl a) = rw c (rw a refl)
    go (inr c) (inr d) = absurd (shut-unsolved problem pair.lesser rank s c (other-lesser problem problem.edges pair rank within s.sides s.base d))
