-- Which pairs are decided by the edges of a problem alone, and which are left open.
use Rattle.std.specs.Prelude.{◌≡◌, ℕ, ◌+◌, Bool, true, false, not, cond, ◌&&◌, List, ◌++◌, length, count_by, Contains}
use Rattle.plain_search.specs.declared.Edge.{Edge}
use Rattle.plain_search.specs.Edges.{is_acyclic, Holds}
use Rattle.plain_search.specs.Searches.{Pair, PairProblem, Solves, Side, Lesser, Greater, side_of, is_open, open_pairs}

-- a side is shut where it closes a cycle with these edges. A pair is open where neither side is
abbrev pub is_shut : List Edge → List Edge → Bool
is_shut edges side = not (is_acyclic (side ++ edges))

-- exactly one side is shut
abbrev pub is_forced : List Edge → Pair → Bool
is_forced edges pair = cond (is_shut edges pair.lesser) (not (is_shut edges pair.greater)) (is_shut edges pair.greater)

-- both sides are
abbrev pub is_stuck : List Edge → Pair → Bool
is_stuck edges pair = is_shut edges pair.lesser && is_shut edges pair.greater

-- the numbers of pairs that are forced, and stuck, by the edges alone
abbrev pub forced_pairs : PairProblem → ℕ
forced_pairs problem = count_by (is_forced problem.edges) problem.pairs

abbrev pub stuck_pairs : PairProblem → ℕ
stuck_pairs problem = count_by (is_stuck problem.edges) problem.pairs

abbrev pub other_side : Side → Side
other_side Lesser = Greater
other_side Greater = Lesser

-- under this ranking all edges of the one side hold, and not all of the other
abbrev pub HoldsOnly : (ℕ → ℕ) → Pair → Side → Type 0
HoldsOnly rank pair side = Holds rank (side_of pair side) × (Holds rank (side_of pair (other_side side)) → ⊥)

-- where a problem has a solution and a pair isn't open, all solutions hold the same one side of that pair
abbrev pub NotOpenIsDecided : Type 0
NotOpenIsDecided = (problem : PairProblem) (pair : Pair) (some : ℕ → ℕ) → Contains problem.pairs pair → Solves problem some → is_open problem.edges pair ≡ false →
    (side : Side) × ((rank : ℕ → ℕ) → Solves problem rank → HoldsOnly rank pair side)

-- each pair is open, forced or stuck, and only one of these
abbrev pub OneOfThree : Type 0
OneOfThree = (problem : PairProblem) → length problem.pairs ≡ open_pairs problem + forced_pairs problem + stuck_pairs problem

-- where the edges have a cycle, every pair is stuck
abbrev pub CyclicIsStuck : Type 0
CyclicIsStuck = (edges : List Edge) (pair : Pair) → is_acyclic edges ≡ false → is_stuck edges pair ≡ true

-- a problem with a solution has no pair that is stuck
abbrev pub SolvedIsNotStuck : Type 0
SolvedIsNotStuck = (problem : PairProblem) (pair : Pair) (rank : ℕ → ℕ) → Contains problem.pairs pair → Solves problem rank → is_stuck problem.edges pair ≡ false
