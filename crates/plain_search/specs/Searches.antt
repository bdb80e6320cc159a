-- Problems of edges and pairs, and the plain search for a choice of one side of each pair.
use Rattle.std.specs.Prelude.{◌≡◌, ℕ, ◌+◌, ◌≤◌, Bool, true, false, cond, ◌&&◌, List, [], ◌∷◌, ◌++◌, ◌⊎◌, length, All, count_by}
use Rattle.plain_search.specs.declared.Edge.{Edge}
use Rattle.plain_search.specs.Edges.{is_acyclic, Holds}

-- a pair has two sides: the edges that make its lesser member come first, and those that make the greater one
pub record Pair : Type 0 where
  pub lesser : List Edge
  pub greater : List Edge

-- edges that have to hold, and pairs, in the order of the search, of which one side each has to hold
pub record PairProblem : Type 0 where
  pub edges : List Edge
  pub pairs : List Pair

abbrev pub problem_of : List Edge → List Pair → PairProblem
problem_of edges pairs = record { edges = edges; pairs = pairs }

abbrev pub HoldsOneSide : (ℕ → ℕ) → Pair → Type 0
HoldsOneSide rank pair = Holds rank pair.lesser ⊎ Holds rank pair.greater

-- under this ranking the edges hold, and one side of each pair
pub record Solves (problem : PairProblem) (rank : ℕ → ℕ) : Type 0 where
  pub base : Holds rank problem.edges
  pub sides : All (HoldsOneSide rank) problem.pairs

-- which side of a pair is chosen
pub data Side : Type 0 where
  Lesser : Side
  Greater : Side

abbrev pub side_of : Pair → Side → List Edge
side_of pair Lesser = pair.lesser
side_of pair Greater = pair.greater

-- the edges of the sides chosen, one for each pair
abbrev pub chosen : List Pair → List Side → List Edge
chosen [] sides = []
chosen (pair ∷ pairs) [] = []
chosen (pair ∷ pairs) (side ∷ sides) = side_of pair side ++ chosen pairs sides

-- some choice of one side of each pair closes no cycle with the edges
abbrev pub HasChoice : PairProblem → Type 0
HasChoice problem = (sides : List Side) × (length sides ≡ length problem.pairs) × (is_acyclic (chosen problem.pairs sides ++ problem.edges) ≡ true)

-- whether a search comes to a full choice, and the dead ends that it meets up to it, or over all
pub record Outcome : Type 0 where
  pub found : Bool
  pub dead : ℕ

-- nothing is found, and no dead end is met
abbrev pub nothing : Outcome
nothing = record { found = false; dead = 0 }

-- the one, with all that follows, and where that finds nothing the other
abbrev pub or_else : Outcome → Outcome → Outcome
or_else one other = cond one.found one (record { found = other.found; dead = one.dead + other.dead })

-- at a pair: whether each side closes no cycle, and what each comes to. A side that closes one is not entered; where both
-- do, that is one dead end
abbrev pub at_pair : Bool → Bool → Outcome → Outcome → Outcome
at_pair true true lesser greater = or_else lesser greater
at_pair true false lesser greater = lesser
at_pair false true lesser greater = greater
at_pair false false lesser greater = record { found = false; dead = 1 }

-- the plain search from edges without a cycle: pair after pair, the lesser side first
unfoldable pub search : List Edge → List Pair → Outcome
search edges [] = record { found = true; dead = 0 }
search edges (pair ∷ pairs) = at_pair (is_acyclic (pair.lesser ++ edges)) (is_acyclic (pair.greater ++ edges))
    (search (pair.lesser ++ edges) pairs) (search (pair.greater ++ edges) pairs)

-- what the plain search comes to; it does not begin where the edges have a cycle
abbrev pub outcome : PairProblem → Outcome
outcome problem = cond (is_acyclic problem.edges) (search problem.edges problem.pairs) nothing

-- the one search finds as much as the other, and meets no more dead ends
abbrev pub IsNoWorse : Outcome → Outcome → Type 0
IsNoWorse one other = (one.found ≡ other.found) × (one.dead ≤ other.dead)

-- the dead ends of the plain search; none where the problem is impossible for a cause of its own, whatever its edges
abbrev pub dead_ends : Bool → PairProblem → ℕ
dead_ends impossible problem = cond impossible 0 (outcome problem).dead

-- neither side closes a cycle with these edges
abbrev pub is_open : List Edge → Pair → Bool
is_open edges pair = is_acyclic (pair.lesser ++ edges) && is_acyclic (pair.greater ++ edges)

-- the number of pairs that are open by the edges alone
abbrev pub open_pairs : PairProblem → ℕ
open_pairs problem = count_by (is_open problem.edges) problem.pairs
