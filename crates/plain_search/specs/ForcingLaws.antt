-- Edges that may be added before their turn, and pairs that may be passed.
use Rattle.std.specs.Prelude.{◌≡◌, ℕ, false, List, ◌∷◌, ◌++◌, ◌⊎◌, Contains}
use Rattle.plain_search.specs.declared.Edge.{Edge}
use Rattle.plain_search.specs.Edges.{is_acyclic, Holds, Implies}
use Rattle.plain_search.specs.Searches.{Pair, PairProblem, problem_of, Solves, outcome, IsNoWorse}

-- edges that hold in each solution may be added before the search
abbrev pub ForcingLosesNothing : Type 0
ForcingLosesNothing = (edges more : List Edge) (pairs : List Pair) → Implies more edges →
    ((rank : ℕ → ℕ) → Solves (problem_of edges pairs) rank → Holds rank more) →
    IsNoWorse (outcome (problem_of more pairs)) (outcome (problem_of edges pairs))

-- edges that hold under the same rankings give the same search: order and repetition do not matter, nor edges that others imply
abbrev pub AlikeSearchesAlike : Type 0
AlikeSearchesAlike = (one two : List Edge) (pairs : List Pair) → Implies one two → Implies two one →
    outcome (problem_of one pairs) ≡ outcome (problem_of two pairs)

-- where one side of a pair closes a cycle, each solution holds the other
abbrev pub ShutForcesTheOther : Type 0
ShutForcesTheOther = (problem : PairProblem) (pair : Pair) (rank : ℕ → ℕ) → Contains problem.pairs pair → Solves problem rank →
    (is_acyclic (pair.lesser ++ problem.edges) ≡ false → Holds rank pair.greater) ×
    (is_acyclic (pair.greater ++ problem.edges) ≡ false → Holds rank pair.lesser)

-- the next pair may be passed where the edges imply its lesser side. Where they imply the greater one, the lesser one has to
-- be shut too: else the plain search tries that first, and may find a full choice after fewer dead ends
abbrev pub SettledIsPassed : Type 0
SettledIsPassed = (edges : List Edge) (pair : Pair) (pairs : List Pair) →
    Implies edges pair.lesser ⊎ (Implies edges pair.greater × (is_acyclic (pair.lesser ++ edges) ≡ false)) →
    IsNoWorse (outcome (problem_of edges pairs)) (outcome (problem_of edges (pair ∷ pairs)))
