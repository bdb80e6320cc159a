-- Pairs that ask for nothing: the lesser side has no edges, and the greater one closes a cycle by itself.
use Rattle.std.specs.Prelude.{◌≡◌, ℕ, List, [], ◌∷◌, ◌⊎◌}
use Rattle.plain_search.specs.Chains.{arrow}
use Rattle.plain_search.specs.Searches.{Pair, PairProblem, problem_of, outcome}

-- the pair with no edges on its lesser side, and on its greater side one from a number to itself
abbrev pub idle : ℕ → Pair
idle v = record { lesser = []; greater = arrow v v ∷ [] }

-- the other list is the one without some of its idle pairs
abbrev pub IsThinned : List Pair → List Pair → Type 0
IsThinned [] others = others ≡ []
IsThinned (pair ∷ pairs) others = ((v : ℕ) × (pair ≡ idle v) × IsThinned pairs others) ⊎
    ((rest : List Pair) × (others ≡ pair ∷ rest) × IsThinned pairs rest)

-- without them the plain search finds the same, and meets as many dead ends
abbrev pub IdlePairsChangeNothing : Type 0
IdlePairsChangeNothing = (problem : PairProblem) (others : List Pair) → IsThinned problem.pairs others →
    outcome problem ≡ outcome (problem_of problem.edges others)
