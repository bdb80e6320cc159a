-- Small problems with what the plain search comes to, worked out by hand.
use Rattle.std.specs.Prelude.{◌≡◌, ℕ, Bool, true, false, None, List, [], ◌∷◌}
use Rattle.plain_search.specs.declared.Edge.{Edge}
use Rattle.plain_search.specs.Edges.{LeadsTo}
use Rattle.plain_search.specs.Searches.{Pair, PairProblem, outcome, dead_ends, open_pairs}
use Rattle.plain_search.specs.Standing.{Stands}

abbrev pub edge : ℕ → ℕ → Edge
edge u v = record { from = u; to = v }

abbrev pub pair : List Edge → List Edge → Pair
pair lesser greater = record { lesser = lesser; greater = greater }

-- what the plain search comes to, and how many of the pairs are open by the edges alone
abbrev pub ComesTo : PairProblem → Bool → ℕ → ℕ → Type 0
ComesTo problem found dead open_ones = (outcome problem ≡ record { found = found; dead = dead }) × (open_pairs problem ≡ open_ones)

-- Two dead ends. The lesser side of the first pair, 1 before 2, shuts both sides of the third, 2 before 1 and 1 before 0, of
-- which the edges alone shut the second. The pair between has nothing to do with it, so the search comes to the third pair
-- twice before it takes the greater side of the first
abbrev pub thrice : List Pair
thrice = pair (edge 1 2 ∷ []) (edge 2 0 ∷ []) ∷ pair (edge 3 4 ∷ []) (edge 4 3 ∷ []) ∷ pair (edge 2 1 ∷ []) (edge 1 0 ∷ []) ∷ []

abbrev pub two_dead_ends : PairProblem
two_dead_ends = record { edges = edge 0 1 ∷ []; pairs = thrice }

abbrev pub TwoDeadEnds : Type 0
TwoDeadEnds = ComesTo two_dead_ends true 2 2

-- after both, the greater side of the first pair waits alone
abbrev pub TwoDeadEndsStand : Type 0
TwoDeadEndsStand = Stands two_dead_ends (record { edges = edge 2 0 ∷ edge 0 1 ∷ []; pairs = pair (edge 3 4 ∷ []) (edge 4 3 ∷ []) ∷ pair (edge 2 1 ∷ []) (edge 1 0 ∷ []) ∷ [] } ∷ []) None 2

-- the third pair's lesser side is forced from the start, and with it the search meets no dead end
abbrev pub TwoDeadEndsForced : Type 0
TwoDeadEndsForced = ComesTo (record { edges = edge 2 1 ∷ edge 0 1 ∷ []; pairs = thrice }) true 0 1

-- before them a pair whose greater side has no edges, and so is settled. The plain search tries the lesser side first, 2
-- before 0, and meets no dead end: so the pair may not be passed
abbrev pub SettledButOpen : Type 0
SettledButOpen = ComesTo (record { edges = edge 0 1 ∷ []; pairs = pair (edge 2 0 ∷ []) [] ∷ thrice }) true 0 3

-- Three exchanges of one word, each of which sees the write of the one before: 0, 1, 2. That 0 comes before 1 adds nothing, and
-- 1 before 0 would have the third before the first
abbrev pub ThreeExchanges : Type 0
ThreeExchanges = ComesTo (record { edges = edge 0 1 ∷ edge 1 2 ∷ edge 0 1 ∷ edge 0 2 ∷ edge 1 2 ∷ []; pairs = pair [] (edge 2 0 ∷ []) ∷ [] }) true 0 0

-- No choice: a write, 1, that has to stand between another, 0, and the read of that, 2. The pair is shut on both sides
abbrev pub forced_between : PairProblem
forced_between = record { edges = edge 0 1 ∷ edge 1 2 ∷ []; pairs = pair (edge 2 1 ∷ []) (edge 1 0 ∷ []) ∷ [] }

abbrev pub ForcedBetween : Type 0
ForcedBetween = ComesTo forced_between false 1 0

-- both sides of a pair have more than one edge: the lesser one is shut by its second, the greater one is taken
abbrev pub ManyEdges : Type 0
ManyEdges = ComesTo (record { edges = edge 2 0 ∷ []; pairs = pair (edge 1 2 ∷ edge 0 2 ∷ []) (edge 2 3 ∷ edge 1 3 ∷ []) ∷ [] }) true 0 0

-- the search does not begin where the edges have a cycle, and an edge from a number to itself is one
abbrev pub NotBegun : Type 0
NotBegun = ComesTo (record { edges = edge 0 1 ∷ edge 1 0 ∷ []; pairs = forced_between.pairs }) false 0 0 × ComesTo (record { edges = edge 0 0 ∷ []; pairs = [] }) false 0 0

-- nor where the problem is impossible for another cause
abbrev pub Impossible : Type 0
Impossible = (dead_ends true two_dead_ends ≡ 0) × (dead_ends false two_dead_ends ≡ 2)

-- 0 leads to 2 over 1, and to itself nowhere
abbrev pub ShortWalks : Type 0
ShortWalks = LeadsTo (edge 0 1 ∷ edge 1 2 ∷ []) 0 2 × (LeadsTo (edge 0 1 ∷ edge 1 2 ∷ []) 0 0 → ⊥)
