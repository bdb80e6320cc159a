-- The worked examples.
use Rattle.std.proofs.Common.{◌≡◌, ℕ, false, List, [], ◌∷◌, refl, arith}
use Rattle.std.proofs.lemmas.Bool.{both_ways}
use Rattle.plain_search.specs.declared.Edge.{Edge}
use Rattle.plain_search.specs.Edges.{LeadsTo, is_acyclic, reaches}
use Rattle.plain_search.specs.Searches.{Pair, PairProblem, problem_of, search}
use Rattle.plain_search.specs.Examples
use Rattle.plain_search.proofs.Walks.{walk-reaches}
use Rattle.plain_search.proofs.Standing.{ends, turns}

pub two_dead_ends : Examples.TwoDeadEnds
unfolding search is_acyclic reaches
two_dead_ends = (refl, refl)

pub two_dead_ends_forced : Examples.TwoDeadEndsForced
unfolding search is_acyclic reaches
two_dead_ends_forced = (refl, refl)

pub settled_but_open : Examples.SettledButOpen
unfolding search is_acyclic reaches
settled_but_open = (refl, refl)

pub three_exchanges : Examples.ThreeExchanges
unfolding search is_acyclic reaches
three_exchanges = (refl, refl)

pub forced_between : Examples.ForcedBetween
unfolding search is_acyclic reaches
forced_between = (refl, refl)

pub many_edges : Examples.ManyEdges
unfolding search is_acyclic reaches
many_edges = (refl, refl)

pub not_begun : Examples.NotBegun
unfolding search is_acyclic reaches
not_begun = ((refl, refl), (refl, refl))

pub impossible : Examples.Impossible
unfolding search is_acyclic reaches
impossible = (refl, refl)

-- no walk leads where the test says so
pub unreached : (edges : List Edge) (u v : ℕ) → reaches edges u v ≡ false → LeadsTo edges u v → ⊥
unreached edges u v n (between, w) = both_ways _ n (walk-reaches edges u between v w)

pub nowhere : reaches (Examples.edge 0 1 ∷ Examples.edge 1 2 ∷ []) 0 0 ≡ false
unfolding reaches
nowhere = refl

pub short_walks : Examples.ShortWalks
short_walks = ((1 ∷ [], ((0, omega arith, refl), (1, omega arith, refl))), unreached (Examples.edge 0 1 ∷ Examples.edge 1 2 ∷ []) 0 0 nowhere)

-- the search goes by its rules to the second dead end
abbrev first : Pair
first = Examples.pair (Examples.edge 1 2 ∷ []) (Examples.edge 2 0 ∷ [])

abbrev second : Pair
second = Examples.pair (Examples.edge 3 4 ∷ []) (Examples.edge 4 3 ∷ [])

abbrev third : Pair
third = Examples.pair (Examples.edge 2 1 ∷ []) (Examples.edge 1 0 ∷ [])

abbrev base : List Edge
base = Examples.edge 0 1 ∷ []

abbrev later : List PairProblem
later = problem_of (Examples.edge 2 0 ∷ base) (second ∷ third ∷ []) ∷ []

abbrev one : List Edge
one = Examples.edge 1 2 ∷ base

abbrev two : List Edge
two = Examples.edge 3 4 ∷ one

abbrev other_two : List Edge
other_two = Examples.edge 4 3 ∷ one

pub two_dead_ends_stand : Examples.TwoDeadEndsStand
unfolding search is_acyclic reaches
two_dead_ends_stand =
    let problem : PairProblem = Examples.two_dead_ends in
    let start = ends.begin problem refl in
    let at_second = turns.lesser problem [] base first (second ∷ third ∷ []) 0 start refl in
    let at_third = turns.lesser problem later one second (third ∷ []) 0 at_second refl in
    let back = turns.dead_end problem (problem_of other_two (third ∷ []) ∷ later) two third [] 0 at_third refl refl in
    let again = turns.enter problem later (problem_of other_two (third ∷ [])) 1 back refl in
    turns.dead_end problem later other_two third [] 1 again refl refl
