-- The pairs at which a search may go back.
use Rattle.std.specs.Prelude.{◌≡◌, ℕ, ◌+◌, ◌<◌, ◌≤◌, Bool, true, false, Option, Some, None, Result, Ok, Err, List, [], ◌∷◌, ◌++◌, length, take}
use Rattle.light_base.specs.declared.memory.Memory.{Memory}
use Rattle.plain_search.specs.declared.Edge.{Edge}
use Rattle.plain_search.specs.Chains.{chains_from}
use Rattle.plain_search.specs.Edges.{Holds}
use Rattle.plain_search.specs.Searches.{Pair, PairProblem, problem_of, Solves, outcome}
use Rattle.plain_search.specs.Standing.{Stands}
use Rattle.order_graph.specs.Graphs.{GraphState, edges_of}
use Rattle.order_solver.specs.declared.cursor.Cursor.{Cursor}
use Rattle.order_solver.specs.declared.search.Frame.{Frame}
use Rattle.order_solver.specs.declared.search.Ending.{Ending}
use Rattle.order_solver.specs.declared.search.Ending.TheVariants.{Found, Spent}
use Rattle.order_solver.specs.declared.search.Ending.TheVariants as ending
use Rattle.order_solver.specs.Rivals.{Rivalry, source_at, pair_in, problem_in}
use Rattle.order_solver.specs.Cursors.{pairs_at, next_of, IsAt, IsPlace, IsRooted}

abbrev pub pair_at : Rivalry → Cursor → Pair
pair_at r c = pair_in r c.word (source_at r c.word c.lesser) (source_at r c.word c.greater)

-- the chains with edges that were added
abbrev pub edges_with : Rivalry → List Edge → List Edge
edges_with r added = chains_from 0 r.counts ++ added

-- the rests that wait, the nearest frame first: the greater side of its pair, with the edges that stood there
abbrev pub rests_of : Rivalry → List Edge → List Frame → List PairProblem
rests_of r added [] = []
rests_of r added (frame ∷ frames) =
    problem_of ((pair_at r frame.at).greater ++ edges_with r (take frame.mark added)) (pairs_at r (next_of frame.at)) ∷
    rests_of r (take frame.mark added) frames

-- each frame is of a pair, and no deeper than what lies above it; at the bottom are the edges with which the search began
abbrev pub Stacked : Rivalry → List Edge → List Frame → Type 0
Stacked r added [] = IsRooted r (edges_with r added)
Stacked r added (frame ∷ frames) = (frame.mark ≤ length added) × IsAt r frame.at × Stacked r (take frame.mark added) frames

-- the search stands at a place
abbrev pub StandsAt : Rivalry → PairProblem → List Edge → List Frame → Cursor → ℕ → Type 0
StandsAt r problem added frames at dead = Stands problem (rests_of r added frames) (Some (problem_of (edges_with r added) (pairs_at r at))) dead

-- the search goes on after the pair, or has met a dead end there
abbrev pub TookPair : Rivalry → Cursor → GraphState → List Frame → GraphState → List Frame → Result Bool Memory → Type 0
TookPair r at old frames new frames' (Ok true) = (new.counts ≡ old.counts) × Stacked r new.added frames' ×
    ((problem : PairProblem) (dead : ℕ) → StandsAt r problem old.added frames at dead → StandsAt r problem new.added frames' (next_of at) dead)
TookPair r at old frames new frames' (Ok false) = (new ≡ old) × (frames' ≡ frames) ×
    ((problem : PairProblem) (dead : ℕ) → StandsAt r problem old.added frames at dead → Stands problem (rests_of r old.added frames) None (dead + 1))
TookPair r at old frames new frames' (Err _) = Unit {0}

-- the search stands at a place, or is stuck there and has met one more dead end
abbrev pub StandsOrStuck : Rivalry → List Edge → List Frame → Cursor → ℕ → Bool → Type 0
StandsOrStuck r added frames at dead true = StandsAt r (problem_in r) added frames at dead
StandsOrStuck r added frames at dead false = Stands (problem_in r) (rests_of r added frames) None (dead + 1)

-- the search goes on after the pair with all that is forced, or is stuck
abbrev pub Chose : Rivalry → Cursor → GraphState → List Frame → GraphState → List Frame → Result Bool Memory → Type 0
Chose r at old frames new frames' (Ok stands) = (new.counts ≡ old.counts) × Stacked r new.added frames' ×
    ((dead : ℕ) → StandsAt r (problem_in r) old.added frames at dead → StandsOrStuck r new.added frames' (next_of at) dead stands)
Chose r at old frames new frames' (Err _) = Unit {0}

-- the search goes on at the next pair, or has nothing left
abbrev pub WentBack : Rivalry → GraphState → List Frame → GraphState → List Frame → Result (Option Cursor) Memory → Type 0
WentBack r old frames new frames' (Ok (Some next)) = (new.counts ≡ old.counts) × IsPlace r next × Stacked r new.added frames' ×
    ((problem : PairProblem) (dead : ℕ) → Stands problem (rests_of r old.added frames) None dead →
    Stands problem (rests_of r new.added frames') (Some (problem_of (edges_with r new.added) (pairs_at r next))) dead)
WentBack r old frames new frames' (Ok None) =
    (problem : PairProblem) (dead : ℕ) → Stands problem (rests_of r old.added frames) None dead → Stands problem [] None dead
WentBack r old frames new frames' (Err _) = Unit {0}

-- what an ending says: each ranking of the edges solves the problem, none solves it, or the plain search meets more dead ends
abbrev pub Explored : Rivalry → ℕ → Result Ending Memory → GraphState → Type 0
Explored r budget (Ok Found) new = (new.counts ≡ r.counts) × ((rank : ℕ → ℕ) → Holds rank (edges_of new) → Solves (problem_in r) rank)
Explored r budget (Ok ending.None) new = (rank : ℕ → ℕ) → Solves (problem_in r) rank → ⊥
Explored r budget (Ok Spent) new = budget < (outcome (problem_in r)).dead
Explored r budget (Err _) new = Unit {0}

-- where the budget is spent, there is a pair to go back to
abbrev pub LeavesOne : Result Ending Memory → List Frame → Type 0
LeavesOne (Ok Found) frames = Unit {0}
LeavesOne (Ok ending.None) frames = Unit {0}
LeavesOne (Ok Spent) frames = 0 < length frames
LeavesOne (Err _) frames = Unit {0}
