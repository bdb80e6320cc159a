-- What the constraints of a placing have to do with placings.
use Rattle.std.specs.Prelude.{◌≡◌, ◌≢◌, ℕ, ◌<◌, ◌↔◌, false, List, length, map, slice_index_or, Contains, ◌⊎◌}
use Rattle.plain_search.specs.declared.Edge.{Edge}
use Rattle.plain_search.specs.Edges.{Holds}
use Rattle.plain_search.specs.Searches.{Solves, problem_of, outcome}
use Rattle.light_base.specs.declared.tag.Event.{Event}
use Rattle.replay_model.specs.Steps.{Step}
use Rattle.replay_model.specs.Threads.{Threads, StaysWithin}
use Rattle.replay_model.specs.Logs.{Log}
use Rattle.replay_model.specs.RunLogs.{Tallies}
use Rattle.replay_model.specs.Orders.{place}
use Rattle.replay_model.specs.Fitting.{Fits}
use Rattle.audit_laws.specs.Placings.{IsPlaced, Places}
use Rattle.constraints.specs.Laws.{IsLine}
use Rattle.audit.specs.Positions.{placed_list, placed_at}
use Rattle.audit.specs.Constraints.{writes_to, last_reads_of, pair_of, placing_problem, pairs_with_idle, impossible}

-- the order has each step that has a place once, and nothing else
pub record HasEachOnce (log : Log) (runs : List (List Step)) (order : List Event) : Type 0 where
  pub all : (e : Event) → IsPlaced log runs e → Contains order e
  pub only : (e : Event) → Contains order e → IsPlaced log runs e
  pub once : (i j : ℕ) (d : Event) → i < j → j < length order → slice_index_or order i d ≢ slice_index_or order j d

-- where the step at each position stands in the order
abbrev pub places_in : Log → List (List Step) → List Event → ℕ → ℕ
places_in log runs order p = place order (placed_at log runs p)

-- where runs fit a log, an order is a placing exactly where it has each step that has a place once and nothing else, no step wrote a word whose last
-- tag is initial, the base edges hold in it, and one side of each pair
abbrev pub PlacesIsSolving : Type 0
PlacesIsSolving = (threads : Threads) (tallies : Tallies) (initial : List ℕ) (log : Log) (runs : List (List Step)) (order : List Event) →
    StaysWithin threads (length initial) → Fits threads tallies initial log runs →
    Places log runs order ↔
    (HasEachOnce log runs order × (impossible log runs ≡ false) × Solves (placing_problem log runs) (places_in log runs order))

-- so positions in a row, in which edges hold that ask for all that the problem asks for, give a placing
abbrev pub LinesArePlacings : Type 0
LinesArePlacings =
    (threads : Threads) (tallies : Tallies) (initial : List ℕ) (log : Log) (runs : List (List Step)) (edges : List Edge) (line : List ℕ) →
    StaysWithin threads (length initial) → Fits threads tallies initial log runs → impossible log runs ≡ false →
    IsLine edges (length (placed_list log runs)) line → ((rank : ℕ → ℕ) → Holds rank edges → Solves (placing_problem log runs) rank) →
    Places log runs (map (placed_at log runs) line)

-- with a pair that asks for nothing for each two writes that nobody read the plain search finds the same, and meets as many dead ends
abbrev pub IdlePairsMayStay : Type 0
IdlePairsMayStay = (log : Log) (runs : List (List Step)) →
    outcome (problem_of (placing_problem log runs).edges (pairs_with_idle log runs)) ≡ outcome (placing_problem log runs)

-- where the base edges hold, a write ranks below each of its last reads, or is it itself
abbrev pub WritesAreRead : Type 0
WritesAreRead =
    (threads : Threads) (tallies : Tallies) (initial : List ℕ) (log : Log) (runs : List (List Step)) (word s last : ℕ) (rank : ℕ → ℕ) →
    StaysWithin threads (length initial) → Fits threads tallies initial log runs → Holds rank (placing_problem log runs).edges →
    Contains (writes_to log runs word) s → Contains (last_reads_of log runs s) last → (last ≡ s) ⊎ (rank s < rank last)

-- so of two writes to a word both sides never hold: where the one does, its write ranks below the other one
abbrev pub SidesExclude : Type 0
SidesExclude =
    (threads : Threads) (tallies : Tallies) (initial : List ℕ) (log : Log) (runs : List (List Step)) (word s t : ℕ) (rank : ℕ → ℕ) →
    StaysWithin threads (length initial) → Fits threads tallies initial log runs → Holds rank (placing_problem log runs).edges →
    Contains (writes_to log runs word) s → Contains (writes_to log runs word) t → s ≢ t →
    (Holds rank (pair_of log runs s t).lesser → rank s < rank t) × (Holds rank (pair_of log runs s t).greater → rank t < rank s)
