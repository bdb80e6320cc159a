-- What the constraints of a log have to do with the orders that respect it.
use Rattle.std.specs.Prelude.{◌≡◌, ◌≢◌, ℕ, ◌+◌, ◌^◌, ◌<◌, ◌≤◌, ◌↔◌, true, false, List, length, map, sum, slice_index, slice_index_or, Contains}
use Rattle.std.specs.List.{All, AllPairs}
use Rattle.plain_search.specs.declared.Edge.{Edge}
use Rattle.plain_search.specs.Edges.{Holds}
use Rattle.plain_search.specs.Searches.{Pair, Solves, outcome}
use Rattle.light_base.specs.declared.tag.Event.{Event}
use Rattle.replay_model.specs.Logs.{Log}
use Rattle.replay_model.specs.Events.{IsEvent}
use Rattle.replay_model.specs.WellFormed.{IsWellFormed}
use Rattle.replay_model.specs.Orders.{place, Respects}
use Rattle.constraints.specs.Positions.{event_list, counts_of, event_at, position_of, IsListed}
use Rattle.constraints.specs.Constraints.{sources_of, last_reads_from, pair_of, pairs_of, problem_of_log, impossible, group_of}

-- the order has each event of the log once, and nothing else
pub record IsOrdering (log : Log) (order : List Event) : Type 0 where
  pub all : (e : Event) → IsEvent log e → Contains order e
  pub only : (e : Event) → Contains order e → IsEvent log e
  pub once : (i j : ℕ) (d : Event) → i < j → j < length order → slice_index_or order i d ≢ slice_index_or order j d

-- where the event at each position stands in the order
abbrev pub places_in : Log → List Event → ℕ → ℕ
places_in log order p = place order (event_at log p)

-- an order respects the log exactly where it has each event once and nothing else, no entry is of a word whose last tag is
-- initial without being of the initial contents, the base edges hold in it, and one side of each rival pair
abbrev pub RespectsIsSolving : Type 0
RespectsIsSolving = (log : Log) (order : List Event) → IsWellFormed log →
    Respects log order ↔ (IsOrdering log order × (impossible log ≡ false) × Solves (problem_of_log log) (places_in log order))

-- some order respects the log exactly where some ranking of positions solves the problem
abbrev pub RankingsAreOrders : Type 0
RankingsAreOrders = (log : Log) → IsWellFormed log →
    ((order : List Event) × Respects log order) ↔ ((impossible log ≡ false) × ((rank : ℕ → ℕ) × Solves (problem_of_log log) rank))

-- that is, exactly where the plain search finds a choice
abbrev pub SearchFindsOrders : Type 0
SearchFindsOrders = (log : Log) → IsWellFormed log →
    ((order : List Event) × Respects log order) ↔ ((impossible log ≡ false) × ((outcome (problem_of_log log)).found ≡ true))

-- all numbers below a count in a row, each before those that the edges lead to
pub record IsLine (edges : List Edge) (count : ℕ) (line : List ℕ) : Type 0 where
  pub within : All (λ p. p < count) line
  pub all : (p : ℕ) → p < count → Contains line p
  pub once : AllPairs (λ p q. p ≢ q) line
  pub ends : All (λ (e : Edge). (e.from < count) × (e.to < count)) edges
  pub rising : (i j : ℕ) → i < length line → j < length line → Contains edges (record { from = slice_index line i; to = slice_index line j }) → i < j

-- where edges ask for all that the problem asks for, their positions in such a row give an order that respects the log
abbrev pub LinesAreOrders : Type 0
LinesAreOrders = (log : Log) (edges : List Edge) (line : List ℕ) → IsWellFormed log → impossible log ≡ false →
    IsLine edges (length (event_list log)) line → ((rank : ℕ → ℕ) → Holds rank edges → Solves (problem_of_log log) rank) →
    Respects log (map (event_at log) line)

-- the list of events holds those of the log, by thread and then by number, each at its position
pub record Lists (log : Log) : Type 0 where
  pub order : IsListed (event_list log)
  pub all : (e : Event) → IsEvent log e → Contains (event_list log) e
  pub only : (e : Event) → Contains (event_list log) e → IsEvent log e
  pub once : (i j : ℕ) (d : Event) → i < j → j < length (event_list log) → slice_index_or (event_list log) i d ≢ slice_index_or (event_list log) j d
  pub at : (e : Event) → IsEvent log e → event_at log (position_of log e) ≡ e
  pub position : (p : ℕ) → p < length (event_list log) → position_of log (event_at log p) ≡ p

abbrev pub EventsAreListed : Type 0
EventsAreListed = (log : Log) → IsWellFormed log → Lists log

-- sources of a word rise, and so do the last reads of each, of which there is one at least
pub record Rises (log : Log) (word : ℕ) : Type 0 where
  pub sources : AllPairs (λ p q. p < q) (sources_of log word)
  pub last_reads : (s : ℕ) → AllPairs (λ p q. p < q) (last_reads_from log word s)
  pub some : (s : ℕ) → Contains (sources_of log word) s → 0 < length (last_reads_from log word s)

abbrev pub SourcesRise : Type 0
SourcesRise = (log : Log) (word : ℕ) → IsWellFormed log → Rises log word

-- all edges are between positions
pub record IsWithin (log : Log) (edges : List Edge) : Type 0 where
  pub within : All (λ (e : Edge). (e.from < length (event_list log)) × (e.to < length (event_list log))) edges

pub record AreWithin (log : Log) : Type 0 where
  pub base : IsWithin log (problem_of_log log).edges
  pub lesser : All (λ (pair : Pair). IsWithin log pair.lesser) (pairs_of log)
  pub greater : All (λ (pair : Pair). IsWithin log pair.greater) (pairs_of log)

abbrev pub EdgesAreWithin : Type 0
EdgesAreWithin = (log : Log) → IsWellFormed log → AreWithin log

-- where the base edges hold and those of one side of a pair, its source ranks below the other. So both sides never hold
abbrev pub SidesExclude : Type 0
SidesExclude = (log : Log) (word s t : ℕ) (rank : ℕ → ℕ) → IsWellFormed log → Holds rank (problem_of_log log).edges →
    Contains (sources_of log word) s → Contains (sources_of log word) t → s ≢ t →
    (Holds rank (pair_of log word s t).lesser → rank s < rank t) × (Holds rank (pair_of log word s t).greater → rank t < rank s)

-- where the base edges hold, a source ranks below each of its last reads
abbrev pub SourcesAreRead : Type 0
SourcesAreRead = (log : Log) (word s last : ℕ) (rank : ℕ → ℕ) → IsWellFormed log → Holds rank (problem_of_log log).edges →
    Contains (sources_of log word) s → Contains (last_reads_from log word s) last → rank s < rank last

-- the numbers of a log's events, of all threads and of each, and of a word's sources
pub record IsSmall (log : Log) : Type 0 where
  pub few : length (event_list log) < 2 ^ 32
  pub counted : sum (counts_of log) ≡ length (event_list log)
  pub threads : length (counts_of log) ≡ length log.threads
  pub sources : (word : ℕ) → length (sources_of log word) ≤ length (event_list log)

abbrev pub LogsAreSmall : Type 0
LogsAreSmall = (log : Log) → IsWellFormed log → IsSmall log

-- the sources of a word by a thread are a group of neighbours, and the groups follow one another
pub record IsGrouped (log : Log) (word : ℕ) : Type 0 where
  pub first : (group_of log word 0).0 ≡ 0
  pub next : (t : ℕ) → (group_of log word t).1 ≡ (group_of log word (t + 1)).0
  pub rising : (t : ℕ) → (group_of log word t).0 ≤ (group_of log word t).1
  pub all : (t : ℕ) → length log.threads ≤ t + 1 → (group_of log word t).1 ≡ length (sources_of log word)
  pub thread : (t i : ℕ) → i < length (sources_of log word) →
      ((group_of log word t).0 ≤ i × i < (group_of log word t).1) ↔ ((event_at log (slice_index (sources_of log word) i)).thread ≡ t)

abbrev pub SourcesAreGrouped : Type 0
SourcesAreGrouped = (log : Log) (word : ℕ) → IsWellFormed log → IsGrouped log word
