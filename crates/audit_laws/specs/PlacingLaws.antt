-- Which logs that runs fit are those of whole histories.
use Rattle.std.specs.Prelude.{◌≡◌, ℕ, ◌↔◌, List, length}
use Rattle.replay_model.specs.Steps.{Event, Step}
use Rattle.replay_model.specs.Threads.{Threads, StaysWithin, HasOnly, EndsWithin}
use Rattle.replay_model.specs.Logs.{Log}
use Rattle.replay_model.specs.RunLogs.{Tallies}
use Rattle.replay_model.specs.Fitting.{Fits}
use Rattle.replay_model.specs.WholeHistories.{IsWholeHistory, played, history_log}
use Rattle.audit_laws.specs.Placings.{Places, history_placing, placing_turns}
use Rattle.audit_laws.specs.Pairs.{PlacesByPairs}

-- a whole history of as many threads as the log has, whose log, with the digest and the limits of this one, is this one
pub record IsHistoryOf (threads : Threads) (tallies : Tallies) (initial : List ℕ) (log : Log) (history : List ℕ) : Type 0 where
  pub whole : IsWholeHistory threads initial (length log.threads) history
  pub logged : history_log threads tallies log.digest log.limits initial (length log.threads) history ≡ log

-- some whole history has the log
abbrev pub IsLegalLog : Threads → Tallies → List ℕ → Log → Type 0
IsLegalLog threads tallies initial log = (history : List ℕ) × IsHistoryOf threads tallies initial log history

-- the events of its log and the writes, in the history's order, are a placing
abbrev pub HistoriesPlaceTheirWrites : Type 0
HistoriesPlaceTheirWrites = (threads : Threads) (tallies : Tallies) (initial : List ℕ) (log : Log) (history : List ℕ) →
    StaysWithin threads (length initial) → HasOnly threads (length log.threads) → IsHistoryOf threads tallies initial log history →
    Places log (played threads initial (length log.threads) history).threads (history_placing threads initial log history)

-- where runs fit a log, the turns of a placing are a whole history that has the log, in which each thread takes the steps of its run
abbrev pub PlacingsAreHistories : Type 0
PlacingsAreHistories = (threads : Threads) (tallies : Tallies) (initial : List ℕ) (log : Log) (runs : List (List Step)) (order : List Event) →
    StaysWithin threads (length initial) → Fits threads tallies initial log runs → Places log runs order →
    IsHistoryOf threads tallies initial log (placing_turns (length log.threads) order) ×
    ((played threads initial (length log.threads) (placing_turns (length log.threads) order)).threads ≡ runs)

-- so where runs fit a log, some whole history has the log exactly where there is a placing
abbrev pub LegalLogsHavePlacings : Type 0
LegalLogsHavePlacings = (threads : Threads) (tallies : Tallies) (initial : List ℕ) (log : Log) (runs : List (List Step)) →
    StaysWithin threads (length initial) → HasOnly threads (length log.threads) → EndsWithin threads log.limits.steps →
    Fits threads tallies initial log runs → IsLegalLog threads tallies initial log ↔ ((order : List Event) × Places log runs order)

-- where runs fit a log, placings are the orders that owe what they owe two by two
abbrev pub PlacingsAreByPairs : Type 0
PlacingsAreByPairs = (threads : Threads) (tallies : Tallies) (initial : List ℕ) (log : Log) (runs : List (List Step)) (order : List Event) →
    Fits threads tallies initial log runs → Places log runs order ↔ PlacesByPairs log runs order
