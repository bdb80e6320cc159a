-- What holds of histories and their logs.
use Rattle.std.specs.Prelude.{◌≡◌, ℕ, List, length}
use Rattle.replay_model.specs.Steps.{Event}
use Rattle.replay_model.specs.Threads.{Threads, StaysWithin, HasOnly, EndsWithin}
use Rattle.replay_model.specs.Histories.{World, play, IsLegal, history_of, rounds, follow}
use Rattle.replay_model.specs.Logs.{Limits}
use Rattle.replay_model.specs.RunLogs.{Tallies}
use Rattle.replay_model.specs.WellFormed.{IsInRange, IsWellFormed}
use Rattle.replay_model.specs.Orders.{Respects}
use Rattle.replay_model.specs.Fitting.{Fits}
use Rattle.replay_model.specs.SkipPlay.{ShowsRuns, skip_play}
use Rattle.replay_model.specs.KeptLimits.{KeepsLimits}
use Rattle.replay_model.specs.WholeHistories.{IsWholeHistory, played, history_log, history_order}

-- the runs of a whole history fit its log
abbrev pub RunsFitTheirLog : Type 0
RunsFitTheirLog = (threads : Threads) (tallies : Tallies) (digest : List ℕ) (limits : Limits) (initial : List ℕ) (count : ℕ) (history : List ℕ) →
    StaysWithin threads (length initial) → HasOnly threads count → IsWholeHistory threads initial count history →
    Fits threads tallies initial (history_log threads tallies digest limits initial count history) (played threads initial count history).threads

-- at its end each word has the value that its last tag names
abbrev pub HistoryShowsItsRuns : Type 0
HistoryShowsItsRuns = (threads : Threads) (tallies : Tallies) (digest : List ℕ) (limits : Limits) (initial : List ℕ) (count : ℕ) (history : List ℕ) →
    StaysWithin threads (length initial) → HasOnly threads count → IsWholeHistory threads initial count history →
    ShowsRuns initial (history_log threads tallies digest limits initial count history) (played threads initial count history).threads
    (played threads initial count history)

-- the events of its log, in the order of the history, respect it
abbrev pub HistoryRespectsItsLog : Type 0
HistoryRespectsItsLog = (threads : Threads) (tallies : Tallies) (digest : List ℕ) (limits : Limits) (initial : List ℕ) (count : ℕ) (history : List ℕ) →
    StaysWithin threads (length initial) → HasOnly threads count → IsWholeHistory threads initial count history →
    Respects (history_log threads tallies digest limits initial count history)
    (history_order threads initial count history (history_log threads tallies digest limits initial count history))

-- its log is well formed, where the threads keep to the limits
abbrev pub HistoryLogIsWellFormed : Type 0
HistoryLogIsWellFormed = (threads : Threads) (tallies : Tallies) (digest : List ℕ) (limits : Limits) (initial : List ℕ) (count : ℕ) (history : List ℕ) →
    StaysWithin threads (length initial) → HasOnly threads count → EndsWithin threads limits.steps → KeepsLimits threads tallies (length initial) limits →
    IsInRange count (length initial) limits → IsWholeHistory threads initial count history →
    IsWellFormed (history_log threads tallies digest limits initial count history)

-- the skip play of a history's log, by any order that respects it, ends in the very state in which the history ended
abbrev pub ReplayEndsAsTheHistory : Type 0
ReplayEndsAsTheHistory =
    (threads : Threads) (tallies : Tallies) (digest : List ℕ) (limits : Limits) (initial : List ℕ) (count : ℕ) (history : List ℕ) (order : List Event) →
    StaysWithin threads (length initial) → HasOnly threads count → EndsWithin threads limits.steps → IsWholeHistory threads initial count history →
    Respects (history_log threads tallies digest limits initial count history) order →
    skip_play threads initial (history_log threads tallies digest limits initial count history) order ≡ played threads initial count history

-- so two histories with one log end in one state
abbrev pub HistoriesWithOneLogEndAlike : Type 0
HistoriesWithOneLogEndAlike = (threads : Threads) (tallies : Tallies) (digest : List ℕ) (limits : Limits) (initial : List ℕ) (count : ℕ) (one two : List ℕ) →
    StaysWithin threads (length initial) → HasOnly threads count → EndsWithin threads limits.steps →
    IsWholeHistory threads initial count one → IsWholeHistory threads initial count two →
    history_log threads tallies digest limits initial count one ≡ history_log threads tallies digest limits initial count two →
    played threads initial count one ≡ played threads initial count two

-- turns with the ended threads passed over are a legal history, and play alike
abbrev pub TurnsAreAHistory : Type 0
TurnsAreAHistory = (threads : Threads) (turns : List ℕ) (world : World) →
    IsLegal threads (history_of threads turns world) world × (play threads (history_of threads turns world) world ≡ play threads turns world)

-- rounds of turns are a whole history
abbrev pub RoundsAreWhole : Type 0
RoundsAreWhole = (threads : Threads) (bound : ℕ) (initial : List ℕ) (count : ℕ) → EndsWithin threads bound →
    IsWholeHistory threads initial count (rounds threads bound initial count)

-- so are any turns with rounds after them
abbrev pub FollowIsWhole : Type 0
FollowIsWhole = (threads : Threads) (bound : ℕ) (initial : List ℕ) (count : ℕ) (order : List ℕ) → EndsWithin threads bound →
    IsWholeHistory threads initial count (follow threads bound initial count order)
