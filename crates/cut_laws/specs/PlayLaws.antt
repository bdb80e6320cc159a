-- What holds of plays up to a cut.
use Rattle.std.specs.Prelude.{◌≡◌, ℕ, ◌<◌, ◌≤◌, List, length, take}
use Rattle.replay_model.specs.Steps.{Event, Step}
use Rattle.replay_model.specs.Threads.{Threads, StaysWithin, HasOnly, EndsWithin}
use Rattle.replay_model.specs.Histories.{steps_of}
use Rattle.replay_model.specs.Logs.{Limits, Log, thread_of}
use Rattle.replay_model.specs.RunLogs.{Tallies}
use Rattle.replay_model.specs.Orders.{Respects}
use Rattle.replay_model.specs.Fitting.{Fits}
use Rattle.replay_model.specs.WholeHistories.{IsWholeHistory, played, history_log}
use Rattle.cut_laws.specs.Cuts.{IsCut, cut_play, ShowsCut, IsOnTrack}

-- where runs fit a log and an order respects it, the cut play gives each thread the steps of its run up to its number
abbrev pub CutPlayShowsTheRuns : Type 0
CutPlayShowsTheRuns = (threads : Threads) (tallies : Tallies) (initial : List ℕ) (log : Log) (runs : List (List Step)) (order : List Event)
    (thread step : ℕ) (cut : List ℕ) →
    StaysWithin threads (length initial) → EndsWithin threads log.limits.steps → Fits threads tallies initial log runs → Respects log order →
    step ≤ (thread_of log thread).steps → IsCut log thread step cut → ShowsCut runs cut (cut_play threads initial log order cut)

-- so it does not stray
abbrev pub CutPlayIsOnTrack : Type 0
CutPlayIsOnTrack = (threads : Threads) (tallies : Tallies) (initial : List ℕ) (log : Log) (runs : List (List Step)) (order : List Event)
    (thread step : ℕ) (cut : List ℕ) →
    StaysWithin threads (length initial) → EndsWithin threads log.limits.steps → Fits threads tallies initial log runs → Respects log order →
    step ≤ (thread_of log thread).steps → IsCut log thread step cut → IsOnTrack log cut (cut_play threads initial log order cut)

-- and the thread asked for stands right after its step
abbrev pub CutPlayComesToItsStep : Type 0
CutPlayComesToItsStep = (threads : Threads) (tallies : Tallies) (initial : List ℕ) (log : Log) (runs : List (List Step)) (order : List Event)
    (thread step : ℕ) (cut : List ℕ) →
    StaysWithin threads (length initial) → EndsWithin threads log.limits.steps → Fits threads tallies initial log runs → Respects log order →
    thread < length log.threads → step ≤ (thread_of log thread).steps → IsCut log thread step cut →
    steps_of (cut_play threads initial log order cut).threads thread ≡ take step (steps_of runs thread)

-- the cut play of a history's log does not stray, and the thread asked for has taken the steps that it took in this history
pub record StopsAt (threads : Threads) (initial : List ℕ) (count : ℕ) (history : List ℕ) (log : Log) (order : List Event)
    (thread step : ℕ) (cut : List ℕ) : Type 0 where
  pub on_track : IsOnTrack log cut (cut_play threads initial log order cut)
  pub comes : steps_of (cut_play threads initial log order cut).threads thread ≡
      take step (steps_of (played threads initial count history).threads thread)

-- so it is for each step of every whole history
abbrev pub HistoriesStopAtTheirSteps : Type 0
HistoriesStopAtTheirSteps =
    (threads : Threads) (tallies : Tallies) (digest : List ℕ) (limits : Limits) (initial : List ℕ) (count : ℕ) (history : List ℕ) (order : List Event)
    (thread step : ℕ) (cut : List ℕ) →
    StaysWithin threads (length initial) → HasOnly threads count → EndsWithin threads limits.steps → IsWholeHistory threads initial count history →
    Respects (history_log threads tallies digest limits initial count history) order →
    thread < count → step ≤ length (steps_of (played threads initial count history).threads thread) →
    IsCut (history_log threads tallies digest limits initial count history) thread step cut →
    StopsAt threads initial count history (history_log threads tallies digest limits initial count history) order thread step cut
