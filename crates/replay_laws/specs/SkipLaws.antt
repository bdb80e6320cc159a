-- What holds of the skip play.
use Rattle.std.specs.Prelude.{◌≡◌, ℕ, ◌↔◌, List, length}
use Rattle.replay_model.specs.Steps.{Event, Step}
use Rattle.replay_model.specs.Threads.{Threads, StaysWithin, HasOnly, EndsWithin}
use Rattle.replay_model.specs.Logs.{Log}
use Rattle.replay_model.specs.RunLogs.{Tallies, HasLog}
use Rattle.replay_model.specs.Orders.{Respects}
use Rattle.replay_model.specs.Fitting.{Fits}
use Rattle.replay_model.specs.SkipPlay.{ShowsRuns, skip_play}

-- where runs fit a log and an order respects it, the skip play gives each thread the steps of its run, and each word its last tag and the value that this names
abbrev pub SkipPlayShowsTheRuns : Type 0
SkipPlayShowsTheRuns = (threads : Threads) (tallies : Tallies) (initial : List ℕ) (log : Log) (runs : List (List Step)) (order : List Event) →
    StaysWithin threads (length initial) → EndsWithin threads log.limits.steps → Fits threads tallies initial log runs → Respects log order →
    ShowsRuns initial log runs (skip_play threads initial log order)

-- so the runs that fit a log are unique where some order respects it
abbrev pub FittingRunsAreUnique : Type 0
FittingRunsAreUnique = (threads : Threads) (tallies : Tallies) (initial : List ℕ) (log : Log) (one two : List (List Step)) (order : List Event) →
    StaysWithin threads (length initial) → EndsWithin threads log.limits.steps → Respects log order →
    Fits threads tallies initial log one → Fits threads tallies initial log two → one ≡ two

-- where the state after a skip play has the log, its runs fit the log
abbrev pub SkippedRunsFit : Type 0
SkippedRunsFit = (threads : Threads) (tallies : Tallies) (initial : List ℕ) (log : Log) (order : List Event) →
    StaysWithin threads (length initial) → HasOnly threads (length log.threads) → EndsWithin threads log.limits.steps →
    HasLog threads tallies log (skip_play threads initial log order) →
    Fits threads tallies initial log (skip_play threads initial log order).threads

-- under an order that respects the log, the state after the skip play has the log exactly where some runs fit it
abbrev pub VerdictIsExact : Type 0
VerdictIsExact = (threads : Threads) (tallies : Tallies) (initial : List ℕ) (log : Log) (order : List Event) →
    StaysWithin threads (length initial) → HasOnly threads (length log.threads) → EndsWithin threads log.limits.steps → Respects log order →
    (HasLog threads tallies log (skip_play threads initial log order) ↔ ((runs : List (List Step)) × Fits threads tallies initial log runs))

-- so it is the same under every order that respects the log
abbrev pub VerdictIsTheSame : Type 0
VerdictIsTheSame = (threads : Threads) (tallies : Tallies) (initial : List ℕ) (log : Log) (one two : List Event) →
    StaysWithin threads (length initial) → HasOnly threads (length log.threads) → EndsWithin threads log.limits.steps → Respects log one → Respects log two →
    (HasLog threads tallies log (skip_play threads initial log one) ↔ HasLog threads tallies log (skip_play threads initial log two))
