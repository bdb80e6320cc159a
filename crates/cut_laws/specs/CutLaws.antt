-- What holds of cuts.
use Rattle.std.specs.Prelude.{◌≡◌, ℕ, ◌<◌, ◌≤◌, Some, List, length, slice_index_or}
use Rattle.replay_model.specs.Steps.{Event, Cell, Step}
use Rattle.replay_model.specs.Threads.{Threads, no_step}
use Rattle.replay_model.specs.Histories.{steps_of}
use Rattle.replay_model.specs.Logs.{Log, thread_of}
use Rattle.replay_model.specs.RunLogs.{Tallies}
use Rattle.replay_model.specs.WellFormed.{IsWellFormed}
use Rattle.replay_model.specs.Orders.{Respects}
use Rattle.replay_model.specs.Fitting.{Fits}
use Rattle.cut_laws.specs.Cuts.{number_of, IsWithin, IsClosed, IsCut, logged_steps}

-- in a well-formed log the steps that the threads took are closed
abbrev pub LoggedStepsAreClosed : Type 0
LoggedStepsAreClosed = (log : Log) (thread step : ℕ) → IsWellFormed log → step ≤ (thread_of log thread).steps →
    IsClosed log thread step (logged_steps log)

-- so no cut goes beyond them
abbrev pub CutStaysInTheLog : Type 0
CutStaysInTheLog = (log : Log) (thread step : ℕ) (cut : List ℕ) → IsWellFormed log → step ≤ (thread_of log thread).steps →
    IsCut log thread step cut → (t : ℕ) → number_of cut t ≤ (thread_of log t).steps

-- a step has one cut
abbrev pub CutIsUnique : Type 0
CutIsUnique = (log : Log) (thread step : ℕ) (one two : List ℕ) → IsCut log thread step one → IsCut log thread step two → one ≡ two

-- where some order respects a well-formed log, the thread asked for goes no further than its step
abbrev pub CutEndsAtItsStep : Type 0
CutEndsAtItsStep = (log : Log) (order : List Event) (thread step : ℕ) (cut : List ℕ) → IsWellFormed log → Respects log order →
    thread < length log.threads → IsCut log thread step cut → number_of cut thread ≡ step

-- where runs fit a log, what a step within a closed list found was written within it, or is initial
abbrev pub ReadsStayWithin : Type 0
ReadsStayWithin =
    (threads : Threads) (tallies : Tallies) (initial : List ℕ) (log : Log) (runs : List (List Step)) (thread step : ℕ) (cut : List ℕ) →
    Fits threads tallies initial log runs → IsClosed log thread step cut →
    (t k : ℕ) (cell : Cell) (event : Event) → k < length (steps_of runs t) → k < number_of cut t →
    (slice_index_or (steps_of runs t) k no_step).found ≡ Some cell → cell.tag ≡ Some event → IsWithin cut event
