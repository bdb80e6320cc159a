-- What becomes of a replay.
use Rattle.std.specs.Prelude.{◌≡◌, ◌≢◌, ℕ, ◌<◌, List, Result, Ok, Err}
use Rattle.light_base.specs.declared.tag.Event.{Event}
use Rattle.replay_model.specs.Steps.{Step}
use Rattle.replay_model.specs.Logs.{Log}
use Rattle.replay_model.specs.Orders.{Respects}
use Rattle.replay_model.specs.Fitting.{last_values}
use Rattle.machine.specs.Programs.{ProgramValue, LimitsValue}
use Rattle.machine.specs.Inputs.{InputsValue}
use Rattle.history.specs.Histories.{IsHistory}
use Rattle.history.specs.HistoryLogs.{log_of_history, FitsProgram}
use Rattle.constraints.specs.Constraints.{dead}
use Rattle.order_solver.specs.Solving.{IsFound}
use Rattle.replayer.specs.declared.difference.Difference.{Difference}
use Rattle.replayer.specs.Replays.{replay_by}
use Rattle.replayer.specs.Differences.{IsFirstDifference}
use Rattle.replayer.specs.Verdicts.{log_found, reports_of_runs}
use Rattle.transcript.specs.Transcripts.{transcript, transcript_of}
use Rattle.std.specs.Global.{Vec}
use Rattle.batch.specs.declared.replays.Outcome.{Outcome}
use Rattle.batch.specs.declared.replays.Outcome.TheVariants as outcome

-- no order respects the log
abbrev pub HasNoOrder : Log → Type 0
HasNoOrder log = (order : List Event) → Respects log order → ⊥

-- no runs of the program fit the log
abbrev pub HasNoRuns : ProgramValue → Log → Type 0
HasNoRuns p log = (runs : List (List Step)) → FitsProgram p log runs → ⊥

-- for the log of a history, it is the transcript of this very history
abbrev pub IsOfHistory : ProgramValue → Log → List ℕ → Type 0
IsOfHistory p log text = (limits : LimitsValue) (inputs : InputsValue) (digest history : List ℕ) → IsHistory p limits inputs history →
    log ≡ log_of_history p limits inputs digest history → text ≡ transcript_of p limits inputs history

-- the transcript of runs that fit the log, and of the values that its last tags name
pub record IsTranscript (p : ProgramValue) (log : Log) (text : List ℕ) : Type 0 where
  pub runs : List (List Step)
  pub fits : FitsProgram p log runs
  pub told : text ≡ transcript (reports_of_runs p log runs) (last_values p.words log runs)
  pub again : IsOfHistory p log text

-- no runs fit the log, and this is the first difference that the replay by some order found that respects it
pub record IsUnlike (p : ProgramValue) (log : Log) (difference : Difference) : Type 0 where
  pub order : List Event
  pub respects : Respects log order
  pub first : IsFirstDifference log (log_found p log (replay_by p log order)) difference
  pub unequal : difference.logged ≢ difference.found
  pub none : HasNoRuns p log

-- a replay by an order that respects the log tells the transcript, or the first difference
abbrev pub IsTold : ProgramValue → Log → Result (Vec ℕ) Difference → Type 0
IsTold p log (Ok text) = IsTranscript p log text.items
IsTold p log (Err difference) = IsUnlike p log difference

-- what becomes of a replay with this budget
abbrev pub IsOutcome : ProgramValue → Log → ℕ → Outcome → Type 0
IsOutcome p log budget outcome.Spent = budget < dead log
IsOutcome p log budget outcome.NoSchedule = HasNoOrder log
IsOutcome p log budget (outcome.Differs difference) = IsUnlike p log difference
IsOutcome p log budget (outcome.Same order text) = IsFound log order.items × IsTranscript p log text.items
