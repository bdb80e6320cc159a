-- What a replay answers.
use Rattle.std.specs.Prelude.{◌≡◌, ℕ, List, length, map}
use Rattle.std.specs.List.{range_with_len}
use Rattle.replay_model.specs.Steps.{Event, Step}
use Rattle.replay_model.specs.Histories.{World, steps_of}
use Rattle.replay_model.specs.Logs.{Log}
use Rattle.replay_model.specs.RunLogs.{Tallies, HasLog, log_of}
use Rattle.replay_model.specs.Fitting.{last_values}
use Rattle.machine.specs.Cores.{Report, report_of}
use Rattle.machine.specs.Programs.{ProgramValue, LimitsValue}
use Rattle.machine.specs.Inputs.{InputsValue}
use Rattle.machine.specs.Laws.{taken_in}
use Rattle.machine.specs.Runs.{state_after, tallies_of, reports_of, values_of, world_after}
use Rattle.replay_model.specs.Orders.{Respects}
use Rattle.history.specs.Histories.{IsHistory}
use Rattle.history.specs.HistoryLogs.{log_of_history, FitsProgram}
use Rattle.replayer.specs.declared.replay.Replayed.{Replayed}
use Rattle.replayer.specs.declared.replay.Replayed.TheVariants.{Same, Differs}
use Rattle.replayer.specs.Replays.{Replaying, threads_by, replay_by, world_of, world_by}
use Rattle.replayer.specs.Differences.{IsFirstDifference}

-- what the threads count under the numbers that the log holds
abbrev pub tallies_by : ProgramValue → Log → Tallies
tallies_by p log = tallies_of p log.limits (taken_in log)

-- the state has the entries, the tails and the last tags of the log
abbrev pub ShowsLog : ProgramValue → Log → World → Type 0
ShowsLog p log world = HasLog (threads_by p log) (tallies_by p log) log world

-- the log that the state has in fact
abbrev pub log_found : ProgramValue → Log → World → Log
log_found p log world = log_of (threads_by p log) (tallies_by p log) log.digest log.limits world

-- what a replay answers that has come to this end: that all is as logged, with the reports and the last values, or else the first difference
abbrev pub IsVerdict : ProgramValue → Log → World → Replayed → Type 0
IsVerdict p log world (Same reports values) =
    ShowsLog p log world × (reports.items ≡ reports_of p log.limits (taken_in log) world) × (values.items ≡ values_of world)
IsVerdict p log world (Differs difference) = (ShowsLog p log world → ⊥) × IsFirstDifference log (log_found p log world) difference

-- what the threads report at the end of these runs, which fit the log
abbrev pub reports_of_runs : ProgramValue → Log → List (List Step) → List Report
reports_of_runs p log runs = map (λ (t : ℕ). report_of (state_after p log.limits (taken_in log) t (steps_of runs t))) (range_with_len 0 (length p.threads))

-- some runs fit the log, and these are their reports and the values that the last tags name; or no runs fit it
abbrev pub IsExact : ProgramValue → Log → Replayed → Type 0
IsExact p log (Same reports values) =
    (runs : List (List Step)) × FitsProgram p log runs × (reports.items ≡ reports_of_runs p log runs) × (values.items ≡ last_values p.words log runs)
IsExact p log (Differs difference) = (runs : List (List Step)) → FitsProgram p log runs → ⊥

-- the reports and the last values of this history
abbrev pub IsHistoryAgain : ProgramValue → LimitsValue → InputsValue → List ℕ → Replayed → Type 0
IsHistoryAgain p limits inputs history (Same reports values) =
    (reports.items ≡ reports_of p limits inputs (world_after p limits inputs history)) × (values.items ≡ values_of (world_after p limits inputs history))
IsHistoryAgain p limits inputs history (Differs difference) = ⊥

-- those of each history that has the log
abbrev pub IsAnyHistoryAgain : ProgramValue → Log → Replayed → Type 0
IsAnyHistoryAgain p log replayed = (limits : LimitsValue) (inputs : InputsValue) (digest history : List ℕ) → IsHistory p limits inputs history →
    log ≡ log_of_history p limits inputs digest history → IsHistoryAgain p limits inputs history replayed

-- the answer is exact where the turns were those of an order that respects the log
abbrev pub IsExactByAnyOrder : Replaying → Replayed → Type 0
IsExactByAnyOrder replaying replayed = (order : List Event) → Respects replaying.log order →
    world_of replaying ≡ world_by replaying.program replaying.log order → IsExact replaying.program replaying.log replayed

-- ---- the laws

-- under an order that respects the log, a verdict tells whether some runs fit the log, and what they report and leave
abbrev pub VerdictsAreExact : Type 0
VerdictsAreExact = (p : ProgramValue) (log : Log) (order : List Event) (replayed : Replayed) → length p.threads ≡ length log.threads → Respects log order →
    IsVerdict p log (replay_by p log order) replayed → IsExact p log replayed

-- and on the log of a history it is this very history
abbrev pub HistoriesComeAgain : Type 0
HistoriesComeAgain = (p : ProgramValue) (limits : LimitsValue) (inputs : InputsValue) (digest history : List ℕ) (order : List Event) (replayed : Replayed) → IsHistory p limits inputs history →
    Respects (log_of_history p limits inputs digest history) order →
    IsVerdict p (log_of_history p limits inputs digest history) (replay_by p (log_of_history p limits inputs digest history) order) replayed → IsHistoryAgain p limits inputs history replayed
