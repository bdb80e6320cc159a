-- What is recorded of a history.
use Rattle.std.specs.Prelude.{◌≡◌, ℕ, List, map, replicate}
use Rattle.replay_model.specs.Histories.{World}
use Rattle.replay_model.specs.Steps.{Cell}
use Rattle.replay_model.specs.Logs.{Log, ThreadLog}
use Rattle.replay_model.specs.RunLogs.{log_of, last_tags}
use Rattle.machine.specs.Programs.{ProgramValue, LimitsValue}
use Rattle.machine.specs.Cores.{Report}
use Rattle.machine.specs.Inputs.{InputsValue}
use Rattle.machine.specs.Runs.{threads_of, tallies_of, world_after, reports_of, values_of}
use Rattle.history.specs.Histories.{IsHistory}

-- the log of a run, what each thread reports, and the last value of each word
pub record RecordedValue : Type 0 where
  pub log : Log
  pub reports : List Report
  pub last_values : List ℕ

-- stands in a log for the digest of an image, until that is set
abbrev pub no_digest : List ℕ
no_digest = replicate 32 0

-- the values of cells
abbrev pub values_in : List Cell → List ℕ
values_in cells = map (λ (cell : Cell). cell.value) cells

-- the log of threads with these logs, which left these cells; the digest is not set
abbrev pub log_without_digest : LimitsValue → List Cell → List ThreadLog → Log
log_without_digest limits cells threads = record { digest = no_digest; limits = limits; threads = threads; last_tags = last_tags cells }

-- what is recorded of threads with these logs and reports, which left these cells
abbrev pub recorded_from : LimitsValue → List Cell → List ThreadLog → List Report → RecordedValue
recorded_from limits cells threads reports = record { log = log_without_digest limits cells threads; reports = reports; last_values = values_in cells }

-- what is recorded of a run that ended like this
abbrev pub record_of : ProgramValue → LimitsValue → InputsValue → World → RecordedValue
record_of p limits inputs world = record {
  log = log_of (threads_of p limits inputs) (tallies_of p limits inputs) no_digest limits world;
  reports = reports_of p limits inputs world;
  last_values = values_of world;
}

-- what is recorded of a history
abbrev pub recorded_of : ProgramValue → LimitsValue → InputsValue → List ℕ → RecordedValue
recorded_of p limits inputs history = record_of p limits inputs (world_after p limits inputs history)

-- that is what is recorded of a whole history of the program
abbrev pub IsRecordOf : ProgramValue → LimitsValue → InputsValue → RecordedValue → Type 0
IsRecordOf p limits inputs recorded = (history : List ℕ) × IsHistory p limits inputs history × (recorded ≡ recorded_of p limits inputs history)
