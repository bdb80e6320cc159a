-- Arenas that are recorded and replayed.
use Rattle.std.specs.Prelude.{◌≡◌, ℕ, ◌<◌, List, [], replicate}
use Rattle.replay_model.specs.Logs.{Log}
use Rattle.replay_model.specs.Bounds.{most_entries}
use Rattle.machine.specs.Programs.{ProgramValue, LimitsValue}
use Rattle.machine.specs.Inputs.{InputsValue}
use Rattle.machine.specs.Runs.{world_after, values_of}
use Rattle.history.specs.Histories.{IsHistory}
use Rattle.history.specs.HistoryLogs.{log_of_history}
use Rattle.constraints.specs.Constraints.{dead}
use Rattle.recorder.specs.Records.{no_digest}
use Rattle.light_top.specs.declared.status.Status.{Status}
use Rattle.light_top.specs.declared.status.Status.TheVariants as status

-- the limits under which arenas run
abbrev pub arena_limits : LimitsValue
arena_limits = record { steps = 1000000; instr = 10000000; entries = most_entries }

-- their threads have no input numbers
abbrev pub arena_inputs : InputsValue
arena_inputs = replicate 8 []

-- one whole history of an arena's program
abbrev pub IsArenaHistory : ProgramValue → List ℕ → Type 0
IsArenaHistory p history = IsHistory p arena_limits arena_inputs history

-- the log of such a history
abbrev pub arena_log : ProgramValue → List ℕ → Log
arena_log p history = log_of_history p arena_limits arena_inputs no_digest history

-- the log is that of a whole history
pub record IsArenaLog (p : ProgramValue) (log : Log) : Type 0 where
  pub history : List ℕ
  pub whole : IsArenaHistory p history
  pub told : log ≡ arena_log p history

-- the values are those at the end of a history
pub record IsArenaEnd (p : ProgramValue) (values : List ℕ) : Type 0 where
  pub history : List ℕ
  pub whole : IsArenaHistory p history
  pub told : values ≡ values_of (world_after p arena_limits arena_inputs history)

-- why there is no end: the log of some whole history has a dead end
abbrev pub Endless : ProgramValue → Status → Type 0
Endless p status.Spent = (history : List ℕ) × IsArenaHistory p history × (0 < dead (arena_log p history))
Endless p s = ⊥
