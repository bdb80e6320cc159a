-- The log of a history of a program, and the laws of recording and replaying at programs.
use Rattle.std.specs.Prelude.{◌≡◌, ℕ, List, length}
use Rattle.replay_model.specs.Steps.{Event, Step}
use Rattle.replay_model.specs.Logs.{Log}
use Rattle.replay_model.specs.WellFormed.{IsWellFormed}
use Rattle.replay_model.specs.Orders.{Respects}
use Rattle.replay_model.specs.Fitting.{Fits}
use Rattle.replay_model.specs.SkipPlay.{skip_play}
use Rattle.replay_model.specs.WholeHistories.{history_log, history_order}
use Rattle.machine.specs.Programs.{ProgramValue, LimitsValue, IsProgram, AreLimits}
use Rattle.machine.specs.Inputs.{InputsValue, AreShort}
use Rattle.machine.specs.Laws.{taken_in}
use Rattle.machine.specs.Runs.{threads_of, tallies_of, world_after}
use Rattle.history.specs.Histories.{IsHistory}

-- the log of a history of the program, with this digest
abbrev pub log_of_history : ProgramValue → LimitsValue → InputsValue → List ℕ → List ℕ → Log
log_of_history p limits inputs digest history = history_log (threads_of p limits inputs) (tallies_of p limits inputs) digest limits p.words (length p.threads) history

-- runs of the program's threads fit a log: its numbers are the inputs
abbrev pub FitsProgram : ProgramValue → Log → List (List Step) → Type 0
FitsProgram p log runs = Fits (threads_of p log.limits (taken_in log)) (tallies_of p log.limits (taken_in log)) p.words log runs

-- the log of a history of a program is well formed
abbrev pub HistoryLogsAreWellFormed : Type 0
HistoryLogsAreWellFormed = (p : ProgramValue) (limits : LimitsValue) (inputs : InputsValue) (digest history : List ℕ) → IsProgram p → AreLimits limits → AreShort inputs →
    IsHistory p limits inputs history → IsWellFormed (log_of_history p limits inputs digest history)

-- its runs fit it
abbrev pub HistoryRunsFit : Type 0
HistoryRunsFit = (p : ProgramValue) (limits : LimitsValue) (inputs : InputsValue) (digest history : List ℕ) → IsHistory p limits inputs history →
    FitsProgram p (log_of_history p limits inputs digest history) (world_after p limits inputs history).threads

-- its events, in the order of the history, respect it
abbrev pub HistoryEventsRespect : Type 0
HistoryEventsRespect = (p : ProgramValue) (limits : LimitsValue) (inputs : InputsValue) (digest history : List ℕ) → IsHistory p limits inputs history →
    Respects (log_of_history p limits inputs digest history) (history_order (threads_of p limits inputs) p.words (length p.threads) history (log_of_history p limits inputs digest history))

-- a replay of it by any order that respects it, with the numbers that it holds, ends in the very state in which the history ended
abbrev pub ReplaysEndAsHistories : Type 0
ReplaysEndAsHistories = (p : ProgramValue) (limits : LimitsValue) (inputs : InputsValue) (digest history : List ℕ) (order : List Event) → IsHistory p limits inputs history →
    Respects (log_of_history p limits inputs digest history) order →
    skip_play (threads_of p limits (taken_in (log_of_history p limits inputs digest history))) p.words (log_of_history p limits inputs digest history) order ≡ world_after p limits inputs history

-- the runs of a program that fit a log are unique where some order respects it
abbrev pub ProgramRunsAreUnique : Type 0
ProgramRunsAreUnique = (p : ProgramValue) (log : Log) (one two : List (List Step)) (order : List Event) → Respects log order →
    FitsProgram p log one → FitsProgram p log two → one ≡ two
