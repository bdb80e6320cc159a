-- What it means that a log is legal, and what an audit of it answers.
use Rattle.std.specs.Prelude.{◌≡◌, ℕ, ◌+◌, ◌<◌, Result, Ok, Err, List, ◌⊎◌}
use Rattle.light_base.specs.declared.memory.Memory.{Memory}
use Rattle.light_base.specs.declared.tag.Event.{Event}
use Rattle.replay_model.specs.Steps.{Step}
use Rattle.replay_model.specs.Logs.{Log}
use Rattle.replay_model.specs.Orders.{Respects}
use Rattle.machine.specs.Programs.{ProgramValue, LimitsValue}
use Rattle.machine.specs.Inputs.{InputsValue}
use Rattle.machine.specs.Laws.{taken_in}
use Rattle.history.specs.Histories.{IsHistory}
use Rattle.history.specs.HistoryLogs.{log_of_history, FitsProgram}
use Rattle.constraints.specs.Constraints.{dead}
use Rattle.audit.specs.declared.judging.Audit.{Audit}
use Rattle.audit.specs.declared.judging.Audit.TheVariants as answer
use Rattle.audit.specs.Constraints.{placing_dead}

-- a whole history of the program under these limits and with these inputs, whose log, with the digest of this one, is this one
pub record HasThisLog (p : ProgramValue) (limits : LimitsValue) (inputs : InputsValue) (log : Log) (history : List ℕ) : Type 0 where
  pub whole : IsHistory p limits inputs history
  pub logged : log_of_history p limits inputs log.digest history ≡ log

-- no whole history of the program has the log, under any limits and with any inputs
abbrev pub IsNotLegal : ProgramValue → Log → Type 0
IsNotLegal p log = (limits : LimitsValue) (inputs : InputsValue) (history : List ℕ) → HasThisLog p limits inputs log history → ⊥

-- the plain search of an audit meets more dead ends: its first part alone, which looks for an order of the events; or, where some order respects
-- the log and runs fit it, both parts together, of which the second looks for a placing of these runs
abbrev pub MeetsMore : ProgramValue → Log → ℕ → Type 0
MeetsMore p log budget = (budget < dead log) ⊎
    ((order : List Event) × (runs : List (List Step)) × Respects log order × FitsProgram p log runs ×
    (budget < dead log + placing_dead log runs))

-- a history that has the log, with the numbers that it holds as inputs; that there is none with any inputs; or that the plain search meets more
-- dead ends than the budget
abbrev pub Judged : ProgramValue → Log → ℕ → Result Audit Memory → Type 0
Judged p log budget (Ok (answer.Legal history)) = HasThisLog p log.limits (taken_in log) log history.items
Judged p log budget (Ok answer.NotLegal) = IsNotLegal p log
Judged p log budget (Ok answer.Spent) = MeetsMore p log budget
Judged p log budget (Err _) = Unit {0}
