-- How an order, a replay and a placing tell whether a log is legal for a program.
use Rattle.std.specs.Prelude.{◌≡◌, List, length}
use Rattle.light_base.specs.declared.tag.Event.{Event}
use Rattle.replay_model.specs.Steps.{Step}
use Rattle.replay_model.specs.Logs.{Log}
use Rattle.replay_model.specs.Orders.{Respects}
use Rattle.machine.specs.Programs.{ProgramValue}
use Rattle.machine.specs.Laws.{taken_in}
use Rattle.history.specs.HistoryLogs.{FitsProgram}
use Rattle.audit_laws.specs.Placings.{Places, placing_turns}
use Rattle.audit.specs.Judging.{HasThisLog, IsNotLegal}

-- where no order respects a log, it is not legal
abbrev pub LegalHasOrder : Type 0
LegalHasOrder = (p : ProgramValue) (log : Log) → ((order : List Event) → Respects log order → ⊥) → IsNotLegal p log

-- where no runs fit it, with the numbers that it holds, it is not legal
abbrev pub LegalHasRuns : Type 0
LegalHasRuns = (p : ProgramValue) (log : Log) → ((runs : List (List Step)) → FitsProgram p log runs → ⊥) → IsNotLegal p log

-- where some order respects it and runs fit it that have no placing, it is not legal
abbrev pub LegalHasPlacing : Type 0
LegalHasPlacing = (p : ProgramValue) (log : Log) (runs : List (List Step)) (order : List Event) → Respects log order → FitsProgram p log runs →
    ((placing : List Event) → Places log runs placing → ⊥) → IsNotLegal p log

-- and the turns of a placing of runs that fit it are a history that has it, with the numbers that it holds as inputs
abbrev pub PlacingIsLegal : Type 0
PlacingIsLegal = (p : ProgramValue) (log : Log) (runs : List (List Step)) (placing : List Event) → length p.threads ≡ length log.threads →
    FitsProgram p log runs → Places log runs placing →
    HasThisLog p log.limits (taken_in log) log (placing_turns (length log.threads) placing)
