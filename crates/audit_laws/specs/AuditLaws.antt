-- How a replay and a placing of its runs tell whether a log is that of a whole history.
use Rattle.std.specs.Prelude.{ℕ, ◌↔◌, List, length}
use Rattle.replay_model.specs.Steps.{Event}
use Rattle.replay_model.specs.Threads.{Threads, StaysWithin, HasOnly, EndsWithin}
use Rattle.replay_model.specs.Logs.{Log}
use Rattle.replay_model.specs.RunLogs.{Tallies, HasLog}
use Rattle.replay_model.specs.Orders.{Respects}
use Rattle.replay_model.specs.SkipPlay.{skip_play}
use Rattle.audit_laws.specs.Placings.{Places}
use Rattle.audit_laws.specs.PlacingLaws.{IsLegalLog}

-- where some whole history has the log, some order respects it
abbrev pub LegalLogsAreRespected : Type 0
LegalLogsAreRespected = (threads : Threads) (tallies : Tallies) (initial : List ℕ) (log : Log) →
    StaysWithin threads (length initial) → HasOnly threads (length log.threads) → IsLegalLog threads tallies initial log →
    (order : List Event) × Respects log order

-- and under any order that respects it, some whole history has the log exactly where the state after the skip play has it and there is a placing of
-- this state's runs
abbrev pub LegalLogsAreJudged : Type 0
LegalLogsAreJudged = (threads : Threads) (tallies : Tallies) (initial : List ℕ) (log : Log) (order : List Event) →
    StaysWithin threads (length initial) → HasOnly threads (length log.threads) → EndsWithin threads log.limits.steps → Respects log order →
    IsLegalLog threads tallies initial log ↔
    (HasLog threads tallies log (skip_play threads initial log order) ×
    ((placing : List Event) × Places log (skip_play threads initial log order).threads placing))
