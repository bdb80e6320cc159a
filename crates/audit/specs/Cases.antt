-- A log that is audited, with the writes of the runs that came of a replay.
use Rattle.std.specs.Prelude.{◌≡◌, All}
use Rattle.light_base.specs.Tags.{HasTag}
use Rattle.history.specs.HistoryLogs.{FitsProgram}
use Rattle.replayer.specs.declared.notes.Written.{Written}
use Rattle.replayer.specs.Notes.{AreWrites}
use Rattle.audit.specs.declared.placing.Case.{Case}
use Rattle.audit.specs.Tables.{Audited, runs_in}

abbrev pub case_of : Case → Audited
case_of c = record { program = c.program.now; log = c.log.now; order = c.order.now.items }

-- the problem is the log's, and the runs of the replay fit the log and made just these writes
pub record IsCase (c : Case) : Type 0 where
  pub problem : c.problem.now ≡ c.log.now
  pub fits : FitsProgram c.program.now c.log.now (runs_in (case_of c))
  pub writes : AreWrites (runs_in (case_of c)) c.writes.now
  pub tagged : All (λ (write : Written). HasTag write.event) c.writes.now
