use Rattle.machine.proofs.Turning.{on_err}
use Rattle.transcript.proofs.Begins.{begins-trans}
use Rattle.transcript.proofs.text.put_reports.Goals as goal

pub returns-in_err-put_report-clause-err : goal.returns-in_err-put_report-clause-err
returns-in_err-put_report-clause-err c = on_err _ (begins-trans _ _ _ c.in_err-put_report.ensures.err c.loop-thread.invariant.begins)
