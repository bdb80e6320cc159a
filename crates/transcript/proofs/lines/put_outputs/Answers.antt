use Rattle.machine.proofs.Turning.{on_err}
use Rattle.transcript.proofs.Begins.{begins-trans}
use Rattle.transcript.proofs.lines.put_outputs.Goals as goal

pub returns-in_err-put_output-clause-err : goal.returns-in_err-put_output-clause-err
returns-in_err-put_output-clause-err c = on_err _ (begins-trans _ _ _ c.in_err-put_output.ensures.err c.loop-value.invariant.begins)
