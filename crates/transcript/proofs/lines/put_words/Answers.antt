use Rattle.machine.proofs.Turning.{on_err}
use Rattle.transcript.proofs.Begins.{begins-trans}
use Rattle.transcript.proofs.lines.put_words.Goals as goal

pub returns-in_err-put_word-clause-err : goal.returns-in_err-put_word-clause-err
returns-in_err-put_word-clause-err c = on_err _ (begins-trans _ _ _ c.in_err-put_word.ensures.err c.loop-word.invariant.begins)
