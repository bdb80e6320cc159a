use Rattle.std.proofs.Common.{◌≡◌, ◌++◌, drop}
use Rattle.log_text.specs.ShowTexts.{threads_text}
use Rattle.log_text.proofs.show.put_logs.Given as goal

abbrev pub invariant-loop-number : goal.invariant-loop-number
invariant-loop-number l = l.initial.text.items ++ threads_text 0 l.threads ≡ l.text.items ++ threads_text l.number (drop l.number l.threads)
