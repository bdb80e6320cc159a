use Rattle.std.proofs.Common.{◌≡◌, ◌++◌, drop}
use Rattle.stopper.specs.Texts.{run_lines}
use Rattle.stopper.proofs.text.put_runs.Given as goal

abbrev pub invariant-loop-thread : goal.invariant-loop-thread
invariant-loop-thread l = l.initial.text.items ++ run_lines 0 l.numbers ≡ l.text.items ++ run_lines l.thread (drop l.thread l.numbers)
