use Rattle.std.proofs.Common.{◌≡◌, drop}
use Rattle.machine.specs.Programs.{code_lists}
use Rattle.machine.specs.Faults.{codes_fault}
use Rattle.machine.proofs.program.codes_fault.Given as goal

abbrev pub invariant-loop-thread : goal.invariant-loop-thread
invariant-loop-thread l = codes_fault l.thread (drop l.thread (code_lists l.threads)) ≡ codes_fault 0 (code_lists l.threads)
