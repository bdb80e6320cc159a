use Rattle.std.proofs.Common.{◌≡◌, length, drop}
use Rattle.machine.specs.Faults.{code_fault}
use Rattle.machine.proofs.program.code_fault.Given as goal

abbrev pub invariant-loop-at : goal.invariant-loop-at
invariant-loop-at l = code_fault (length l.code) l.thread l.at (drop l.at l.code) ≡ code_fault (length l.code) l.thread 0 l.code
