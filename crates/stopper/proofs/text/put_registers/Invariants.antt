use Rattle.std.proofs.Common.{◌≡◌, ◌++◌, drop}
use Rattle.stopper.specs.Texts.{register_lines}
use Rattle.stopper.proofs.text.put_registers.Given as goal

abbrev pub invariant-loop-register : goal.invariant-loop-register
invariant-loop-register l = l.initial.text.items ++ register_lines 0 l.registers ≡ l.text.items ++ register_lines l.register (drop l.register l.registers)
