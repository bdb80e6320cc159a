use Rattle.std.proofs.Common.{◌≡◌}
use Rattle.std.specs.Int.{w32}
use Rattle.machine.specs.Reading.{numbers_at}
use Rattle.machine.proofs.reading.numbers_of.Given as goal

abbrev pub invariant-loop-i : goal.invariant-loop-i
invariant-loop-i l = l.numbers.items ≡ numbers_at w32 l.i l.bytes
