use Rattle.std.proofs.Common.{◌≡◌, length}
use Rattle.std.specs.Int.{w16}
use Rattle.machine.specs.Reading.{numbers_at}
use Rattle.machine.proofs.image.lengths_of.Given as goal

abbrev pub invariant-loop-i : goal.invariant-loop-i
invariant-loop-i l = record {
  read : l.lengths.items ≡ numbers_at w16 l.i l.bytes;
  count : length l.lengths.items ≡ l.i;
}
