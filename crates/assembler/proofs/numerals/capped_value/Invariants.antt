use Rattle.std.proofs.Common.{◌≡◌, min, take}
use Rattle.std.specs.Str.Parse.{digits_value}
use Rattle.assembler.proofs.numerals.capped_value.Given as goal

-- the value so far is that of the digits so far, or the cap
abbrev pub invariant-loop-b : goal.invariant-loop-b
invariant-loop-b l = l.value ≡ min 18446744073709551615 (digits_value l.base (take l.b-index l.digits))
