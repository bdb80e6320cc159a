use Rattle.std.proofs.Common.{◌≡◌, take}
use Rattle.audit.specs.Tables.{read_flags}
use Rattle.audit.proofs.counting.flags_of.Given as goal

abbrev pub invariant-loop-position : goal.invariant-loop-position
invariant-loop-position l = l.flags.items ≡ read_flags l.lasts (take l.position-index l.positions)
