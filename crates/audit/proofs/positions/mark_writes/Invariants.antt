use Rattle.std.proofs.Common.{◌≡◌, map, take}
use Rattle.audit.specs.Tables.{write_mark}
use Rattle.audit.proofs.positions.mark_writes.Given as goal

abbrev pub invariant-loop-write : goal.invariant-loop-write
invariant-loop-write l = l.marks.items ≡ map (write_mark l.steps) (take l.write-index l.writes)
