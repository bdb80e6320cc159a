use Rattle.std.proofs.Common.{◌≡◌, ◌++◌, Some, map, take}
use Rattle.replayer.specs.declared.notes.Written.{Written}
use Rattle.audit.proofs.placed.put_writes.Given as goal

abbrev pub invariant-loop-write : goal.invariant-loop-write
invariant-loop-write l = l.tags.items ≡ l.fn.tags.items ++ map (λ (w : Written). Some w.event) (take l.write-index l.writes)
