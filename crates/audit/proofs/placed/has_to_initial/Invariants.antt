use Rattle.std.proofs.Common.{◌≡◌, take, false}
use Rattle.std.specs.List.{list_any}
use Rattle.audit.specs.Gathering.{to_initial}
use Rattle.audit.proofs.placed.has_to_initial.Given as goal

abbrev pub invariant-loop-write : goal.invariant-loop-write
invariant-loop-write l = list_any (to_initial l.last_tags) (take l.write-index l.writes) ≡ false
