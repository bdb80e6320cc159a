use Rattle.std.proofs.Common.{◌≡◌, take, false}
use Rattle.std.specs.List.{list_any}
use Rattle.constraints.specs.Building.{is_shut}
use Rattle.constraints.proofs.edges.is_impossible.Given as goal

abbrev pub invariant-loop-entry : goal.invariant-loop-entry
invariant-loop-entry l = list_any (is_shut l.last_tags) (take l.entry-index l.placed) ≡ false
