use Rattle.std.proofs.Common.{◌≤◌, ◌+◌, take}
use Rattle.std.specs.List.{sum_by}
use Rattle.constraints.specs.declared.placed.Placed.{Placed}
use Rattle.constraints.specs.Building.{source_room}
use Rattle.constraints.proofs.edges.edge_room.Given as goal

abbrev pub invariant-loop-entry : goal.invariant-loop-entry
invariant-loop-entry l = l.room ≤ sum_by (λ (entry : Placed). source_room l.sources entry entry.source + 1) (take l.entry-index l.placed)
