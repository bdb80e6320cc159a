use Rattle.std.proofs.Common.{◌≡◌, ◌++◌, take}
use Rattle.std.specs.List.{flat_map}
use Rattle.constraints.specs.Building.{placed_edges}
use Rattle.audit.proofs.edges.push_entries.Given as goal

abbrev pub invariant-loop-entry : goal.invariant-loop-entry
invariant-loop-entry l = l.edges.items ≡ l.fn.edges.items ++ flat_map (placed_edges l.sources l.last_tags) (take l.entry-index l.placed)
