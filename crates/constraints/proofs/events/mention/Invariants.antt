use Rattle.std.proofs.Common.{◌≡◌, ◌++◌, take}
use Rattle.std.specs.List.{flat_map}
use Rattle.constraints.specs.Building.{mentioned_by}
use Rattle.constraints.proofs.events.mention.Given as goal

abbrev pub invariant-loop-entry : goal.invariant-loop-entry
invariant-loop-entry l = l.tags.items ≡ l.fn.tags.items ++ flat_map (mentioned_by l.thread) (take l.entry-index l.entries)
