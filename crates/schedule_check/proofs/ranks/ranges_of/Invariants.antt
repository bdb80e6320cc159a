use Rattle.std.proofs.Common.{◌≡◌, map, take}
use Rattle.schedule_check.specs.Ranks.{range_in}
use Rattle.schedule_check.proofs.ranks.ranges_of.Given as goal

abbrev pub invariant-loop-entry : goal.invariant-loop-entry
invariant-loop-entry l = l.ranges.items ≡ map (range_in l.places) (take l.entry-index l.entries)
