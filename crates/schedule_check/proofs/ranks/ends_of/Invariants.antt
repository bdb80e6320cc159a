use Rattle.std.proofs.Common.{◌≡◌, map, take}
use Rattle.schedule_check.specs.Ranks.{rank_in}
use Rattle.schedule_check.proofs.ranks.ends_of.Given as goal

abbrev pub invariant-loop-last : goal.invariant-loop-last
invariant-loop-last l = l.ends.items ≡ map (rank_in l.places) (take l.last-index l.last_tags)
