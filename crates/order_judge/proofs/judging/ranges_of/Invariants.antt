use Rattle.std.proofs.Common.{◌≡◌, All, map, take}
use Rattle.order_judge.specs.Judging.{IsLater, range_of}
use Rattle.order_judge.proofs.judging.ranges_of.Given as goal

abbrev pub invariant-loop-read : goal.invariant-loop-read
invariant-loop-read l = All (IsLater l.places) (take l.read-index l.reads) × (l.ranges.items ≡ map (range_of l.places) (take l.read-index l.reads))
