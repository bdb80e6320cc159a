use Rattle.std.proofs.Common.{◌≡◌, [], map, replicate}
use Rattle.recorder.specs.Grouped.{hands_in}
use Rattle.recorder.proofs.workers.no_hands.Given as goal

abbrev pub invariant-loop : goal.invariant-loop
invariant-loop l = map hands_in l.groups.items ≡ replicate l.counter []
