use Rattle.std.proofs.Common.{◌≡◌, map}
use Rattle.std.specs.List.{range_with_len}
use Rattle.constraints.specs.Building.{started_before}
use Rattle.constraints.proofs.events.thread_starts.Given as goal

abbrev pub invariant-loop-t : goal.invariant-loop-t
invariant-loop-t l = l.starts.items ≡ map (started_before l.events) (range_with_len 0 l.t)
