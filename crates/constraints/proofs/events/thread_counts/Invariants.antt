use Rattle.std.proofs.Common.{◌≡◌, ◌+◌, ◌-◌, map}
use Rattle.std.specs.List.{range_with_len}
use Rattle.constraints.specs.Building.{started_before}
use Rattle.constraints.proofs.events.thread_counts.Given as goal

abbrev pub invariant-loop-t : goal.invariant-loop-t
invariant-loop-t l = l.counts.items ≡ map (λ t. started_before l.events (t + 1) - started_before l.events t) (range_with_len 0 l.t)
