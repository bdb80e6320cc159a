use Rattle.std.proofs.Common.{ℕ, ◌<◌}
use Rattle.order_judge.specs.LiveRanges.{Overlap, range_at}
use Rattle.order_judge.proofs.live_ranges.first_with.Given as goal

abbrev pub invariant-loop-j : goal.invariant-loop-j
invariant-loop-j l = (k : ℕ) → k < l.j → Overlap l.range (range_at l.ranges k) → ⊥
