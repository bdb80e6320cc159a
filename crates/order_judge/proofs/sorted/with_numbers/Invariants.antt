use Rattle.std.proofs.Common.{◌≡◌, ℕ, ◌<◌, vec_len}
use Rattle.order_judge.specs.LiveRanges.{range_at}
use Rattle.order_judge.specs.Sorted.{numbered_at}
use Rattle.order_judge.proofs.sorted.with_numbers.Given as goal

abbrev pub invariant-loop-i : goal.invariant-loop-i
invariant-loop-i l = (vec_len l.all ≡ l.i) × ((k : ℕ) → k < l.i → numbered_at l.all.items k ≡ record { range = range_at l.ranges k; number = k })
