use Rattle.std.proofs.Common.{◌*◌, ◌≤◌}
use Rattle.constraints.proofs.events.entry_count.Given as goal

abbrev pub invariant-loop-thread : goal.invariant-loop-thread
invariant-loop-thread l = l.count ≤ 16384 * l.thread-index
