use Rattle.std.proofs.Common.{◌-◌, ◌≤◌, get_or}
use Rattle.races.proofs.table.row_of.Given as goal

abbrev pub invariant-loop-thread : goal.invariant-loop-thread
invariant-loop-thread l = record {
  within : l.thread ≤ l.table.threads;
  begin : get_or l.table.starts.items l.thread 0 ≤ l.source.place;
}

abbrev pub decreases-loop-thread : goal.decreases-loop-thread
decreases-loop-thread l = l.table.threads - l.thread
