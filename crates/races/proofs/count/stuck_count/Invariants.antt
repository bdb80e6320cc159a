use Rattle.std.proofs.Common.{◌≡◌, ◌≤◌, ◌+◌, get_or, length}
use Rattle.constraints.specs.Constraints.{sources_of}
use Rattle.races.specs.Tables.{sticks}
use Rattle.races.proofs.Ranges.{counted}
use Rattle.races.proofs.count.stuck_count.Given as goal

abbrev pub invariant-loop-thread : goal.invariant-loop-thread
invariant-loop-thread l = record {
  low : l.row.place + 1 ≤ l.from;
  begin : get_or l.table.starts.items l.thread 0 ≤ l.from;
  high : l.from ≤ length (sources_of l.problem l.row.word);
  count : l.count ≡ counted (sticks l.problem l.row.word l.row.place) (l.row.place + 1) l.from;
  few : l.count ≤ l.from;
}
