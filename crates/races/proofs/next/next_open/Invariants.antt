use Rattle.std.proofs.Common.{◌≡◌, ◌≤◌, ◌<◌, ℕ, false, get_or, length}
use Rattle.constraints.specs.Constraints.{sources_of}
use Rattle.races.specs.Tables.{opens}
use Rattle.races.proofs.next.next_open.Given as goal

abbrev pub invariant-loop-thread : goal.invariant-loop-thread
invariant-loop-thread l = record {
  low : l.from ≤ l.at;
  begin : get_or l.table.starts.items l.thread 0 ≤ l.at;
  high : l.at ≤ length (sources_of l.problem l.row.word);
  none : (j : ℕ) → l.from ≤ j → j < l.at → opens l.problem l.row.word l.row.place j ≡ false;
}
