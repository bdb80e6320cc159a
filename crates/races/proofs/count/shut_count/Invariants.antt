use Rattle.std.proofs.Common.{◌≡◌, ◌≤◌, get_or}
use Rattle.races.specs.Shut.{shuts}
use Rattle.races.proofs.Ranges.{counted}
use Rattle.races.proofs.count.shut_count.Given as goal

abbrev pub invariant-loop-thread : goal.invariant-loop-thread
invariant-loop-thread l = record {
  count : l.count ≡ counted (shuts l.problem l.source.word l.source.place) 0 (get_or l.table.starts.items l.thread 0);
  few : l.count ≤ get_or l.table.starts.items l.thread 0;
}
