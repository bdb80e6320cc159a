use Rattle.std.proofs.Common.{◌≡◌, length}
use Rattle.races.proofs.Tabled.{AreEndsTo}
use Rattle.races.proofs.table.push_row.Given as goal

abbrev pub invariant-loop-thread : goal.invariant-loop-thread
invariant-loop-thread l = record {
  end : l.thread-end ≡ length l.problem.threads;
  ends : AreEndsTo l.problem l.source.word (length l.problem.threads) l.source.place l.thread l.ends.items;
}
