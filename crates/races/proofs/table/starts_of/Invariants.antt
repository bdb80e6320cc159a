use Rattle.std.proofs.Common.{◌≡◌, length}
use Rattle.races.proofs.Tabled.{AreStartsTo}
use Rattle.races.proofs.table.starts_of.Given as goal

abbrev pub invariant-loop-thread : goal.invariant-loop-thread
invariant-loop-thread l = record {
  end : l.thread-end ≡ length l.problem.threads;
  starts : AreStartsTo l.problem l.word l.thread l.starts.items;
}
