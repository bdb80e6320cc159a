use Rattle.std.proofs.Common.{◌≡◌, ◌*◌, ◌≤◌, take}
use Rattle.log_file.specs.Spelling.{entry_count}
use Rattle.log_file.proofs.write.entry_count.Given as goal

abbrev pub invariant-loop-thread : goal.invariant-loop-thread
invariant-loop-thread l = record {
  value : l.count ≡ entry_count (take l.thread-index l.threads);
  bound : l.count ≤ 16384 * l.thread-index;
}
