use Rattle.std.proofs.Common.{◌≡◌, ◌*◌, ◌≤◌, take}
use Rattle.log_file.specs.Spelling.{taken_count}
use Rattle.log_file.proofs.write.taken_count.Given as goal

abbrev pub invariant-loop-thread : goal.invariant-loop-thread
invariant-loop-thread l = record {
  value : l.count ≡ taken_count (take l.thread-index l.threads);
  bound : l.count ≤ 65536 * l.thread-index;
}
