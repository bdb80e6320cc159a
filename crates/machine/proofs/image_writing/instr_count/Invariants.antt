use Rattle.std.proofs.Common.{◌≡◌, ◌*◌, ◌≤◌, length, take}
use Rattle.std.specs.List.{sum_by}
use Rattle.machine.proofs.image_writing.instr_count.Given as goal

abbrev pub invariant-loop-thread : goal.invariant-loop-thread
invariant-loop-thread l = record {
  value : l.count ≡ sum_by length (take l.thread l.program.threads);
  most : l.count ≤ 4096 * l.thread;
}
