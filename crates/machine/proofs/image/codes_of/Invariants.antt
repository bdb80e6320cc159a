use Rattle.std.proofs.Common.{◌≡◌, ◌*◌, ◌≤◌, drop, length, sum}
use Rattle.machine.specs.Programs.{code_lists}
use Rattle.machine.specs.ImageReading.{codes_at}
use Rattle.machine.proofs.ImageSteps.{with_front}
use Rattle.machine.proofs.image.codes_of.Given as goal

abbrev pub invariant-loop-thread : goal.invariant-loop-thread
invariant-loop-thread l = record {
  read : with_front (code_lists l.codes.items) (codes_at l.thread (drop l.thread l.lengths) l.rest) ≡ codes_at 0 l.lengths l.fn.bytes;
  there : 8 * sum (drop l.thread l.lengths) ≤ length l.rest;
}
