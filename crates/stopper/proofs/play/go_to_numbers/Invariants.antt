use Rattle.std.proofs.Common.{◌≡◌, length}
use Rattle.stopper.specs.Plays.{EndReached}
use Rattle.stopper.proofs.play.go_to_numbers.Given as goal

abbrev pub invariant-loop-thread : goal.invariant-loop-thread
invariant-loop-thread l = record {
  reached : EndReached l.plan.program.now l.plan.log.now l.plan.numbers.now l.thread l.fn.words l.fn.seats.items l.words l.seats.items;
  counted : length l.seats.items ≡ length l.fn.seats.items;
}
