use Rattle.replayer.specs.Seats.{AreAllLeft}
use Rattle.replayer.proofs.replay.opening_kept.Given as goal

abbrev pub invariant-loop-thread : goal.invariant-loop-thread
invariant-loop-thread l = AreAllLeft l.log l.thread l.kept.items
