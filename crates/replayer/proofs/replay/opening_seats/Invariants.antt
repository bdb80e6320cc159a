use Rattle.replayer.specs.Seats.{AreFresh}
use Rattle.replayer.proofs.replay.opening_seats.Given as goal

abbrev pub invariant-loop-thread : goal.invariant-loop-thread
invariant-loop-thread l = AreFresh l.program l.log l.thread l.seats.items
