use Rattle.history.specs.Playing.{AreFresh}
use Rattle.history.proofs.plain.opening_seats.Given as goal

abbrev pub invariant-loop-thread : goal.invariant-loop-thread
invariant-loop-thread l = AreFresh l.program l.limits l.inputs l.thread l.seats.items
