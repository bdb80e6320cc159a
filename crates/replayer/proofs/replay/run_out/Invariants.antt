use Rattle.replayer.proofs.Ending.{IsRunningOut}
use Rattle.replayer.proofs.replay.run_out.Given as goal

abbrev pub invariant-loop-thread : goal.invariant-loop-thread
invariant-loop-thread l = IsRunningOut l.program l.log l.thread l.fn.words l.words l.fn.seats l.seats
