use Rattle.std.proofs.Common.{ℕ, ◌<◌}
use Rattle.std.specs.Prelude.{slice_index_or}
use Rattle.running_thread.specs.declared.thread.RunningThread.{RunningThread}
use Rattle.stopper.specs.Strays.{IsSeatOnTrack}
use Rattle.stopper.proofs.stray.first_stray.Given as goal

abbrev pub invariant-loop-thread : goal.invariant-loop-thread
invariant-loop-thread l = (u : ℕ) (d : RunningThread) → u < l.thread → IsSeatOnTrack l.log l.numbers u (slice_index_or l.seats u d)
