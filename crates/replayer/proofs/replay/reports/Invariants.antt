use Rattle.std.proofs.Common.{◌≡◌, map}
use Rattle.machine.specs.Cores.{report_of}
use Rattle.running_thread.specs.declared.thread.RunningThread.{RunningThread}
use Rattle.replayer.proofs.replay.reports.Given as goal

abbrev pub invariant-loop-seat : goal.invariant-loop-seat
invariant-loop-seat l = l.reports.items ≡ map (λ (seat : RunningThread). report_of seat.core) l.yielded
