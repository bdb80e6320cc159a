use Rattle.std.proofs.Common.{◌≡◌, map, take}
use Rattle.replayer.specs.Differences.{part_of}
use Rattle.replayer.specs.Seats.{seat_part}
use Rattle.replayer.proofs.replay.threads_difference.Given as goal

abbrev pub invariant-loop-thread : goal.invariant-loop-thread
invariant-loop-thread l = map part_of (take l.thread l.log.threads) ≡ map seat_part (take l.thread l.seats)
