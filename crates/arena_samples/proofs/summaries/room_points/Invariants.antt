use Rattle.std.proofs.Common.{◌≡◌, ◌≤◌, ◌*◌, ◌^◌, ◌-◌, take, sum}
use Rattle.arena_samples.proofs.summaries.room_points.Given as goal

abbrev pub invariant-loop-player : goal.invariant-loop-player
invariant-loop-player l = record { value : l.points ≡ sum (take l.player-index l.players); bound : l.points ≤ l.player-index * (2 ^ 32 - 1) }
