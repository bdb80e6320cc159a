use Rattle.std.proofs.Common.{◌≡◌, ◌≤◌, ◌*◌, ◌^◌}
use Rattle.arena_samples.specs.Summaries.{points_of}
use Rattle.arena_samples.proofs.summaries.points.Given as goal

abbrev pub invariant-loop-room : goal.invariant-loop-room
invariant-loop-room l = record { value : l.points ≡ points_of l.values l.room; bound : l.points ≤ l.room * (5 * 2 ^ 32) }
