use Rattle.std.proofs.Common.{◌-◌, ◌≤◌, length}
use Rattle.schedule_guess.proofs.reach.first_from.Given as goal

abbrev pub invariant-loop-low : goal.invariant-loop-low
invariant-loop-low l = record { ordered : l.low ≤ l.high; within : l.high ≤ length l.reads }

abbrev pub decreases-loop-low : goal.decreases-loop-low
decreases-loop-low l = l.high - l.low
