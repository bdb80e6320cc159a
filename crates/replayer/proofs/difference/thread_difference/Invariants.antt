use Rattle.std.proofs.Common.{◌≡◌, ℕ, ◌<◌}
use Rattle.replayer.specs.Differences.{kept_at}
use Rattle.replayer.proofs.difference.thread_difference.Given as goal

abbrev pub invariant-loop-place : goal.invariant-loop-place
invariant-loop-place l = (j : ℕ) → j < l.place → kept_at l.logged j ≡ kept_at l.found j
