use Rattle.std.proofs.Common.{ℕ, ◌<◌}
use Rattle.std.specs.Prelude.{slice_get}
use Rattle.stopper.specs.Strays.{AreSeenAt}
use Rattle.stopper.proofs.stray.first_other.Given as goal

abbrev pub invariant-loop-place : goal.invariant-loop-place
invariant-loop-place l = (k : ℕ) → k < l.place → AreSeenAt l.number (slice_get l.logged k) (slice_get l.seen k)
