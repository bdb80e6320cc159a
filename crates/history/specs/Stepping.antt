-- What a step of a plain machine answers, and what it leaves.
use Rattle.std.specs.Prelude.{◌≡◌, ℕ, false}
use Rattle.replay_model.specs.Steps.{has_ended}
use Rattle.replay_model.specs.declared.Want.TheVariants as want
use Rattle.history.specs.declared.plain.Stepped.{Stepped}
use Rattle.history.specs.declared.plain.Stepped.TheVariants.{Took, Ended}
use Rattle.history.specs.Played.{Played, wanted_by, next_access, after_step}

-- the thread took the step that it wanted, which is told; or it has ended like this, and all is as before
abbrev pub IsStep : Played → ℕ → Stepped → Played → Type 0
IsStep old t (Took access) new = (has_ended (wanted_by old t) ≡ false) × (access ≡ next_access old t) × (new ≡ after_step old t)
IsStep old t (Ended end) new = (wanted_by old t ≡ want.Ended end) × (new ≡ old)
