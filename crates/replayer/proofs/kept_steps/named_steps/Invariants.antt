use Rattle.std.proofs.Common.{take, ℕ}
use Rattle.std.specs.Prelude.{Some}
use Rattle.std.specs.List.{list_any}
use Rattle.replay_model.specs.Events.{names_source}
use Rattle.replayer.specs.KeptSteps.{event_at, AreAdded}
use Rattle.replayer.proofs.kept_steps.named_steps.Given as goal

abbrev pub invariant-loop-logged : goal.invariant-loop-logged
invariant-loop-logged l = AreAdded (λ (m : ℕ). list_any (names_source (Some (event_at l.thread m))) (take l.logged-index l.logged-items)) l.initial.steps.items l.steps.items
