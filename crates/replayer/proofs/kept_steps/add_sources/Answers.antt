use Rattle.std.specs.Prelude.{Some}
use Rattle.std.proofs.Common.{ℕ}
use Rattle.replay_model.specs.declared.Entry.{Entry}
use Rattle.replay_model.specs.Steps.{same_tag}
use Rattle.replayer.specs.KeptSteps.{event_at}
use Rattle.replayer.proofs.Adding.{add_more}
use Rattle.replayer.proofs.kept_steps.add_sources.Goals as goal

pub loop-entry-preserved : goal.loop-entry-preserved
loop-entry-preserved c =
    add_more (λ (entry : Entry) (m : ℕ). same_tag entry.source (Some (event_at c.args.thread m))) c.args.entries.now c.loop-entry.entry-index _ c.entry-item.result _ _ _ c.loop-entry-test.true c.entry-item.is
    c.loop-entry.invariant c.in_ok-add.ensures
