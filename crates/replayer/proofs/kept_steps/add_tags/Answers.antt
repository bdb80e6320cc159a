use Rattle.std.specs.Prelude.{Some}
use Rattle.std.proofs.Common.{ℕ}
use Rattle.replay_model.specs.Steps.{Tag, same_tag}
use Rattle.replayer.specs.KeptSteps.{event_at}
use Rattle.replayer.proofs.Adding.{add_more}
use Rattle.replayer.proofs.kept_steps.add_tags.Goals as goal

pub loop-tag-preserved : goal.loop-tag-preserved
loop-tag-preserved c =
    add_more (λ (tag : Tag) (m : ℕ). same_tag tag (Some (event_at c.args.thread m))) c.args.tags.now c.loop-tag.tag-index _ c.tag-item.result _ _ _ c.loop-tag-test.true c.tag-item.is
    c.loop-tag.invariant c.in_ok-add.ensures
