use Rattle.std.proofs.Common.{take}
use Rattle.replayer.specs.KeptSteps.{is_tagged, AreAdded}
use Rattle.replayer.proofs.kept_steps.add_tags.Given as goal

abbrev pub invariant-loop-tag : goal.invariant-loop-tag
invariant-loop-tag l = AreAdded (is_tagged l.thread (take l.tag-index l.tags)) l.initial.steps.items l.steps.items
