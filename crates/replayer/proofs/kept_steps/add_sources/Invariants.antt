use Rattle.std.proofs.Common.{take}
use Rattle.replayer.specs.KeptSteps.{is_source, AreAdded}
use Rattle.replayer.proofs.kept_steps.add_sources.Given as goal

abbrev pub invariant-loop-entry : goal.invariant-loop-entry
invariant-loop-entry l = AreAdded (is_source l.thread (take l.entry-index l.entries)) l.initial.steps.items l.steps.items
