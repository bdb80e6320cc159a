use Rattle.std.specs.List.{slice_range}
use Rattle.batch.specs.Parts.{AreVerdicts}
use Rattle.batch.proofs.parts.judge_part.Given as goal

abbrev pub invariant-loop-number : goal.invariant-loop-number
invariant-loop-number g l = AreVerdicts l.budget (slice_range l.jobs l.from l.number) l.verdicts.items
