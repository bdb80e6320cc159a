use Rattle.std.proofs.Common.{◌≡◌, ◌+◌, ◌++◌, drop}
use Rattle.batch.specs.Texts.{verdict_lines}
use Rattle.batch.proofs.text.verdicts_text.Given as goal

abbrev pub invariant-loop-place : goal.invariant-loop-place
invariant-loop-place l = verdict_lines 1 l.verdicts ≡ l.text.items ++ verdict_lines (l.place + 1) (drop l.place l.verdicts)
