use Rattle.std.proofs.Common.{◌≡◌}
use Rattle.worked_examples.proofs.tests.growing_logs.grown.Given as goal

abbrev pub invariant-loop-word : goal.invariant-loop-word
invariant-loop-word g l = l.log.words ≡ l.row.words
