use Rattle.std.proofs.Common.{length}
use Rattle.dep_log.proofs.Chains.{IsPassed}
use Rattle.dep_log.proofs.buckets.find.Given as goal

abbrev pub invariant-loop-at : goal.invariant-loop-at
invariant-loop-at l = IsPassed (length l.heads) l.entries l.word l.source l.at

abbrev pub decreases-loop-at : goal.decreases-loop-at
decreases-loop-at l = l.at
