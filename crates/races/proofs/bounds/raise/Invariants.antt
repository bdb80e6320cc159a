use Rattle.races.proofs.Chained.{AreRaised}
use Rattle.races.proofs.bounds.raise.Given as goal

abbrev pub invariant-loop-k : goal.invariant-loop-k
invariant-loop-k l = AreRaised l.step l.from l.k l.fn.tops.items l.tops.items
