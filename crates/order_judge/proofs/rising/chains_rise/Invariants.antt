use Rattle.order_judge.proofs.Chaining.{AreRisen}
use Rattle.order_judge.proofs.rising.chains_rise.Given as goal

abbrev pub invariant-loop-count : goal.invariant-loop-count
invariant-loop-count l = AreRisen l.counts l.fn.places l.count-index l.rest
