use Rattle.order_judge.proofs.Filling.{Filled}
use Rattle.order_judge.proofs.places.places_of.Given as goal

abbrev pub invariant-loop-k : goal.invariant-loop-k
invariant-loop-k l = Filled l.fn.nodes l.order l.places.items l.k
