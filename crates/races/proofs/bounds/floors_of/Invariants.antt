use Rattle.races.proofs.Chained.{AreFloorsTo}
use Rattle.races.proofs.bounds.floors_of.Given as goal

abbrev pub invariant-loop-block : goal.invariant-loop-block
invariant-loop-block l = AreFloorsTo l.width l.block l.starts l.numbers l.floors.items
