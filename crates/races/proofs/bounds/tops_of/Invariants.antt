use Rattle.races.proofs.Chained.{AreTopsTo}
use Rattle.races.proofs.bounds.tops_of.Given as goal

abbrev pub invariant-loop-block : goal.invariant-loop-block
invariant-loop-block l = AreTopsTo l.width l.block l.starts l.numbers l.tops.items
