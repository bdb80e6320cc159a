use Rattle.std.proofs.Common.{◌≤◌}
use Rattle.races.proofs.Chained.{AreLowered}
use Rattle.races.proofs.bounds.lower.Given as goal

abbrev pub invariant-loop-k : goal.invariant-loop-k
invariant-loop-k l = record {
  low : l.from ≤ l.k;
  lowered : AreLowered l.step l.k l.to l.fn.floors.items l.floors.items;
}
