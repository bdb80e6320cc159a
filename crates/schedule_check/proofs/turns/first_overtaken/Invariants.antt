use Rattle.schedule_check.proofs.Turning.{AreNearest}
use Rattle.schedule_check.proofs.turns.first_overtaken.Given as goal

abbrev pub invariant-loop-j : goal.invariant-loop-j
invariant-loop-j l = AreNearest l.order l.j l.nearest
