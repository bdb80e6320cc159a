use Rattle.schedule_check.specs.Ranks.{AreTimely}
use Rattle.schedule_check.proofs.ranks.first_untimely.Given as goal

abbrev pub invariant-loop-i : goal.invariant-loop-i
invariant-loop-i l = AreTimely l.places l.entries l.i
