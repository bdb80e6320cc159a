use Rattle.audit.proofs.Filling.{FilledFrom}
use Rattle.audit.proofs.next_places.next_set.Given as goal

abbrev pub invariant-loop-left : goal.invariant-loop-left
invariant-loop-left l = FilledFrom l.set l.left l.next.items

abbrev pub decreases-loop-left : goal.decreases-loop-left
decreases-loop-left l = l.left
