use Rattle.audit.proofs.Rowing.{OrderedUpTo}
use Rattle.audit.proofs.rows.order_all.Given as goal

abbrev pub invariant-loop-row : goal.invariant-loop-row
invariant-loop-row l = OrderedUpTo l.fn.rows.items l.row l.rows.items
