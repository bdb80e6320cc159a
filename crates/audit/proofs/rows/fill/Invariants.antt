use Rattle.std.proofs.Common.{take}
use Rattle.audit.specs.Rows.{AreFilled}
use Rattle.audit.proofs.rows.fill.Given as goal

abbrev pub invariant-loop-mark : goal.invariant-loop-mark
invariant-loop-mark l = AreFilled l.fn.rows.items (take l.mark-index l.marks) l.rows.items
