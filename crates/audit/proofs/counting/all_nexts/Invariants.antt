use Rattle.std.proofs.Common.{◌≡◌, ◌<◌, ℕ, length}
use Rattle.audit.specs.Rows.{row_at}
use Rattle.audit.specs.Tables.{AreNexts}
use Rattle.audit.proofs.counting.all_nexts.Given as goal

abbrev pub invariant-loop-row : goal.invariant-loop-row
invariant-loop-row l = record {
  many : length l.nexts.items ≡ l.row-index;
  each : (k : ℕ) → k < l.row-index → AreNexts l.lasts (row_at l.rows k) (row_at l.nexts.items k);
}
