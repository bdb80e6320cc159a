use Rattle.std.proofs.Common.{◌≡◌, map, take}
use Rattle.audit.specs.Tables.{starts_in}
use Rattle.audit.proofs.counting.all_starts.Given as goal

abbrev pub invariant-loop-row : goal.invariant-loop-row
invariant-loop-row l = l.starts.items ≡ map (starts_in l.steps l.threads) (take l.row-index l.rows)
