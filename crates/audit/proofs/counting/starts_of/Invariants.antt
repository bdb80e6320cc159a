use Rattle.std.proofs.Common.{◌≡◌, map}
use Rattle.std.specs.List.{range_with_len, count_by}
use Rattle.audit.specs.Tables.{below}
use Rattle.audit.proofs.counting.starts_of.Given as goal

abbrev pub invariant-loop-t : goal.invariant-loop-t
invariant-loop-t l = l.starts.items ≡ map (λ t. count_by (below l.steps t) l.positions) (range_with_len 0 l.t)
