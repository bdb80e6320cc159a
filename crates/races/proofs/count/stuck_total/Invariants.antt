use Rattle.std.proofs.Common.{◌≡◌, ◌≤◌, ◌*◌, ◌^◌, ◌+◌, ◌-◌, length}
use Rattle.std.specs.List.{count_by, sum_by, range_with_len}
use Rattle.constraints.specs.Constraints.{sources_of}
use Rattle.races.specs.Tables.{sticks}
use Rattle.races.proofs.count.stuck_total.Given as goal

abbrev pub invariant-loop-place : goal.invariant-loop-place
invariant-loop-place l = record {
  total : l.total ≡ sum_by (λ i. count_by (sticks l.problem l.word i) (range_with_len (i + 1) (length (sources_of l.problem l.word) - (i + 1)))) (range_with_len 0 l.place);
  few : l.total ≤ l.place * 2 ^ 20;
}
