use Rattle.std.proofs.Common.{◌≡◌, ◌≤◌, ◌*◌, ◌^◌, length}
use Rattle.std.specs.List.{count_by, sum_by, range_with_len}
use Rattle.constraints.specs.Constraints.{sources_of}
use Rattle.races.specs.Shut.{shuts}
use Rattle.races.proofs.count.shut_total.Given as goal

abbrev pub invariant-loop-place : goal.invariant-loop-place
invariant-loop-place l = record {
  total : l.total ≡ sum_by (λ i. count_by (shuts l.problem l.word i) (range_with_len 0 (length (sources_of l.problem l.word)))) (range_with_len 0 l.place);
  few : l.total ≤ l.place * 2 ^ 20;
}
