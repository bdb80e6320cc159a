use Rattle.std.proofs.Common.{◌≡◌, ◌≤◌, length, take, leb}
use Rattle.std.specs.List.{count_by}
use Rattle.constraints.specs.Constraints.{sources_of, last_reads_from}
use Rattle.constraints.proofs.side_edges.count_up_to.Given as goal

abbrev pub invariant-loop-i : goal.invariant-loop-i
invariant-loop-i l = record {
  end : l.i-end ≡ length (sources_of l.problem l.word);
  count : l.count ≡ count_by (λ s. leb (length (last_reads_from l.problem l.word s)) l.most) (take l.i (sources_of l.problem l.word));
  few : l.count ≤ l.i;
}
