use Rattle.std.proofs.Common.{◌≡◌, ◌≤◌, ◌*◌, length, take}
use Rattle.std.specs.List.{sum_by}
use Rattle.constraints.specs.Constraints.{sources_of, last_reads_from}
use Rattle.constraints.specs.SideEdges.{shortening}
use Rattle.constraints.proofs.side_edges.all_shortening.Given as goal

abbrev pub invariant-loop-i : goal.invariant-loop-i
invariant-loop-i l = record {
  end : l.i-end ≡ length (sources_of l.problem l.word);
  total : l.total ≡ sum_by (shortening (last_reads_from l.problem l.word) (sources_of l.problem l.word)) (take l.i (sources_of l.problem l.word));
  few : l.total ≤ 15 * l.i;
}
