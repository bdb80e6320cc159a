use Rattle.std.proofs.Common.{◌≡◌, ◌≤◌, ◌*◌, ◌^◌, length}
use Rattle.constraints.specs.Constraints.{sources_of, last_reads_from}
use Rattle.constraints.specs.SideEdges.{sum_pairs}
use Rattle.constraints.proofs.PairSums.{capped_reads}
use Rattle.constraints.proofs.side_edges.more_reads.Given as goal

abbrev pub invariant-loop-most : goal.invariant-loop-most
invariant-loop-most l = record {
  end : l.most-end ≡ length l.problem.threads;
  total : l.total ≡ sum_pairs (capped_reads (last_reads_from l.problem l.word) l.most) (sources_of l.problem l.word);
  few : l.total ≤ l.most * 2 ^ 39;
}
