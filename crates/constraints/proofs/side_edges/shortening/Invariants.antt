use Rattle.std.proofs.Common.{◌≡◌, ◌≤◌, ◌&&◌, take, get_or}
use Rattle.std.specs.List.{count_by}
use Rattle.constraints.specs.Constraints.{sources_of, last_reads_from, last_reads_of}
use Rattle.constraints.specs.SideEdges.{has, shortens}
use Rattle.constraints.proofs.side_edges.shortening.Given as goal

abbrev pub invariant-loop-last : goal.invariant-loop-last
invariant-loop-last l = record {
  count : l.count ≡ count_by (λ t. has (sources_of l.problem l.word) t && shortens (last_reads_of l.problem l.word l.i) (get_or (sources_of l.problem l.word) l.i 0) (last_reads_from l.problem l.word t) t)
      (take l.last-index l.reads);
  few : l.count ≤ l.last-index;
}
