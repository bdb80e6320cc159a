use Rattle.std.proofs.Common.{◌≡◌, ◌≤◌, ◌*◌, ◌^◌, length}
use Rattle.constraints.proofs.SideEdges.{side_edges_up_to}
use Rattle.constraints.proofs.problem.Problem.side_edges.Given as goal

abbrev pub invariant-loop-word : goal.invariant-loop-word
invariant-loop-word l = record {
  end : l.word-end ≡ length l.self.last_tags;
  total : l.total ≡ side_edges_up_to l.self l.word;
  few : l.total ≤ l.word * 2 ^ 43;
}
