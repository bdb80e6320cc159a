use Rattle.std.proofs.Common.{◌≡◌, ◌≤◌, ◌*◌, ◌^◌, length, take}
use Rattle.races.specs.Shut.{base_edges}
use Rattle.races.specs.Openings.{IsTally}
use Rattle.races.proofs.Opened.{pairs_below, open_below}
use Rattle.races.proofs.open.open_by.Given as goal

abbrev pub invariant-loop-word : goal.invariant-loop-word
invariant-loop-word l = record {
  end : l.word-end ≡ length l.problem.last_tags;
  tally : IsTally (base_edges l.problem) (pairs_below l.problem l.word) l.all;
  few : l.all.pairs ≤ l.word * 2 ^ 39;
  first : l.first.items ≡ take l.most (open_below l.problem l.word);
}
