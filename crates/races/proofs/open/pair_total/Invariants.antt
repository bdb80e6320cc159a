use Rattle.std.proofs.Common.{◌≡◌, ◌≤◌, ◌*◌, ◌^◌, length}
use Rattle.races.proofs.Opened.{pairs_below}
use Rattle.races.proofs.open.pair_total.Given as goal

abbrev pub invariant-loop-word : goal.invariant-loop-word
invariant-loop-word l = record {
  end : l.word-end ≡ length l.problem.last_tags;
  total : l.total ≡ length (pairs_below l.problem l.word);
  few : l.total ≤ l.word * 2 ^ 39;
}
