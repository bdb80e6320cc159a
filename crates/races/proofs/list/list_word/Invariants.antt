use Rattle.std.proofs.Common.{◌≡◌, ◌≤◌, ◌-◌, ◌++◌, length, take}
use Rattle.races.specs.Openings.{open_at}
use Rattle.races.proofs.Listing.{rows_from}
use Rattle.races.proofs.list.list_word.Given as goal

abbrev pub invariant-loop-place : goal.invariant-loop-place
invariant-loop-place l = record {
  high : l.place ≤ l.table.sources;
  few : length l.first.items ≤ l.most;
  list : take l.most (l.first.items ++ rows_from l.problem l.word l.place) ≡ take l.most (l.initial.first.items ++ open_at l.problem l.word);
}

abbrev pub decreases-loop-place : goal.decreases-loop-place
decreases-loop-place l = l.table.sources - l.place
