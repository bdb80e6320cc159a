use Rattle.std.proofs.Common.{◌≡◌, ◌≤◌, ◌<◌, ◌-◌, ◌++◌, length, take}
use Rattle.constraints.specs.Constraints.{sources_of}
use Rattle.races.specs.Openings.{open_row}
use Rattle.races.specs.Tables.{IsNext, opens}
use Rattle.races.proofs.Listing.{row_from}
use Rattle.races.proofs.list.list_row.Given as goal

abbrev pub invariant-loop-at : goal.invariant-loop-at
invariant-loop-at l = record {
  low : l.row.place < l.at;
  high : l.at ≤ length (sources_of l.problem l.row.word);
  next : IsNext (opens l.problem l.row.word l.row.place) l.at (length (sources_of l.problem l.row.word)) l.at;
  few : length l.first.items ≤ l.most;
  list : take l.most (l.first.items ++ row_from l.problem l.row.word l.row.place l.at) ≡ take l.most (l.initial.first.items ++ open_row l.problem l.row.word l.row.place);
}

abbrev pub decreases-loop-at : goal.decreases-loop-at
decreases-loop-at l = l.table.sources - l.at
