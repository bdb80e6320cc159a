use Rattle.std.proofs.Common.{◌≡◌, ◌≤◌, ◌-◌}
use Rattle.races.specs.Shut.{shuts}
use Rattle.races.proofs.Ranges.{counted}
use Rattle.races.proofs.count.back_count.Given as goal

abbrev pub invariant-loop-place : goal.invariant-loop-place
invariant-loop-place l = record {
  low : l.from ≤ l.place;
  high : l.place ≤ l.to;
  count : l.count ≡ counted (λ j. shuts l.problem l.row.word j l.row.place) l.from l.place;
  few : l.count ≤ l.place - l.from;
}
