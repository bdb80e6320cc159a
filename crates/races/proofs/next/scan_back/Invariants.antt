use Rattle.std.proofs.Common.{◌≡◌, ◌≤◌, ◌<◌, ◌-◌, ℕ, true}
use Rattle.races.specs.Shut.{shuts}
use Rattle.races.proofs.next.scan_back.Given as goal

abbrev pub invariant-loop-place : goal.invariant-loop-place
invariant-loop-place l = record {
  low : l.from ≤ l.place;
  high : l.place ≤ l.to;
  shut : (j : ℕ) → l.from ≤ j → j < l.place → shuts l.problem l.row.word j l.row.place ≡ true;
}

abbrev pub decreases-loop-place : goal.decreases-loop-place
decreases-loop-place l = l.to - l.place
