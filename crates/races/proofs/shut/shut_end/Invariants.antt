use Rattle.std.proofs.Common.{◌≡◌, ℕ, ◌-◌, ◌<◌, ◌≤◌, true, false}
use Rattle.constraints.specs.Constraints.{group_of}
use Rattle.races.specs.Shut.{shuts}
use Rattle.races.proofs.shut.shut_end.Given as goal

abbrev pub invariant-loop-low : goal.invariant-loop-low
invariant-loop-low l = record {
  low : (group_of l.problem l.first.word l.thread).0 ≤ l.low;
  order : l.low ≤ l.high;
  high : l.high ≤ (group_of l.problem l.first.word l.thread).1;
  before : (j : ℕ) → (group_of l.problem l.first.word l.thread).0 ≤ j → j < l.low → shuts l.problem l.first.word l.first.place j ≡ true;
  after : (j : ℕ) → l.high ≤ j → j < (group_of l.problem l.first.word l.thread).1 → shuts l.problem l.first.word l.first.place j ≡ false;
}

abbrev pub decreases-loop-low : goal.decreases-loop-low
decreases-loop-low l = l.high - l.low
