use Rattle.std.proofs.Common.{◌≡◌, ◌≤◌, take}
use Rattle.std.specs.List.{count_by}
use Rattle.audit.specs.Tables.{below}
use Rattle.audit.proofs.counting.count_below.Given as goal

abbrev pub invariant-loop-position : goal.invariant-loop-position
invariant-loop-position l = record {
  is : l.count ≡ count_by (below l.steps l.thread) (take l.position-index l.positions);
  few : l.count ≤ l.position-index;
}
