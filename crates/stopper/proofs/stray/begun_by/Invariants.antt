use Rattle.std.proofs.Common.{◌≡◌, ◌≤◌, length, take}
use Rattle.cut_laws.specs.Cuts.{begun}
use Rattle.stopper.proofs.stray.begun_by.Given as goal

abbrev pub invariant-loop-entry : goal.invariant-loop-entry
invariant-loop-entry l = record {
  value : l.begun.items ≡ begun l.number (take l.entry-index l.entries);
  few : length l.begun.items ≤ l.entry-index;
}
