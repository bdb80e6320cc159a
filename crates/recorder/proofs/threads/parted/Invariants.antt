use Rattle.std.proofs.Common.{◌≡◌, map}
use Rattle.recorder.specs.Gathered.{hand_in, log_in, report_in}
use Rattle.recorder.proofs.threads.parted.Given as goal

abbrev pub invariant-loop-one : goal.invariant-loop-one
invariant-loop-one l = record {
  hands : l.hands.items ≡ map hand_in l.yielded;
  logs : l.logs.items ≡ map log_in l.yielded;
  reports : l.reports.items ≡ map report_in l.yielded;
}
