use Rattle.std.proofs.Common.{◌<◌}
use Rattle.dep_log.specs.AccessLogs.{RiseAbove}
use Rattle.dep_log.proofs.AccessLogs.{last_step}
use Rattle.worked_examples.proofs.tests.logs.many_reads.Given as goal

abbrev pub invariant-loop-step : goal.invariant-loop-step
invariant-loop-step l = record {
  rise : RiseAbove 0 l.accesses.items;
  below : last_step 0 l.accesses.items < l.step;
}
