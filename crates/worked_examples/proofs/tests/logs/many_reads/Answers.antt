use Rattle.std.proofs.Common.{◌%◌, Some, None, arith}
use Rattle.dep_log.specs.AccessLogs.{Access}
use Rattle.dep_log.proofs.AccessLogs.{RiseAbove-push, last_step-push}
use Rattle.worked_examples.proofs.tests.logs.many_reads.Goals as goal

pub loop-step-preserved : goal.loop-step-preserved
loop-step-preserved c =
    let n = c.loop-step.step in
    let access : Access = record { step = n; word = n % 50; saw = Some record { value = n; tag = c.unwrap_or-writer.result }; wrote = None } in
    let last = last_step-push 0 c.loop-step.accesses.items access in
    record {
      rise = rw c.in_ok-push.ensures.items (RiseAbove-push 0 c.loop-step.accesses.items access c.loop-step.invariant.rise c.loop-step.invariant.below);
      below = rw (c.in_ok-push.ensures.items, last) (omega arith);
    }
