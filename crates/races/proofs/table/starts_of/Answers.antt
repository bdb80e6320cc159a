use Rattle.std.proofs.Common.{arith}
use Rattle.races.proofs.Based.{counts-length}
use Rattle.races.proofs.Tabled.{starts-none, starts-more, starts-done}
use Rattle.races.proofs.table.starts_of.Goals as goal

pub loop-thread-init : goal.loop-thread-init
loop-thread-init c = record {
  end = counts-length c.args.problem.now c.counts-thread-end.result.now c.events-events.ensures.rules c.counts-thread-end.ensures;
  starts = starts-none c.args.problem.now c.args.word c.new-starts.result.items c.push.new.self.items c.new-starts.ensures.items c.in_ok-push.ensures.items;
}

pub loop-thread-preserved : goal.loop-thread-preserved
loop-thread-preserved c = record {
  end = c.loop-thread.invariant.end;
  starts = starts-more c.args.problem.now c.args.word c.loop-thread.thread c.loop-thread.starts.items c.push-in-loop-thread.new.self.items c.group.result.1 c.in_ok-push-2.ensures.items c.group.ensures.end c.loop-thread.invariant.starts;
}

pub returns : goal.returns
returns c = starts-done c.args.problem.now c.args.word c.loop-thread.thread c.loop-thread.starts.items c.events-events.ensures.rules (let e = c.loop-thread.invariant.end in let a = c.loop-thread.auto.thread-end in omega (arith, e, a)) c.loop-thread.invariant.starts
