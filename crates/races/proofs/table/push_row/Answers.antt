use Rattle.std.proofs.Common.{arith}
use Rattle.races.proofs.Based.{counts-length}
use Rattle.races.proofs.Tabled.{ends-begin, ends-more, ends-done}
use Rattle.races.proofs.table.push_row.Goals as goal

pub loop-thread-init : goal.loop-thread-init
loop-thread-init c = record {
  end = counts-length c.args.problem.now c.counts-thread-end.result.now c.events-events.ensures.rules c.counts-thread-end.ensures;
  ends = ends-begin c.args.problem.now c.args.source.word _ c.args.source.place c.args.ends.now.items c.requires.ends;
}

pub loop-thread-preserved : goal.loop-thread-preserved
loop-thread-preserved c = record {
  end = c.loop-thread.invariant.end;
  ends = ends-more c.args.problem.now c.args.source.word _ c.args.source.place c.loop-thread.thread c.loop-thread.ends.items c.push.new.self.items c.shut_end.result c.in_ok-push.ensures.items
      (let e = c.loop-thread.invariant.end in let t = c.loop-thread-test.true in omega (arith, e, t)) c.shut_end.ensures c.loop-thread.invariant.ends;
}

pub returns : goal.returns
returns c = ends-done c.args.problem.now c.args.source.word _ c.args.source.place c.loop-thread.thread c.loop-thread.ends.items
    (let e = c.loop-thread.invariant.end in let a = c.loop-thread.auto.thread-end in omega (arith, e, a)) c.loop-thread.invariant.ends
