use Rattle.std.proofs.Common.{arith}
use Rattle.recorder.specs.Running.{IsAtEnd}
use Rattle.recorder.proofs.Endings.{front-all, ended-order, ended-each}
use Rattle.recorder.proofs.groups.finish_all.Goals as goal

pub loop-runner-preserved : goal.loop-runner-preserved
loop-runner-preserved c =
    let old = c.loop-runner.runners.items in
    let new = c.pop.new.self.items in
    record {
      each = λ words p limits inputs h. ended-each old new c.in-Some.runner c.in-Some.ensures.items c.loop-runner.all.items c.push_reserved.new.self.items c.finish.result c.push_reserved.ensures.items c.finish.ensures.hand c.finish.ensures.run words p limits inputs
          (c.loop-runner.invariant.each words p limits inputs h);
      ended = front-all IsAtEnd old new c.in-Some.runner c.in-Some.ensures.items c.loop-runner.invariant.ended;
      order = ended-order old new c.in-Some.runner c.in-Some.ensures.items c.loop-runner.all.items c.push_reserved.new.self.items c.finish.result c.push_reserved.ensures.items c.finish.ensures.hand _ c.loop-runner.invariant.order;
      room = let before = c.loop-runner.invariant.room in let popped = c.in-Some.ensures.len in let pushed = c.push_reserved.ensures.len in let same = c.push_reserved.ensures.capacity in omega (arith, before, popped, pushed, same);
    }
