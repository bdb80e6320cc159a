use Rattle.std.proofs.Common.{arith}
use Rattle.recorder.proofs.Endings.{begun-each, given-order}
use Rattle.recorder.proofs.groups.hands_back.Goals as goal

pub loop-runner-preserved : goal.loop-runner-preserved
loop-runner-preserved c =
    let old = c.loop-runner.runners.items in
    let new = c.pop.new.self.items in
    record {
      order = given-order old new c.in-Some.runner c.in-Some.ensures.items c.loop-runner.hands.items c.push_reserved.new.self.items c.into_hand.result c.push_reserved.ensures.items c.into_hand.ensures.hand _ c.loop-runner.invariant.order;
      begun = λ words p limits inputs runs hands. begun-each old new c.in-Some.runner c.in-Some.ensures.items c.loop-runner.hands.items c.push_reserved.new.self.items c.into_hand.result c.push_reserved.ensures.items c.into_hand.ensures.hand c.into_hand.ensures.begun
          words p limits inputs (c.loop-runner.invariant.begun words p limits inputs runs hands);
      room = let before = c.loop-runner.invariant.room in let popped = c.in-Some.ensures.len in let pushed = c.push_reserved.ensures.len in let same = c.push_reserved.ensures.capacity in omega (arith, before, popped, pushed, same);
    }
