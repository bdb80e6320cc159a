use Rattle.batch.proofs.Joining.{one_more, done_more}
use Rattle.batch.proofs.parts.joined.Goals as goal

pub loop-part-preserved : goal.loop-part-preserved
loop-part-preserved c = record {
  done = done_more c.args.parts.now c.loop-part.part-index c.part-item.result c.in-Ok.verdicts c.loop-part-test.true c.part-item.is c.in-Ok.is c.loop-part.invariant.done;
  order = one_more c.args.parts.now c.loop-part.part-index c.part-item.result c.in-Ok.verdicts c.loop-part-test.true c.part-item.is c.in-Ok.is
      c.loop-part.all.items c.extend_from_slice.new.self.items c.loop-part.invariant.order _ c.deref.ensures.value c.in_ok-extend_from_slice-in-Ok.ensures.items;
}
