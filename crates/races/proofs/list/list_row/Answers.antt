use Rattle.std.proofs.Common.{◌∙◌, arith}
use Rattle.constraints.proofs.SideEdges.{sources_few}
use Rattle.races.proofs.Fronts.{row-in}
use Rattle.races.proofs.Listing.{row-begun, row-pushed, next-here}
use Rattle.races.proofs.list.list_row.Goals as goal

pub overflow_add-row : goal.overflow_add-row
overflow_add-row c =
    let n = sources_few c.args.problem.now c.args.row.word c.events-events.ensures.rules in
    let l = row-in c.args.problem.now c.args.row c.requires.row in
    omega (arith, n, l)

pub overflow_add-at : goal.overflow_add-at
overflow_add-at c =
    let n = sources_few c.args.problem.now c.args.row.word c.events-events.ensures.rules in
    let h = c.loop-at.invariant.high in
    omega (arith, n, h)

pub loop-at-init : goal.loop-at-init
loop-at-init c =
    let n = c.next_open-at.ensures in
    let l = n.low in
    record {
      low = omega (arith, l);
      high = n.high;
      next = next-here _ _ _ _ n;
      few = c.requires.most;
      list = row-begun c.args.problem.now c.args.row.word c.args.row.place c.next_open-at.result c.args.most c.args.first.now.items n;
    }

pub loop-at-preserved : goal.loop-at-preserved
loop-at-preserved c =
    let n = c.next_open-at-in-loop-at.ensures in
    let l = n.low in
    let v = c.loop-at.invariant in
    let a = v.low in
    let z = c.in_ok-push.ensures.len in
    let f = c.if-len-most.true in
    let q = c.len.ensures in
    let w = v.few in
    let s = c.requires.table.sources in
    let t = c.loop-at-test.true in
    record {
      low = omega (arith, l, a);
      high = n.high;
      next = next-here _ _ _ _ n;
      few = omega arith;
      list = row-pushed c.args.problem.now c.args.row.word c.args.row.place c.loop-at.at c.next_open-at-in-loop-at.result c.args.most c.loop-at.first.items c.push.new.self.items c.pair_with.result
          (omega (arith, s, t)) v.next n c.pair_with.ensures c.in_ok-push.ensures.items ∙ v.list;
    }
