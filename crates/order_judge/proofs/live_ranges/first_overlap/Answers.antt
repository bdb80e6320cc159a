use Rattle.std.proofs.Common.{arith}
use Rattle.order_judge.proofs.Overlaps.{AreFound, found-none, found_other, found_first}
use Rattle.order_judge.proofs.live_ranges.first_overlap.Goals as goal

pub returns-then-first-ranges : goal.returns-then-first-ranges
returns-then-first-ranges c =
    let f : AreFound c.args.ranges.now c.in_ok-sorted.sorted.items c.first_inside.result c.first_around.result = record {
      numbered = c.in_ok-sorted.ensures.numbered;
      inside_is = rw c.deref.ensures.value at c.first_inside.ensures;
      around_is = rw c.deref-2.ensures.value at c.first_around.ensures;
    } in
    found-none c.args.ranges.now c.in_ok-sorted.sorted.items c.first_inside.result c.first_around.result f (omega arith)

pub returns-in_default : goal.returns-in_default
returns-in_default c =
    let f : AreFound c.args.ranges.now c.in_ok-sorted.sorted.items c.first_inside.result c.first_around.result = record {
      numbered = c.in_ok-sorted.ensures.numbered;
      inside_is = rw c.deref.ensures.value at c.first_inside.ensures;
      around_is = rw c.deref-2.ensures.value at c.first_around.ensures;
    } in
    absurd (found_other c.args.ranges.now c.in_ok-sorted.sorted.items c.first_inside.result c.first_around.result c.min-first.result f c.requires c.min-first.ensures c.if-first-ranges.false c.in_default.ensures)

pub returns : goal.returns
returns c =
    let f : AreFound c.args.ranges.now c.in_ok-sorted.sorted.items c.first_inside.result c.first_around.result = record {
      numbered = c.in_ok-sorted.ensures.numbered;
      inside_is = rw c.deref.ensures.value at c.first_inside.ensures;
      around_is = rw c.deref-2.ensures.value at c.first_around.ensures;
    } in
    let (l, o, before) = c.in-Some.ensures in
    found_first c.args.ranges.now c.in_ok-sorted.sorted.items c.first_inside.result c.first_around.result c.min-first.result c.in-Some.second f c.min-first.ensures c.if-first-ranges.false l o before
