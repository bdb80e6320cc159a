use Rattle.std.proofs.Common.{arith}
use Rattle.order_judge.proofs.Sorting.{numbered_all}
use Rattle.order_judge.proofs.sorted.with_numbers.Goals as goal

pub returns : goal.returns
returns c =
    let (count, items) = c.loop-i.invariant in
    numbered_all c.args.ranges.now c.loop-i.all.items (omega arith) (λ k l. items k (omega (arith, l)))
