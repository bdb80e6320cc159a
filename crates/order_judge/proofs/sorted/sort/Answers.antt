use Rattle.order_judge.proofs.Sorting.{numbered-moved, sorted_by}
use Rattle.order_judge.proofs.sorted.sort.Goals as goal

pub returns-clause-numbered : goal.returns-clause-numbered
returns-clause-numbered c =
    numbered-moved c.args.ranges.now c.in_ok-sorted.sorted.items c.sort_unstable.new.self.items c.sort_unstable.ensures.permutation c.in_ok-sorted.ensures

pub returns-clause-sorted : goal.returns-clause-sorted
returns-clause-sorted c = sorted_by c.sort_unstable.new.self.items c.sort_unstable.ensures.sorted
