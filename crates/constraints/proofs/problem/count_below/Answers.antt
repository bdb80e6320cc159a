use Rattle.std.proofs.Common.{rules, ltb}
use Rattle.std.proofs.lemmas.List.Sorted.{IsPartitionPoint-from_clause}
use Rattle.constraints.proofs.Points.{point-count}
use Rattle.constraints.proofs.Groups.{rising-partitioned}
use Rattle.constraints.proofs.problem.count_below.Goals as goal

pub returns : goal.returns
returns c =
    point-count (λ p. ltb p c.args.bound) c.args.positions.now c.partition_point.result c.partition_point.ensures.bound
    (IsPartitionPoint-from_clause (λ p. ltb p c.args.bound) c.args.positions.now c.partition_point.result c.partition_point.ensures.partitioned
    (rising-partitioned c.args.positions.now c.args.bound c.requires.rising) (λ a r f' k. search rules))
