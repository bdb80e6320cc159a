use Rattle.std.proofs.Common.{rules}
use Rattle.std.proofs.lemmas.List.Sorted.{IsPartitionPoint-from_clause}
use Rattle.constraints.specs.Building.{is_read_up_to}
use Rattle.constraints.proofs.Points.{point-count}
use Rattle.constraints.proofs.Rowing.{read-partitioned}
use Rattle.constraints.proofs.reads.key_end.Goals as goal

pub returns : goal.returns
returns c =
    point-count (is_read_up_to c.args.key.now) c.args.reads.now c.partition_point.result c.partition_point.ensures.bound
    (IsPartitionPoint-from_clause (is_read_up_to c.args.key.now) c.args.reads.now c.partition_point.result c.partition_point.ensures.partitioned
    (read-partitioned c.args.reads.now c.requires c.args.key.now) (λ a r f' k. search rules))
