use Rattle.std.proofs.Common.{rules, leb}
use Rattle.std.proofs.lemmas.List.Sorted.{IsPartitionPoint-from_clause}
use Rattle.constraints.specs.declared.reads.Key.{Key}
use Rattle.constraints.proofs.Points.{point-count}
use Rattle.constraints.proofs.Rowing.{word-partitioned}
use Rattle.constraints.proofs.reads.word_end.Goals as goal

pub returns : goal.returns
returns c =
    point-count (λ (k : Key). leb k.word c.args.word) c.args.keys.now c.partition_point.result c.partition_point.ensures.bound
    (IsPartitionPoint-from_clause (λ (k : Key). leb k.word c.args.word) c.args.keys.now c.partition_point.result c.partition_point.ensures.partitioned
    (word-partitioned c.args.keys.now c.requires c.args.word) (λ a r f' k. search rules))
