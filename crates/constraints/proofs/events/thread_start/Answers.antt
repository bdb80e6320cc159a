use Rattle.std.proofs.Common.{rules, ltb}
use Rattle.std.proofs.lemmas.List.Sorted.{IsPartitionPoint-from_clause}
use Rattle.replay_model.specs.Steps.{Event}
use Rattle.constraints.proofs.Points.{point-count, thread-partitioned}
use Rattle.constraints.proofs.events.thread_start.Goals as goal

pub returns : goal.returns
returns c =
    point-count (λ (e : Event). ltb e.thread c.args.t) c.args.events.now c.partition_point.result c.partition_point.ensures.bound
    (IsPartitionPoint-from_clause (λ (e : Event). ltb e.thread c.args.t) c.args.events.now c.partition_point.result c.partition_point.ensures.partitioned
    (thread-partitioned c.args.events.now c.args.t c.requires.order) (λ a r f' k. search rules))
