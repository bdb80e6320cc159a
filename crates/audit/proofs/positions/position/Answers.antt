use Rattle.std.proofs.Common.{rules}
use Rattle.std.proofs.lemmas.List.Sorted.{IsPartitionPoint-from_clause}
use Rattle.replay_model.specs.Steps.{Event}
use Rattle.constraints.specs.Positions.{is_before}
use Rattle.constraints.proofs.Listing.{listed-partitioned, point-place}
use Rattle.audit.proofs.positions.position.Goals as goal

pub returns : goal.returns
returns c =
    point-place c.args.steps.now c.args.step c.partition_point.result c.requires.order c.requires.listed c.partition_point.ensures.bound
    (IsPartitionPoint-from_clause (λ (x : Event). is_before x c.args.step) c.args.steps.now c.partition_point.result c.partition_point.ensures.partitioned
    (listed-partitioned c.args.steps.now c.args.step c.requires.order) (λ a r f' k. search rules))
