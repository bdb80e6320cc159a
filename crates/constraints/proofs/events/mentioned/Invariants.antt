use Rattle.std.proofs.Common.{◌≡◌}
use Rattle.std.specs.List.{flat_map, range_with_len}
use Rattle.replay_model.specs.Logs.{thread_of}
use Rattle.constraints.specs.Building.{mentioned_by}
use Rattle.constraints.proofs.events.mentioned.Given as goal

abbrev pub invariant-loop-t : goal.invariant-loop-t
invariant-loop-t l = l.tags.items ≡ flat_map (λ t. flat_map (mentioned_by t) (thread_of l.log t).entries) (range_with_len 0 l.t)
