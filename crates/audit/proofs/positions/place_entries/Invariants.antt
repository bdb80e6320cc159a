use Rattle.std.proofs.Common.{◌≡◌, map}
use Rattle.std.specs.List.{flat_map, range_with_len}
use Rattle.replay_model.specs.Logs.{thread_of}
use Rattle.constraints.specs.Building.{placed_in}
use Rattle.audit.proofs.positions.place_entries.Given as goal

abbrev pub invariant-loop-t : goal.invariant-loop-t
invariant-loop-t l = l.placed.items ≡ flat_map (λ t. map (placed_in l.steps t) (thread_of l.log t).entries) (range_with_len 0 l.t)
