use Rattle.std.proofs.Common.{◌≡◌, map, take, option_map}
use Rattle.replay_model.specs.Orders.{place}
use Rattle.audit.proofs.positions.place_last_tags.Given as goal

abbrev pub invariant-loop-tag : goal.invariant-loop-tag
invariant-loop-tag l = l.last_tags.items ≡ map (option_map (place l.steps)) (take l.tag-index l.tags)
