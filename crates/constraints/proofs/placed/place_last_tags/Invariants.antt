use Rattle.std.proofs.Common.{◌≡◌, map, take, option_map}
use Rattle.replay_model.specs.Orders.{place}
use Rattle.constraints.specs.Positions.{event_list}
use Rattle.constraints.proofs.placed.place_last_tags.Given as goal

abbrev pub invariant-loop-tag : goal.invariant-loop-tag
invariant-loop-tag l = l.last_tags.items ≡ map (option_map (place (event_list l.log))) (take l.tag-index l.tags)
