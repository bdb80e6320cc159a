use Rattle.std.proofs.Common.{◌≡◌, ◌++◌, Some, map, take}
use Rattle.light_base.specs.declared.tag.Event.{Event}
use Rattle.audit.proofs.placed.put_tags.Given as goal

abbrev pub invariant-loop-event : goal.invariant-loop-event
invariant-loop-event l = l.tags.items ≡ l.fn.tags.items ++ map (λ (e : Event). Some e) (take l.event-index l.events)
