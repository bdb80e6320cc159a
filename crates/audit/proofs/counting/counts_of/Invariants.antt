use Rattle.std.proofs.Common.{◌≡◌, map, eqb}
use Rattle.std.specs.List.{range_with_len, count_by}
use Rattle.light_base.specs.declared.tag.Event.{Event}
use Rattle.audit.proofs.counting.counts_of.Given as goal

abbrev pub invariant-loop-t : goal.invariant-loop-t
invariant-loop-t l = l.counts.items ≡ map (λ t. count_by (λ (step : Event). eqb step.thread t) l.steps) (range_with_len 0 l.t)
