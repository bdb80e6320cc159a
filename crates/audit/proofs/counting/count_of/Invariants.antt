use Rattle.std.proofs.Common.{◌≡◌, ◌≤◌, take, eqb}
use Rattle.std.specs.List.{count_by}
use Rattle.light_base.specs.declared.tag.Event.{Event}
use Rattle.audit.proofs.counting.count_of.Given as goal

abbrev pub invariant-loop-step : goal.invariant-loop-step
invariant-loop-step l = record {
  is : l.count ≡ count_by (λ (step : Event). eqb step.thread l.thread) (take l.step-index l.steps);
  few : l.count ≤ l.step-index;
}
