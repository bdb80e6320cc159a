use Rattle.std.proofs.Common.{◌≡◌, ◌≤◌, length, map, take, slice_index_or}
use Rattle.std.specs.Prelude.{vec_capacity}
use Rattle.constraints.specs.Positions.{no_event}
use Rattle.order_solver.proofs.solving.put_events.Given as goal

abbrev pub invariant-loop-position : goal.invariant-loop-position
invariant-loop-position l = record {
  events : l.order.items ≡ map (λ p. slice_index_or l.events p no_event) (take l.position-index l.positions);
  room : length l.positions ≤ vec_capacity l.order;
}
