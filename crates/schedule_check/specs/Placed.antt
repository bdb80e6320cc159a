-- An order that has each event of a log once.
use Rattle.std.specs.Prelude.{◌≡◌, ℕ, ◌+◌, ◌<◌, ◌^◌, None, All, List, length, slice_index}
use Rattle.light_base.specs.declared.tag.Event.{Event}
use Rattle.replay_model.specs.Logs.{Log}
use Rattle.replay_model.specs.Events.{IsEvent}
use Rattle.replay_model.specs.Orders.{place}
use Rattle.replay_model.specs.WellFormed.{IsWellFormed}
use Rattle.constraints.specs.Positions.{event_list}
use Rattle.schedule_check.specs.Faults.{first_unknown, first_twice, first_missing}

-- no position of the order holds no event or one that stands earlier too, and no event is missing
pub record HasEachOnce (log : Log) (order : List Event) : Type 0 where
  pub unknown : first_unknown log order ≡ None
  pub twice : first_twice order ≡ None
  pub missing : first_missing log order ≡ None

-- these are the log's events, and for each one its place in the order
pub record IsPlaced (log : Log) (order events : List Event) (places : List ℕ) : Type 0 where
  pub formed : IsWellFormed log
  pub listed : events ≡ event_list log
  pub each_once : HasEachOnce log order
  pub count : length places ≡ length events
  pub same : (e : Event) → IsEvent log e → slice_index places (place events e) ≡ place order e
  pub small : All (λ k. k + 1 < 2 ^ 32) places
