-- The tests on events of a log.
use Rattle.std.specs.Prelude.{◌≡◌, ◌↔◌, true}
use Rattle.replay_model.specs.Steps.{Event}
use Rattle.replay_model.specs.Logs.{Log}
use Rattle.replay_model.specs.Events.{IsKept, IsEvent, keeps, is_event}

-- the skip play makes exactly the writes that the log names
abbrev pub KeptIsDecided : Type 0
KeptIsDecided = (log : Log) (event : Event) → (keeps log event ≡ true) ↔ IsKept log event

-- a history's order has exactly the events of the log
abbrev pub EventsAreDecided : Type 0
EventsAreDecided = (log : Log) (event : Event) → (is_event log event ≡ true) ↔ IsEvent log event
