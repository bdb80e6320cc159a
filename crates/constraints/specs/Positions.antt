-- The events of a log in one list, and their positions in it, by which constraints name them.
use Rattle.std.specs.Prelude.{ℕ, Bool, List, length, map, filter, slice_index_or, ◌≡◌, true, ◌||◌, ◌&&◌, ◌==◌, nat_lt}
use Rattle.std.specs.List.{flat_map, range_with_len, AllPairs}
use Rattle.light_base.specs.declared.tag.Event.{Event}
use Rattle.replay_model.specs.Logs.{Log, thread_of}
use Rattle.replay_model.specs.Events.{is_event}
use Rattle.replay_model.specs.Orders.{place}

-- step number n of thread t
abbrev pub event : ℕ → ℕ → Event
event t n = record { thread = t; step = n }

-- the numbers of the log's threads
abbrev pub thread_numbers : Log → List ℕ
thread_numbers log = range_with_len 0 (length log.threads)

-- the events of thread t, by rising number
abbrev pub events_of_thread : Log → ℕ → List Event
events_of_thread log t = filter (is_event log) (map (event t) (range_with_len 1 (thread_of log t).steps))

-- the log's events, by thread and then by number
unfoldable pub event_list : Log → List Event
event_list log = flat_map (events_of_thread log) (thread_numbers log)

-- the number of events of each thread
unfoldable pub counts_of : Log → List ℕ
counts_of log = map (λ t. length (events_of_thread log t)) (thread_numbers log)

-- stands where a list has no event
abbrev pub no_event : Event
no_event = event 0 0

-- the event at a position
abbrev pub event_at : Log → ℕ → Event
event_at log p = slice_index_or (event_list log) p no_event

-- the position of an event
abbrev pub position_of : Log → Event → ℕ
position_of log e = place (event_list log) e

-- the positions of the events that pass the test, rising
abbrev pub positions_where : Log → (Event → Bool) → List ℕ
positions_where log test = filter (λ p. test (event_at log p)) (range_with_len 0 (length (event_list log)))

-- whether the one event comes before the other: by thread, and then by number
abbrev pub is_before : Event → Event → Bool
is_before a b = nat_lt a.thread b.thread || ((a.thread == b.thread) && nat_lt a.step b.step)

-- the events go by thread, and then by number
abbrev pub IsListed : List Event → Type 0
IsListed events = AllPairs (λ (a b : Event). is_before a b ≡ true) events
