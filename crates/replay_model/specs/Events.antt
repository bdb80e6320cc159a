-- The events of a log: the steps that an order of it places.
use Rattle.std.specs.Prelude.{◌≡◌, ℕ, Bool, ◌||◌, ◌==◌, Some, List, [], ◌∷◌, Contains, ◌⊎◌}
use Rattle.std.specs.List.{list_any}
use Rattle.replay_model.specs.Steps.{Event, Tag, same_tag}
use Rattle.replay_model.specs.Threads.{Threads}
use Rattle.replay_model.specs.Histories.{World, next_event, move, keep_all}
use Rattle.replay_model.specs.ThreadLogs.{Entry}
use Rattle.replay_model.specs.Logs.{ThreadLog, Log, thread_of, HasEntry, first_event, last_event}

-- the step is a write that the log names: a source or a last tag
abbrev pub IsKept : Log → Event → Type 0
IsKept log event = ((t : ℕ) × (entry : Entry) × HasEntry log t entry × (entry.source ≡ Some event)) ⊎ Contains log.last_tags (Some event)

-- the step is the first or the last of an entry
abbrev pub IsBound : Log → Event → Type 0
IsBound log event = (t : ℕ) × (entry : Entry) × HasEntry log t entry × ((event ≡ first_event t entry) ⊎ (event ≡ last_event t entry))

-- the step is an event of the log; one that is so in several ways is one event
abbrev pub IsEvent : Log → Event → Type 0
IsEvent log event = IsKept log event ⊎ IsBound log event

-- whether the tag is a source in this thread's log
abbrev pub names_source : Tag → ThreadLog → Bool
names_source tag thread = list_any (λ (entry : Entry). same_tag entry.source tag) thread.entries

-- whether the step is a source or a last tag
abbrev pub keeps : Log → Event → Bool
keeps log event = list_any (names_source (Some event)) log.threads || list_any (same_tag (Some event)) log.last_tags

-- whether the step is the first or the last of an entry of its thread
abbrev pub is_bound : Log → Event → Bool
is_bound log event = list_any (λ (entry : Entry). (event.step == entry.first) || (event.step == entry.last)) (thread_of log event.thread).entries

-- whether the step is an event of the log
abbrev pub is_event : Log → Event → Bool
is_event log event = keeps log event || is_bound log event

-- the event that each step of a history is
unfoldable pub events_of : Threads → List ℕ → World → List Event
events_of threads [] world = []
events_of threads (t ∷ history) world = next_event t world ∷ events_of threads history (move threads keep_all t world)
