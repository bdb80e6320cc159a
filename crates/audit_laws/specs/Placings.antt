-- Orders that place the writes of runs that fit a log, also those that no read saw.
use Rattle.std.specs.Prelude.{◌≡◌, ◌≢◌, ℕ, ◌-◌, ◌<◌, ◌≤◌, Bool, ◌||◌, is_some, Some, List, [], ◌∷◌, ◌++◌, ◌⊎◌}
use Rattle.std.specs.Prelude.{length, slice_index_or, slice_set, replicate, filter, Contains}
use Rattle.replay_model.specs.Steps.{Event, Step, wrote}
use Rattle.replay_model.specs.Threads.{Threads}
use Rattle.replay_model.specs.Histories.{opening}
use Rattle.replay_model.specs.declared.Entry.{Entry}
use Rattle.replay_model.specs.Logs.{Log, HasEntry, last_tag, first_event, last_event}
use Rattle.replay_model.specs.Events.{IsEvent, is_event, events_of}
use Rattle.replay_model.specs.Orders.{place}
use Rattle.replay_model.specs.Fitting.{step_at, HasWritten}
use Rattle.replay_model.specs.WholeHistories.{played}

-- the step has a place: it is an event of the log, or it wrote
abbrev pub IsPlaced : Log → List (List Step) → Event → Type 0
IsPlaced log runs event = IsEvent log event ⊎ ((word value : ℕ) × HasWritten runs event word value)

-- A placing: the order has each event of the log and each write of the runs once and nothing else; those of one thread stand by rising number; a source
-- stands before the first read of it; each other write to an entry's word stands no earlier than the entry's last read, or before its source (initial
-- contents have none); and no write to a word stands after its last tag: where that is initial, no step wrote the word.
-- A step that reads and then writes may be both, the last read of one write and the other write
pub record Places (log : Log) (runs : List (List Step)) (order : List Event) : Type 0 where
  pub all : (event : Event) → IsPlaced log runs event → Contains order event
  pub only : (event : Event) → Contains order event → IsPlaced log runs event
  pub once : (i j : ℕ) (d : Event) → i < j → j < length order → slice_index_or order i d ≢ slice_index_or order j d
  pub rising : (a b : Event) → Contains order a → Contains order b → a.thread ≡ b.thread → a.step < b.step → place order a < place order b
  pub source_first : (t : ℕ) (a : Entry) (source : Event) → HasEntry log t a → a.source ≡ Some source →
      place order source < place order (first_event t a)
  pub apart : (t : ℕ) (a : Entry) (write : Event) (value : ℕ) → HasEntry log t a → HasWritten runs write a.word value → a.source ≢ Some write →
      (place order (last_event t a) ≤ place order write) ⊎
      ((source : Event) × (a.source ≡ Some source) × (place order write < place order source))
  pub final : (word value : ℕ) (write : Event) → HasWritten runs write word value →
      (last : Event) × (last_tag log word ≡ Some last) × (place order write ≤ place order last)

-- whether a step of the runs has a place
abbrev pub is_placed : Log → List (List Step) → Event → Bool
is_placed log runs event = is_event log event || is_some (wrote (step_at runs event).want (step_at runs event).found)

-- those steps of a history that have a place, in the history's order
abbrev pub history_placing : Threads → List ℕ → Log → List ℕ → List Event
history_placing threads initial log history =
    filter (is_placed log (played threads initial (length log.threads) history).threads)
    (events_of threads history (opening initial (length log.threads)))

-- the turns of an order: the thread of each step goes on up to and including that step; `taken` has how many steps each thread has taken before
unfoldable pub turns_from : List ℕ → List Event → List ℕ
turns_from taken [] = []
turns_from taken (event ∷ order) =
    replicate (event.step - slice_index_or taken event.thread 0) event.thread ++ turns_from (slice_set taken event.thread event.step) order

-- the same from the start, for so many threads
abbrev pub placing_turns : ℕ → List Event → List ℕ
placing_turns count order = turns_from (replicate count 0) order
