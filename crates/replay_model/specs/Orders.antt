-- Orders that respect a log: sequences of its events in which each read can see what it saw.
use Rattle.std.specs.Prelude.{◌≡◌, ◌≢◌, ℕ, suc, ◌<◌, ◌≤◌, if◌then◌else◌, Some, None, List, [], ◌∷◌, length, slice_index_or, Contains, ◌⊎◌}
use Rattle.replay_model.specs.Steps.{Event, same_event}
use Rattle.replay_model.specs.ThreadLogs.{Entry}
use Rattle.replay_model.specs.Logs.{Log, HasEntry, last_tag, first_event, last_event}
use Rattle.replay_model.specs.Events.{IsEvent}

-- the first place of the event in the order; the order's length where it has none
abbrev pub place : List Event → Event → ℕ
place [] event = 0
place (e ∷ order) event = if same_event e event then 0 else suc (place order event)

-- the order has each event of the log once and nothing else; events of one thread stand by rising number; a source stands before the first read of it;
-- of two writes to a word, the reads of one are over when the other is made; and when a word's last tag is made, the reads of its other writes are over.
-- A step that reads and then writes may be both, the last read of one write and the other write
pub record Respects (log : Log) (order : List Event) : Type 0 where
  pub all : (event : Event) → IsEvent log event → Contains order event
  pub only : (event : Event) → Contains order event → IsEvent log event
  pub once : (i j : ℕ) (d : Event) → i < j → j < length order → slice_index_or order i d ≢ slice_index_or order j d
  pub rising : (a b : Event) → Contains order a → Contains order b → a.thread ≡ b.thread → a.step < b.step → place order a < place order b
  pub source_first : (t : ℕ) (a : Entry) (source : Event) → HasEntry log t a → a.source ≡ Some source → place order source < place order (first_event t a)
  pub apart : (t u : ℕ) (a b : Entry) (x y : Event) → HasEntry log t a → HasEntry log u b → a.word ≡ b.word → a.source ≡ Some x → b.source ≡ Some y → x ≢ y →
      (place order (last_event t a) ≤ place order y) ⊎ (place order (last_event u b) ≤ place order x)
  pub from_initial : (t u : ℕ) (a b : Entry) (y : Event) → HasEntry log t a → HasEntry log u b → a.word ≡ b.word → a.source ≡ None → b.source ≡ Some y →
      place order (last_event t a) ≤ place order y
  pub final : (t : ℕ) (a : Entry) → HasEntry log t a → a.source ≢ last_tag log a.word →
      (z : Event) × (last_tag log a.word ≡ Some z) × (place order (last_event t a) ≤ place order z)
