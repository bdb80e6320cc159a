-- Placings by pairs of writes: of each two writes to a word, one of which was read, one comes first, with all reads of it.
use Rattle.std.specs.Prelude.{◌≡◌, ◌≢◌, ℕ, ◌<◌, ◌≤◌, Some, None, List, ◌⊎◌, length, slice_index_or, Contains}
use Rattle.replay_model.specs.Steps.{Event, Step}
use Rattle.replay_model.specs.declared.Entry.{Entry}
use Rattle.replay_model.specs.Logs.{Log, HasEntry, last_tag, first_event, last_event}
use Rattle.replay_model.specs.Orders.{place}
use Rattle.replay_model.specs.Fitting.{HasWritten}
use Rattle.audit_laws.specs.Placings.{IsPlaced}

-- a read saw the write: an entry has it as its source
abbrev pub IsRead : Log → Event → Type 0
IsRead log write = (t : ℕ) × (a : Entry) × HasEntry log t a × (a.source ≡ Some write)

-- the write stands before the other one, and the last read of each entry that has it as its source does too, or is that one
pub record ComesFirst (log : Log) (order : List Event) (write other : Event) : Type 0 where
  pub before : place order write < place order other
  pub reads : (t : ℕ) (a : Entry) → HasEntry log t a → a.source ≡ Some write → place order (last_event t a) ≤ place order other

-- what a placing owes, with the reads of initial contents apart, and the writes two by two; of two that no read saw nothing is asked
pub record PlacesByPairs (log : Log) (runs : List (List Step)) (order : List Event) : Type 0 where
  pub all : (event : Event) → IsPlaced log runs event → Contains order event
  pub only : (event : Event) → Contains order event → IsPlaced log runs event
  pub once : (i j : ℕ) (d : Event) → i < j → j < length order → slice_index_or order i d ≢ slice_index_or order j d
  pub rising : (a b : Event) → Contains order a → Contains order b → a.thread ≡ b.thread → a.step < b.step → place order a < place order b
  pub source_first : (t : ℕ) (a : Entry) (source : Event) → HasEntry log t a → a.source ≡ Some source →
      place order source < place order (first_event t a)
  pub from_initial : (t : ℕ) (a : Entry) (write : Event) (value : ℕ) → HasEntry log t a → HasWritten runs write a.word value → a.source ≡ None →
      place order (last_event t a) ≤ place order write
  pub pairs : (word v w : ℕ) (x y : Event) → HasWritten runs x word v → HasWritten runs y word w → x ≢ y → IsRead log x ⊎ IsRead log y →
      ComesFirst log order x y ⊎ ComesFirst log order y x
  pub final : (word value : ℕ) (write : Event) → HasWritten runs write word value →
      (last : Event) × (last_tag log word ≡ Some last) × (place order write ≤ place order last)
