-- Events that stand after later ones of their threads.
use Rattle.std.specs.Prelude.{◌≡◌, ◌≢◌, ℕ, ◌<◌, ◌≤◌, List, length, slice_index_or}
use Rattle.light_base.specs.declared.tag.Event.{Event}
use Rattle.constraints.specs.Positions.{no_event}

abbrev pub at : List Event → ℕ → Event
at order k = slice_index_or order k no_event

-- up to position n no event stands after one of its thread with a greater number
abbrev pub IsInTurn : List Event → ℕ → Type 0
IsInTurn order n = (p q : ℕ) → p < q → q < n → (at order p).thread ≡ (at order q).thread → (at order p).step ≤ (at order q).step

-- the event at j is the first one that stands after one of its thread with a greater number, and i is the nearest earlier position of that thread
pub record IsFirstOvertaken (order : List Event) (i j : ℕ) : Type 0 where
  pub below : j < length order
  pub earlier : i < j
  pub thread : (at order i).thread ≡ (at order j).thread
  pub greater : (at order j).step < (at order i).step
  pub nearest : (k : ℕ) → i < k → k < j → (at order k).thread ≢ (at order j).thread
  pub before : IsInTurn order j
