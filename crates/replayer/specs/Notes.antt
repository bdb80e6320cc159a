-- The writes that threads made, as a replay notes them.
use Rattle.std.specs.Prelude.{◌≡◌, ℕ, Option, Some, None, List, [], ◌∷◌, ◌++◌, Contains}
use Rattle.std.specs.Global.{Vec}
use Rattle.replay_model.specs.Steps.{Event, Step}
use Rattle.replay_model.specs.Fitting.{HasWritten}
use Rattle.replayer.specs.declared.notes.Written.{Written}

-- these are the steps of the runs that wrote, each with its word
pub record AreWrites (runs : List (List Step)) (writes : List Written) : Type 0 where
  pub all : (e : Event) (word value : ℕ) → HasWritten runs e word value → Contains writes (record { event = e; word = word })
  pub only : (w : Written) → Contains writes w → (value : ℕ) × HasWritten runs w.event w.word value

-- the write of a step that wrote this, if it wrote
abbrev pub writes_of : Event → ℕ → Option ℕ → List Written
writes_of event word None = []
writes_of event word (Some value) = record { event = event; word = word } ∷ []

-- these were added to what was noted, or nothing is noted any more
abbrev pub NotesMore : Option (Vec Written) → List Written → Option (Vec Written) → Type 0
NotesMore old added None = Unit {0}
NotesMore None added (Some new) = ⊥
NotesMore (Some old) added (Some new) = new.items ≡ old.items ++ added
