-- The memory steps in the order in which the words saw them.
use Rattle.std.specs.Prelude.{◌≡◌, ℕ, ◌+◌, ◌==◌, if◌then◌else◌, Option, List, [], ◌∷◌, ◌++◌, length}
use Rattle.replay_model.specs.Steps.{Event, Cell, Want, Step, word_of, wrote, found_in, put}

-- a memory step as the words saw it: step `number` of a thread
pub record WordStep : Type 0 where
  pub thread : ℕ
  pub number : ℕ
  pub want : Want
  pub found : Option Cell

abbrev pub event_of : WordStep → Event
event_of e = record { thread = e.thread; step = e.number }

-- the steps of one thread
abbrev pub part : ℕ → List WordStep → List Step
part t [] = []
part t (e ∷ list) = (if e.thread == t then record { want = e.want; found = e.found } ∷ [] else []) ++ part t list

-- the list leads from the memory to the last one; `earlier` stood before it. Each step has the next number of its thread, and found what stood in its word
abbrev pub Folds : List WordStep → List Cell → List WordStep → List Cell → Type 0
Folds earlier memory [] end = memory ≡ end
Folds earlier memory (e ∷ list) end =
    (e.number ≡ length (part e.thread earlier) + 1) × (e.found ≡ found_in memory e.want) ×
    Folds (earlier ++ e ∷ []) (put memory (word_of e.want) (event_of e) (wrote e.want e.found)) list end
