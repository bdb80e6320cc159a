-- What one more step does.
use Rattle.std.specs.Prelude.{◌≡◌, ◌≢◌, ℕ, ◌+◌, ◌≤◌, Some, None, List, [], ◌∷◌, ◌++◌, length, Contains, slice_index_or}
use Rattle.replay_model.specs.Steps.{Event, Cell, Step, word_of, wrote, no_cell, found_in, put, initial_cells}
use Rattle.replay_model.specs.ThreadLogs.{thread_log}
use Rattle.replay_model.specs.MoreReads.{with_read}
use Rattle.replay_model.specs.WordSteps.{WordStep, event_of, part, Folds}

-- the log of a thread after one more read
abbrev pub OneMoreRead : Type 0
OneMoreRead = (steps : List Step) (step : Step) (cell : Cell) → step.found ≡ Some cell →
    thread_log (steps ++ step ∷ []) ≡ with_read (word_of step.want) cell.tag (length steps + 1) (thread_log steps)

-- a step that reads nothing leaves the log as it is
abbrev pub OneMoreWrite : Type 0
OneMoreWrite = (steps : List Step) (step : Step) → step.found ≡ None → thread_log (steps ++ step ∷ []) ≡ thread_log steps

-- one more step at the words goes on from where the list led
abbrev pub OneMoreStep : Type 0
OneMoreStep = (list : List WordStep) (first last : List Cell) (e : WordStep) → Folds [] first list last →
    e.number ≡ length (part e.thread list) + 1 → e.found ≡ found_in last e.want →
    Folds [] first (list ++ e ∷ []) (put last (word_of e.want) (event_of e) (wrote e.want e.found))

-- it joins the part of its thread, and no other
abbrev pub OneMoreOfItsThread : Type 0
OneMoreOfItsThread = (list : List WordStep) (e : WordStep) →
    (part e.thread (list ++ e ∷ []) ≡ part e.thread list ++ record { want = e.want; found = e.found } ∷ []) ×
    ((t : ℕ) → t ≢ e.thread → part t (list ++ e ∷ []) ≡ part t list)

-- an equal tag on one word means an equal cell: a step that found a cell, whose tag stands in the word at the end, found the very cell that stands there
abbrev pub TagNamesOneCell : Type 0
TagNamesOneCell = (initial : List ℕ) (list : List WordStep) (last : List Cell) → Folds [] (initial_cells initial) list last →
    (e : WordStep) (cell : Cell) → Contains list e → e.found ≡ Some cell → (slice_index_or last (word_of e.want) no_cell).tag ≡ cell.tag →
    slice_index_or last (word_of e.want) no_cell ≡ cell

-- a tag that stands in a word is that of a step that its thread took
abbrev pub TagsAreOfSteps : Type 0
TagsAreOfSteps = (initial : List ℕ) (list : List WordStep) (last : List Cell) → Folds [] (initial_cells initial) list last →
    (word : ℕ) (event : Event) → (slice_index_or last word no_cell).tag ≡ Some event → (1 ≤ event.step) × (event.step ≤ length (part event.thread list))
