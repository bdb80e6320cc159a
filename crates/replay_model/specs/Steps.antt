-- One memory step: what is wanted of the memory, what is found there, and what is written.
use Rattle.std.specs.Prelude.{ℕ, Bool, true, false, ◌&&◌, ◌==◌, if◌then◌else◌, Option, Some, None, List, [], ◌∷◌, ◌+◌, map, slice_index_or, slice_set}
pub use Rattle.light_base.specs.declared.tag.Event.{Event}
pub use Rattle.light_base.specs.declared.tag.Tag.{Tag}
pub use Rattle.light_base.specs.declared.tag.Cell.{Cell}
pub use Rattle.replay_model.specs.declared.End.{End}
pub use Rattle.replay_model.specs.declared.Want.{Want}
pub use Rattle.replay_model.specs.declared.Want.TheVariants.{Load, Store, Swap, Cond, Ended}
pub use Rattle.replay_model.specs.declared.Access.{Access}

-- a memory step that was taken: what was wanted, and the cell that a reading step found
pub record Step : Type 0 where
  pub want : Want
  pub found : Option Cell

abbrev pub same_event : Event → Event → Bool
same_event a b = (a.thread == b.thread) && (a.step == b.step)

abbrev pub same_tag : Tag → Tag → Bool
same_tag None None = true
same_tag (Some a) (Some b) = same_event a b
same_tag None (Some b) = false
same_tag (Some a) None = false

abbrev pub word_of : Want → ℕ
word_of (Load word) = word
word_of (Store word value) = word
word_of (Swap word value) = word
word_of (Cond word seen value) = word
word_of (Ended end) = 0

abbrev pub has_ended : Want → Bool
has_ended (Load word) = false
has_ended (Store word value) = false
has_ended (Swap word value) = false
has_ended (Cond word seen value) = false
has_ended (Ended end) = true

-- whether the step reads a cell
abbrev pub reads : Want → Bool
reads (Load word) = true
reads (Store word value) = false
reads (Swap word value) = true
reads (Cond word seen value) = true
reads (Ended end) = false

-- a conditional write is made exactly where the cell found has the tag that was seen before
abbrev pub value_if_seen : Tag → ℕ → Option Cell → Option ℕ
value_if_seen seen value None = None
value_if_seen seen value (Some cell) = if same_tag cell.tag seen then Some value else None

-- the value that the step wrote, if it wrote
abbrev pub wrote : Want → Option Cell → Option ℕ
wrote (Load word) found = None
wrote (Store word value) found = Some value
wrote (Swap word value) found = Some value
wrote (Cond word seen value) found = value_if_seen seen value found
wrote (Ended end) found = None

-- stands where a list has no cell
abbrev pub no_cell : Cell
no_cell = record { value = 0; tag = None }

-- the cells of the initial values
abbrev pub initial_cells : List ℕ → List Cell
initial_cells initial = map (λ (value : ℕ). record { value = value; tag = None }) initial

-- the cell that a reading step finds: the one that stands in its word
abbrev pub found_in : List Cell → Want → Option Cell
found_in memory want = if reads want then Some (slice_index_or memory (word_of want) no_cell) else None

-- the memory after a write by this step, if there is one
abbrev pub put : List Cell → ℕ → Event → Option ℕ → List Cell
put memory word event None = memory
put memory word event (Some value) = slice_set memory word (record { value = value; tag = Some event })

-- step number n of a thread, as it is told
abbrev pub access_of : ℕ → Step → Access
access_of n step = record { step = n; word = word_of step.want; saw = step.found; wrote = wrote step.want step.found }

-- the steps as they are told, the first of them being number n
abbrev pub accesses_from : ℕ → List Step → List Access
accesses_from n [] = []
accesses_from n (step ∷ steps) = access_of n step ∷ accesses_from (n + 1) steps
