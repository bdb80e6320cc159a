-- A thread's steps so far, and the step that it asks for next.
use Rattle.std.specs.Prelude.{◌≡◌, ℕ, ◌+◌, ◌<◌, Bool, false, Option, Some, is_some, List, [], ◌∷◌, ◌++◌, length, take, slice_index_or}
use Rattle.std.specs.List.{list_any}
use Rattle.light_base.specs.Tags.{HasTag}
use Rattle.replay_model.specs.declared.Want.TheVariants.{Load, Cond}
use Rattle.replay_model.specs.declared.Want.{Want}
use Rattle.replay_model.specs.Steps.{Event, Tag, Cell, Step, word_of, reads, has_ended}
use Rattle.replay_model.specs.Threads.{Threads, no_step}
use Rattle.machine.specs.declared.program.Instr.{Instr}
use Rattle.machine.specs.Cores.{is_out}

-- whether the code has an instruction that puts out a value
abbrev pub puts_out : List Instr → Bool
puts_out code = list_any (λ (i : Instr). is_out i.op) code

abbrev pub step_that : Want → Option Cell → Step
step_that want found = record { want = want; found = found }

-- the event that the next step of thread t is
abbrev pub event_after : ℕ → List Step → Event
event_after t steps = record { thread = t; step = length steps + 1 }

-- the last step was a load of this word, which found this tag
pub record IsAfterLoad (steps : List Step) (word : ℕ) (seen : Tag) : Type 0 where
  pub earlier : List Step
  pub cell : Cell
  pub whole : steps ≡ earlier ++ step_that (Load word) (Some cell) ∷ []
  pub tag : cell.tag ≡ seen

-- after these steps a thread takes a step, which is this event: it has a tag, its word is one of so many, and a conditional write follows the load whose tag it expects
pub record Asks (size : ℕ) (event : Event) (steps : List Step) (want : Want) : Type 0 where
  pub number : event.step ≡ length steps + 1
  pub tagged : HasTag event
  pub lives : has_ended want ≡ false
  pub inside : word_of want < size
  pub follows : (word : ℕ) (seen : Tag) (value : ℕ) → want ≡ Cond word seen value → IsAfterLoad steps word seen

-- words that may take a step of a thread may take its next one once they took this one
abbrev pub StayReady : {X : Type 0} → (X → ℕ → ℕ → List Step → Type 0) → Event → Want → Option Cell → X → X → Type 0
StayReady ready event want found old new = (size : ℕ) (steps : List Step) → ready old size event.thread steps → Asks size event steps want →
    ready new size event.thread (steps ++ step_that want found ∷ [])

-- the steps are the first ones of a run of thread t
pub record IsBegun (threads : Threads) (t : ℕ) (steps : List Step) : Type 0 where
  pub wants : (k : ℕ) → k < length steps → threads t (take k steps) ≡ (slice_index_or steps k no_step).want
  pub lives : (k : ℕ) → k < length steps → has_ended (slice_index_or steps k no_step).want ≡ false
  pub found : (k : ℕ) → k < length steps → is_some (slice_index_or steps k no_step).found ≡ reads (slice_index_or steps k no_step).want

-- the steps added to these, one after another, are those that the thread wants, and lead from the old words to the new ones
abbrev pub Runs : {X : Type 0} → (X → Event → Want → Option Cell → X → Type 0) → Threads → ℕ → List Step → List Step → X → X → Type 0
Runs takes threads t steps [] old new = new ≡ old
Runs {X} takes threads t steps (step ∷ added) old new =
    (mid : X) × (threads t steps ≡ step.want) × (has_ended step.want ≡ false) × takes old (event_after t steps) step.want step.found mid × Runs takes threads t (steps ++ step ∷ []) added mid new
