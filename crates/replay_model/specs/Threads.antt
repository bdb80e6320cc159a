-- Threads as functions of what they did: what a thread wants next follows from its memory steps so far.
use Rattle.std.specs.Prelude.{◌≡◌, ℕ, ◌<◌, ◌≤◌, true, false, List, length, take, slice_index_or, is_some, None}
use Rattle.replay_model.specs.Steps.{Step, Want, Ended, word_of, has_ended, reads}
use Rattle.replay_model.specs.declared.End.TheVariants.{Halted}

-- what each thread wants next, by its number and its steps so far
abbrev pub Threads : Type 0
Threads = ℕ → List Step → Want

-- no thread asks for a word that is not there
abbrev pub StaysWithin : Threads → ℕ → Type 0
StaysWithin threads words = (t : ℕ) (steps : List Step) → has_ended (threads t steps) ≡ false → word_of (threads t steps) < words

-- threads past the count have no code, and so have ended
abbrev pub HasOnly : Threads → ℕ → Type 0
HasOnly threads count = (t : ℕ) (steps : List Step) → count ≤ t → has_ended (threads t steps) ≡ true

-- after so many steps each thread has ended
abbrev pub EndsWithin : Threads → ℕ → Type 0
EndsWithin threads bound = (t : ℕ) (steps : List Step) → bound ≤ length steps → has_ended (threads t steps) ≡ true

-- stands where a list has no step
abbrev pub no_step : Step
no_step = record { want = Ended Halted; found = None }

-- the steps are a run of thread t from its start to its end
pub record IsRun (threads : Threads) (t : ℕ) (steps : List Step) : Type 0 where
  pub wants : (k : ℕ) → k < length steps → threads t (take k steps) ≡ (slice_index_or steps k no_step).want
  pub lives : (k : ℕ) → k < length steps → has_ended (slice_index_or steps k no_step).want ≡ false
  pub found : (k : ℕ) → k < length steps → is_some (slice_index_or steps k no_step).found ≡ reads (slice_index_or steps k no_step).want
  pub ends : has_ended (threads t steps) ≡ true
