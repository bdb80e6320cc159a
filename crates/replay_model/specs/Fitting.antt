-- Runs that fit a log. No order is spoken of.
use Rattle.std.specs.Prelude.{◌≡◌, ℕ, ◌+◌, ◌-◌, ◌<◌, ◌≤◌, Some, None, List, [], ◌∷◌, length, slice_index_or, unwrap_or, ◌⊎◌}
use Rattle.replay_model.specs.Steps.{Event, Tag, Cell, Step, word_of, wrote}
use Rattle.replay_model.specs.Threads.{Threads, IsRun, no_step}
use Rattle.replay_model.specs.Histories.{steps_of}
use Rattle.replay_model.specs.Logs.{Log, last_tag}
use Rattle.replay_model.specs.RunLogs.{Tallies, run_logs}

-- the step that an event is, in the lists of steps of all threads
abbrev pub step_at : List (List Step) → Event → Step
step_at runs event = slice_index_or (steps_of runs event.thread) (event.step - 1) no_step

-- the event is a step of these runs that wrote the value to the word
pub record HasWritten (runs : List (List Step)) (event : Event) (word value : ℕ) : Type 0 where
  pub low : 1 ≤ event.step
  pub high : event.step ≤ length (steps_of runs event.thread)
  pub to : word_of (step_at runs event).want ≡ word
  pub wrote : wrote (step_at runs event).want (step_at runs event).found ≡ Some value

-- the cell is the initial one of the word, or a step of the runs wrote its value to the word
abbrev pub IsGrounded : List ℕ → List (List Step) → ℕ → Cell → Type 0
IsGrounded initial runs word cell =
    ((cell.tag ≡ None) × (cell.value ≡ slice_index_or initial word 0)) ⊎
    ((event : Event) × (cell.tag ≡ Some event) × HasWritten runs event word cell.value)

-- each thread's steps are a run of it, in which each read found a value that was there to be found; the runs' logs are the log's;
-- each last tag is initial or names a write to its word
pub record Fits (threads : Threads) (tallies : Tallies) (initial : List ℕ) (log : Log) (runs : List (List Step)) : Type 0 where
  pub run : (t : ℕ) → t < length runs → IsRun threads t (steps_of runs t)
  pub grounded : (t k : ℕ) (cell : Cell) → k < length (steps_of runs t) →
      (slice_index_or (steps_of runs t) k no_step).found ≡ Some cell →
      IsGrounded initial runs (word_of (slice_index_or (steps_of runs t) k no_step).want) cell
  pub logs : log.threads ≡ run_logs threads tallies runs
  pub words : length log.last_tags ≡ length initial
  pub last_tags : (word : ℕ) (event : Event) → word < length initial → last_tag log word ≡ Some event → (value : ℕ) × HasWritten runs event word value

-- the value that a word has by its last tag: what that step wrote, or the initial value
abbrev pub last_value : List ℕ → List (List Step) → ℕ → Tag → ℕ
last_value initial runs word None = slice_index_or initial word 0
last_value initial runs word (Some event) = unwrap_or (wrote (step_at runs event).want (step_at runs event).found) 0

-- the same for the words from number `word` on
abbrev pub last_values_from : List ℕ → List (List Step) → ℕ → List Tag → List ℕ
last_values_from initial runs word [] = []
last_values_from initial runs word (tag ∷ last_tags) = last_value initial runs word tag ∷ last_values_from initial runs (word + 1) last_tags

-- each word's value by its last tag
abbrev pub last_values : List ℕ → Log → List (List Step) → List ℕ
last_values initial log runs = last_values_from initial runs 0 log.last_tags
