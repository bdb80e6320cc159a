-- A search for the cut of a step: it goes through the entries of each thread as far as these have begun, and lets their sources be there.
use Rattle.std.specs.Prelude.{◌≡◌, ℕ, ◌<◌, ◌≤◌, max, Some, None, List, length, replicate, slice_index_or, slice_set}
use Rattle.replay_model.specs.Steps.{Event, Tag}
use Rattle.replay_model.specs.declared.Entry.{Entry}
use Rattle.replay_model.specs.Logs.{Log, thread_of}
use Rattle.cut_laws.specs.Cuts.{number_of, IsWithin, IsClosed}

-- no number is higher than in any closed list; the thread asked for goes as far as its step; and the sources of those entries of each thread that come
-- before its next one are within the numbers
pub record IsSearched (log : Log) (thread step : ℕ) (numbers nexts : List ℕ) : Type 0 where
  pub counted : length numbers ≡ length log.threads
  pub below : (other : List ℕ) → IsClosed log thread step other → (t : ℕ) → number_of numbers t ≤ number_of other t
  pub reaches : step ≤ number_of numbers thread
  pub sources : (t k : ℕ) (d : Entry) (source : Event) → k < number_of nexts t → k < length (thread_of log t).entries →
      (slice_index_or (thread_of log t).entries k d).source ≡ Some source → IsWithin numbers source

-- the thread asked for goes to its step, and no other one goes
abbrev pub first_numbers : ℕ → ℕ → ℕ → List ℕ
first_numbers count thread step = slice_set (replicate count 0) thread step

-- the thread of a source goes as far as this
abbrev pub raised : List ℕ → Tag → List ℕ
raised numbers None = numbers
raised numbers (Some source) = slice_set numbers source.thread (max (number_of numbers source.thread) source.step)
