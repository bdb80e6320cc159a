-- Well-formed logs: what can be told of a log alone, without its program.
use Rattle.std.specs.Prelude.{◌≡◌, ◌≢◌, ℕ, ◌<◌, ◌≤◌, ◌^◌, Some, None, length, slice_index_or, Contains}
use Rattle.light_base.specs.Tags.{step_end}
use Rattle.replay_model.specs.Bounds.{most_entries, most_inputs}
use Rattle.replay_model.specs.Steps.{Event, Tag, End}
use Rattle.replay_model.specs.declared.End.TheVariants.{Halted, InstrSpent, BadAddress, StepsSpent, EntriesFull, OutputFull, InputEmpty}
use Rattle.replay_model.specs.ThreadLogs.{Entry}
use Rattle.replay_model.specs.Logs.{Limits, ThreadLog, Log, thread_of, last_tag}

-- numbers of threads and of words, and limits, that a machine may have
pub record IsInRange (count size : ℕ) (limits : Limits) : Type 0 where
  pub some_thread : 1 ≤ count
  pub threads : count ≤ 15
  pub some_word : 1 ≤ size
  pub words : size ≤ 4096
  pub steps : limits.steps < step_end
  pub instr : limits.instr ≤ 2 ^ 30
  pub entries : limits.entries ≤ most_entries

-- a bad address is one that no word has
abbrev pub IsPossibleEnd : ℕ → End → Type 0
IsPossibleEnd words Halted = Prim.Unit {0}
IsPossibleEnd words InstrSpent = Prim.Unit {0}
IsPossibleEnd words (BadAddress address) = words ≤ address
IsPossibleEnd words StepsSpent = Prim.Unit {0}
IsPossibleEnd words EntriesFull = Prim.Unit {0}
IsPossibleEnd words OutputFull = Prim.Unit {0}
IsPossibleEnd words InputEmpty = Prim.Unit {0}

-- the event is a step that its thread took
pub record IsTaken (log : Log) (event : Event) : Type 0 where
  pub thread : event.thread < length log.threads
  pub first : 1 ≤ event.step
  pub last : event.step ≤ (thread_of log event.thread).steps

-- the tag is that of the initial contents, or of a step that a thread took
abbrev pub IsTagOf : Log → Tag → Type 0
IsTagOf log None = Prim.Unit {0}
IsTagOf log (Some event) = IsTaken log event

-- an entry stands for steps of its thread, and names a word and a tag of the log
pub record IsEntryOf (log : Log) (thread : ThreadLog) (entry : Entry) : Type 0 where
  pub low : 1 ≤ entry.first
  pub between : entry.first ≤ entry.last
  pub high : entry.last ≤ thread.steps
  pub source : IsTagOf log entry.source
  pub word : entry.word < length log.last_tags

-- entries stand by rising first; those of one word name different sources, and no source comes back after another was read
pub record IsThreadOf (log : Log) (thread : ThreadLog) : Type 0 where
  pub steps : thread.steps ≤ log.limits.steps
  pub instr : thread.instr ≤ log.limits.instr
  pub entries : length thread.entries ≤ log.limits.entries
  pub end : IsPossibleEnd (length log.last_tags) thread.end
  pub taken : length thread.taken ≤ most_inputs
  pub each : (entry : Entry) → Contains thread.entries entry → IsEntryOf log thread entry
  pub rising : (i j : ℕ) (d : Entry) → i < j → j < length thread.entries →
      (slice_index_or thread.entries i d).first < (slice_index_or thread.entries j d).first
  pub once : (i j : ℕ) (d : Entry) → i < j → j < length thread.entries →
      (slice_index_or thread.entries i d).word ≡ (slice_index_or thread.entries j d).word →
      (slice_index_or thread.entries i d).source ≢ (slice_index_or thread.entries j d).source
  pub apart : (i j : ℕ) (d : Entry) → i < j → j < length thread.entries →
      (slice_index_or thread.entries i d).word ≡ (slice_index_or thread.entries j d).word →
      (slice_index_or thread.entries i d).last < (slice_index_or thread.entries j d).first

-- a well-formed log
pub record IsWellFormed (log : Log) : Type 0 where
  pub range : IsInRange (length log.threads) (length log.last_tags) log.limits
  pub threads : (t : ℕ) → t < length log.threads → IsThreadOf log (thread_of log t)
  pub last_tags : (word : ℕ) → word < length log.last_tags → IsTagOf log (last_tag log word)
