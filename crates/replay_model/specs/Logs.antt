-- Logs: which write each read of each thread saw, how each thread ended, and who wrote each word last.
use Rattle.std.specs.Prelude.{ℕ, None, List, [], slice_index_or, Contains}
use Rattle.replay_model.specs.Steps.{Event, Tag, End}
use Rattle.replay_model.specs.declared.End.TheVariants.{Halted}
use Rattle.replay_model.specs.ThreadLogs.{Entry}

-- how many memory steps and how many instructions a thread may run, and how many entries its log may have
pub record Limits : Type 0 where
  pub steps : ℕ
  pub instr : ℕ
  pub entries : ℕ

-- what is logged of one thread: its entries by rising first, and its tail: how many memory steps it took, how many instructions it finished,
-- how it ended, and the input numbers that it took
pub record ThreadLog : Type 0 where
  pub entries : List Entry
  pub steps : ℕ
  pub instr : ℕ
  pub end : End
  pub taken : List ℕ

-- the log of a run of all threads: the digest of the program's image, the limits, each thread's log, and the tag that each word has at the end
pub record Log : Type 0 where
  pub digest : List ℕ
  pub limits : Limits
  pub threads : List ThreadLog
  pub last_tags : List Tag

-- stands where a log has no such thread
abbrev pub no_thread : ThreadLog
no_thread = record { entries = []; steps = 0; instr = 0; end = Halted; taken = [] }

-- what is logged of thread t
abbrev pub thread_of : Log → ℕ → ThreadLog
thread_of log t = slice_index_or log.threads t no_thread

-- the entry is one of thread t
abbrev pub HasEntry : Log → ℕ → Entry → Type 0
HasEntry log t entry = Contains (thread_of log t).entries entry

-- the last tag of a word
abbrev pub last_tag : Log → ℕ → Tag
last_tag log word = slice_index_or log.last_tags word None

-- the first and the last step that an entry of thread t stands for
abbrev pub first_event : ℕ → Entry → Event
first_event t entry = record { thread = t; step = entry.first }

abbrev pub last_event : ℕ → Entry → Event
last_event t entry = record { thread = t; step = entry.last }
