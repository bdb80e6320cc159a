-- Reading a log: the log that the bytes tell, or the first fault in the order of the tests.
use Rattle.std.specs.Prelude.{ℕ, ◌+◌, ◌-◌, ◌*◌, ◌%◌, ◌^◌, ◌≤◌, Bool, true, ◌&&◌, ◌||◌, not, nat_eq, nat_lt, nat_le, if◌then◌else◌, List, length, drop, map, slice_index, slice_index_or, slice_range, Option, None, Some, Result, Ok, Err}
use Rattle.std.specs.Option.{ok_or}
use Rattle.std.specs.List.{list_any, starts_with, sum_by}
use Rattle.std.specs.Int.{w16, w32, from_be_bytes}
use Rattle.light_base.specs.Tags.{step_end, writer_of}
use Rattle.light_base.specs.declared.tag.Tag.{Tag}
use Rattle.replay_model.specs.Bounds.{most_entries, most_inputs}
use Rattle.replay_model.specs.declared.End.{End}
use Rattle.replay_model.specs.declared.End.TheVariants.{Halted, InstrSpent, BadAddress, StepsSpent, EntriesFull, OutputFull, InputEmpty}
use Rattle.replay_model.specs.declared.Entry.{Entry}
use Rattle.replay_model.specs.Logs.{Limits, ThreadLog, Log}
use Rattle.replay_model.specs.MoreReads.{is_entry_for}
use Rattle.dep_log.specs.Buckets.{no_entry}
use Rattle.machine.specs.Faults.{are_counts}
use Rattle.machine.specs.Reading.{GivesUnless, ◌>>=◌, numbers_at}
pub use Rattle.log_file.specs.declared.heads.Head.{Head}
pub use Rattle.log_file.specs.declared.heads.Header.{Header}
use Rattle.log_file.specs.Versions.{Version, magic_of, head_len, header_len, last_end}
use Rattle.log_file.specs.declared.version.Version.TheVariants.{One, Two}
use Rattle.log_file.specs.LogFaults.{LogFault, fault, out_of_memory}
use Rattle.log_file.specs.declared.log_fault.LogKind.TheVariants as kind
use Rattle.log_file.specs.Spelling.{entry_count, taken_count}
use Rattle.log_file.specs.Rows.{◌>>◌, rows}

-- what a function returned, seen by view, is what reading gives, unless memory ran out
abbrev pub Gives : {X Y : Type 0} → (X → Y) → Result X LogFault → Result Y LogFault → Type 0
Gives view r read = GivesUnless out_of_memory view r read

-- the numbers of 16 and of 32 bits at a place
abbrev pub half_at : List ℕ → ℕ → ℕ
half_at bytes at = from_be_bytes w16 (slice_range bytes at (at + 2))

abbrev pub number_at : List ℕ → ℕ → ℕ
number_at bytes at = from_be_bytes w32 (slice_range bytes at (at + 4))

-- the bytes reach a place: where they end before it, they are too short
unfoldable pub reaches : List ℕ → ℕ → Result (Prim.Unit {0}) LogFault
reaches bytes place = if nat_lt (length bytes) place then Err (fault kind.Short (length bytes)) else Ok tt

-- ---- the head: the version, the numbers of threads and of words, and the limits

abbrev pub limits_in : List ℕ → Limits
limits_in bytes = record { steps = number_at bytes 39; instr = number_at bytes 43; entries = number_at bytes 47 }

abbrev pub are_limits : Limits → Bool
are_limits limits = nat_lt limits.steps step_end && nat_le limits.instr (2 ^ 30) && nat_le limits.entries most_entries

unfoldable pub head_in : Version → List ℕ → Result Head LogFault
head_in version bytes = do
  reaches bytes head_len
  if not (starts_with nat_eq bytes (magic_of version)) then Err (fault kind.Magic 0)
      else if not (are_counts (slice_index bytes 4) (half_at bytes 5) && are_limits (limits_in bytes)) then Err (fault kind.Counts 4)
      else Ok (record { threads = slice_index bytes 4; words = half_at bytes 5; limits = limits_in bytes })

-- ---- the headers: how each thread ended, and what it counts

-- an end that has no address, by its number
abbrev pub plain_end : ℕ → Option End
plain_end code =
    if nat_eq code 0 then Some Halted
    else if nat_eq code 1 then Some InstrSpent
    else if nat_eq code 3 then Some StepsSpent
    else if nat_eq code 4 then Some EntriesFull
    else if nat_eq code 5 then Some OutputFull
    else if nat_eq code 6 then Some InputEmpty
    else None

-- the end with this number and this address, which is that of a bad address, else 0
unfoldable pub end_in : Version → ℕ → ℕ → ℕ → Option End
end_in version words code address =
    if nat_lt (last_end version) code then None
    else if nat_eq code 2 then (if nat_lt address words then None else Some (BadAddress address))
    else if nat_eq address 0 then plain_end code
    else None

-- how many input numbers the header at a place counts
abbrev pub taken_at : Version → List ℕ → ℕ → ℕ
taken_at One bytes at = 0
taken_at Two bytes at = number_at bytes (at + 17)

-- whether the counts of a header pass the limits
abbrev pub is_over : Limits → Header → Bool
is_over limits h = nat_lt limits.steps h.steps || nat_lt limits.instr h.instr || nat_lt limits.entries h.entries || nat_lt most_inputs h.taken

-- no header counts more entries or input numbers than this
pub record IsSmall (h : Header) : Type 0 where
  pub entries : h.entries ≤ most_entries
  pub taken : h.taken ≤ most_inputs

-- the counts of the header at a place
abbrev pub counts_at : Version → List ℕ → ℕ → Header
counts_at version bytes at =
    record {
      end = Halted;
      steps = number_at bytes (at + 5);
      instr = number_at bytes (at + 9);
      entries = number_at bytes (at + 13);
      taken = taken_at version bytes at;
    }

-- the header at a place that has these counts, and an end with this number and address
unfoldable pub header_of : Version → Head → ℕ → ℕ → ℕ → Header → Result Header LogFault
header_of version head at code address counts =
    if is_over head.limits counts then Err (fault kind.Counts at)
    else do
      end ← ok_or (end_in version head.words code address) (fault kind.EndCode at)
      Ok (record counts { end = end })

abbrev pub header_at : Version → Head → List ℕ → ℕ → Result Header LogFault
header_at version head bytes at = header_of version head at (slice_index bytes at) (number_at bytes (at + 1)) (counts_at version bytes at)

-- the header behind these, and those of all threads
abbrev pub next_header : Version → Head → List ℕ → List Header → Result Header LogFault
next_header version head bytes before = header_at version head bytes (head_len + header_len version * length before)

abbrev pub headers_in : Version → Head → List ℕ → Result (List Header) LogFault
headers_in version head bytes = rows (next_header version head bytes) head.threads

-- ---- tags

-- whether the tag is that of nobody, or of a step that a thread took, where the threads took so many steps
abbrev pub is_taken : List ℕ → Tag → Bool
is_taken steps None = true
is_taken steps (Some event) = nat_lt 0 event.step && nat_le event.step (slice_index steps event.thread)

-- whether a number is that of a tag: both its parts are 0, or neither is
abbrev pub is_tag : ℕ → Bool
is_tag bits = nat_eq bits 0 || (nat_le step_end bits && nat_lt 0 (bits % step_end))

-- the tag with this number, where it is one of the log
unfoldable pub tag_in : List ℕ → ℕ → Option Tag
tag_in steps bits = if is_tag bits && is_taken steps (writer_of bits) then Some (writer_of bits) else None

abbrev pub tag_at : List ℕ → List ℕ → ℕ → Result Tag LogFault
tag_at steps bytes at = ok_or (tag_in steps (number_at bytes at)) (fault kind.Source at)

-- the last tag behind these, and those of all words, which begin at a place
abbrev pub next_last : List ℕ → List ℕ → ℕ → List Tag → Result Tag LogFault
next_last steps bytes at before = tag_at steps bytes (at + 4 * length before)

abbrev pub last_tags_in : List ℕ → List ℕ → ℕ → ℕ → Result (List Tag) LogFault
last_tags_in steps bytes at words = rows (next_last steps bytes at) words

-- ---- entries

-- the first step of the newest of these entries, and 0 where there is none
abbrev pub newest_first : List Entry → ℕ
newest_first before = (slice_index_or before (length before - 1) no_entry).first

-- whether an entry is of this word and ends no earlier than at this step
abbrev pub ends_late : ℕ → ℕ → Entry → Bool
ends_late word step entry = nat_eq word entry.word && nat_le step entry.last

-- the entry at a place that has this word, tag's number, first and last step, of a thread that took `own` steps, after these of its entries
unfoldable pub entry_of : ℕ → List ℕ → ℕ → ℕ → List Entry → ℕ → ℕ → ℕ → ℕ → Result Entry LogFault
entry_of words steps own at before word bits first last =
    if nat_le first (newest_first before) then Err (fault kind.Order at)
    else if nat_lt last first || nat_lt own last then Err (fault kind.Range at)
    else do
      source ← ok_or (tag_in steps bits) (fault kind.Source at)
      if nat_le words word then Err (fault kind.Word at)
          else if list_any (is_entry_for word source) before then Err (fault kind.Twice at)
          else if list_any (ends_late word first) before then Err (fault kind.Overlap at)
          else Ok (record { word = word; source = source; first = first; last = last })

abbrev pub entry_at : ℕ → List ℕ → ℕ → List ℕ → ℕ → List Entry → Result Entry LogFault
entry_at words steps own bytes at before =
    entry_of words steps own at before (half_at bytes at) (number_at bytes (at + 2)) (number_at bytes (at + 6)) (number_at bytes (at + 10))

-- the entry behind these of a thread, whose entries begin at a place, and so many of them
abbrev pub next_entry : ℕ → List ℕ → ℕ → List ℕ → ℕ → List Entry → Result Entry LogFault
next_entry words steps own bytes at before = entry_at words steps own bytes (at + 14 * length before) before

abbrev pub entries_at : ℕ → List ℕ → ℕ → List ℕ → ℕ → ℕ → Result (List Entry) LogFault
entries_at words steps own bytes at count = rows (next_entry words steps own bytes at) count

-- ---- the log

-- stands where there is no header
abbrev pub no_header : Header
no_header = record { end = Halted; steps = 0; instr = 0; entries = 0; taken = 0 }

abbrev pub steps_of : List Header → List ℕ
steps_of headers = map (λ (h : Header). h.steps) headers

-- the log of a thread by its header; its entries begin at one place, and its input numbers at another
unfoldable pub thread_at : ℕ → List ℕ → Header → List ℕ → ℕ → ℕ → Result ThreadLog LogFault
thread_at words steps h bytes at from = do
  entries ← entries_at words steps h.steps bytes at h.entries
  Ok (record { entries = entries; steps = h.steps; instr = h.instr; end = h.end; taken = numbers_at w32 h.taken (drop from bytes) })

-- the log of the thread behind these, and those of all threads; all entries begin at one place, and all input numbers at another
abbrev pub next_thread : ℕ → List Header → List ℕ → ℕ → ℕ → List ThreadLog → Result ThreadLog LogFault
next_thread words headers bytes at from before =
    thread_at words (steps_of headers) (slice_index_or headers (length before) no_header) bytes (at + 14 * entry_count before) (from + 4 * taken_count before)

abbrev pub threads_in : ℕ → List Header → List ℕ → ℕ → ℕ → Result (List ThreadLog) LogFault
threads_in words headers bytes at from = rows (next_thread words headers bytes at from) (length headers)

-- how many entries and how many input numbers the headers count
abbrev pub header_entries : List Header → ℕ
header_entries headers = sum_by (λ (h : Header). h.entries) headers

abbrev pub header_taken : List Header → ℕ
header_taken headers = sum_by (λ (h : Header). h.taken) headers

-- where the last tags begin, the entries, and the input numbers, and where the log ends
abbrev pub last_tags_place : Version → Head → ℕ
last_tags_place version head = head_len + header_len version * head.threads

abbrev pub entries_place : Version → Head → ℕ
entries_place version head = last_tags_place version head + 4 * head.words

abbrev pub taken_place : Version → Head → List Header → ℕ
taken_place version head headers = entries_place version head + 14 * header_entries headers

abbrev pub log_end : Version → Head → List Header → ℕ
log_end version head headers = taken_place version head headers + 4 * header_taken headers

-- the log with the digest that these bytes have
abbrev pub log_with : List ℕ → Limits → List ThreadLog → List Tag → Log
log_with bytes limits threads last_tags = record { digest = slice_range bytes 7 39; limits = limits; threads = threads; last_tags = last_tags }

-- the log that the bytes behind the headers tell, with nothing behind it
unfoldable pub body_in : Version → Head → List Header → List ℕ → Result Log LogFault
body_in version head headers bytes = do
  reaches bytes (log_end version head headers)
  last_tags ← last_tags_in (steps_of headers) bytes (last_tags_place version head) head.words
  threads ← threads_in head.words headers bytes (entries_place version head) (taken_place version head headers)
  if nat_lt (log_end version head headers) (length bytes) then Err (fault kind.Long (log_end version head headers))
      else Ok (log_with bytes head.limits threads last_tags)

-- the log that the bytes tell in this version, or the first fault
unfoldable pub log_read : Version → List ℕ → Result Log LogFault
log_read version bytes = do
  head ← head_in version bytes
  reaches bytes (last_tags_place version head)
  headers ← headers_in version head bytes
  body_in version head headers bytes
