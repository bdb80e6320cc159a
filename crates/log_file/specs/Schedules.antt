-- Schedules as bytes: the one text of an order of events, and the first fault of other bytes.
use Rattle.std.specs.Prelude.{◌≡◌, ℕ, ◌+◌, ◌*◌, ◌<◌, ◌^◌, not, nat_eq, nat_lt, if◌then◌else◌, List, ◌++◌, length, codes, All, Option, Some, None, Result, Ok, Err}
use Rattle.std.specs.Option.{ok_or}
use Rattle.std.specs.List.{flat_map, starts_with}
use Rattle.std.specs.Int.{w32, to_be_bytes}
use Rattle.light_base.specs.declared.tag.Event.{Event}
use Rattle.light_base.specs.Tags.{HasTag, bits_of, writer_of}
use Rattle.machine.specs.Reading.{GivesUnless, ◌>>=◌}
pub use Rattle.log_file.specs.declared.sched_fault.SchedFault.{SchedFault}
pub use Rattle.log_file.specs.declared.sched_fault.SchedKind.{SchedKind}
use Rattle.log_file.specs.declared.sched_fault.SchedKind.TheVariants as kind
use Rattle.log_file.specs.LogReading.{number_at, is_tag}
use Rattle.log_file.specs.Rows.{◌>>◌, rows}

-- the number of a kind
abbrev pub number_of_kind : SchedKind → ℕ
number_of_kind kind.Short = 1
number_of_kind kind.Magic = 2
number_of_kind kind.Event = 3
number_of_kind kind.Long = 4
number_of_kind kind.Memory = 5

-- a fault at a place
abbrev pub fault : SchedKind → ℕ → SchedFault
fault k at = record { kind = k; at = at }

-- the fault that tells of a request for memory that was refused
abbrev pub out_of_memory : SchedFault
out_of_memory = fault kind.Memory 0

-- ---- spelling

-- how each schedule begins
abbrev pub magic : List ℕ
magic = codes "LSC1"

-- an event, as the number of its tag
abbrev pub event_bytes : Event → List ℕ
event_bytes event = to_be_bytes w32 (bits_of (Some event))

-- the number of events, and the events
abbrev pub schedule_text : List Event → List ℕ
schedule_text order = magic ++ to_be_bytes w32 (length order) ++ flat_map event_bytes order

-- these bytes are the text of this order
pub record IsSchedule (bytes : List ℕ) (order : List Event) : Type 0 where
  pub events : All HasTag order
  pub few : length order < 2 ^ 32
  pub spelled : bytes ≡ schedule_text order

-- ---- reading

-- the bytes reach a place: where they end before it, they are too short
unfoldable pub reaches : List ℕ → ℕ → Result (Prim.Unit {0}) SchedFault
reaches bytes place = if nat_lt (length bytes) place then Err (fault kind.Short (length bytes)) else Ok tt

-- the event whose tag has this number
unfoldable pub event_in : ℕ → Option Event
event_in bits = if is_tag bits then writer_of bits else None

-- the event behind these, of which a fault tells the number
abbrev pub next_event : List ℕ → List Event → Result Event SchedFault
next_event bytes before = ok_or (event_in (number_at bytes (8 + 4 * length before))) (fault kind.Event (length before))

-- so many events
abbrev pub events_in : List ℕ → ℕ → Result (List Event) SchedFault
events_in bytes count = rows (next_event bytes) count

-- how many events there are, behind the beginning
unfoldable pub count_in : List ℕ → Result ℕ SchedFault
count_in bytes = do
  reaches bytes 8
  if not (starts_with nat_eq bytes magic) then Err (fault kind.Magic 0) else Ok (number_at bytes 4)

-- the order whose text the bytes are, or the first fault
unfoldable pub schedule_read : List ℕ → Result (List Event) SchedFault
schedule_read bytes = do
  count ← count_in bytes
  reaches bytes (8 + 4 * count)
  events ← events_in bytes count
  if nat_lt (8 + 4 * count) (length bytes) then Err (fault kind.Long (8 + 4 * count)) else Ok events

-- what a function returned, seen by view, is what reading gives, unless memory ran out
abbrev pub Gives : {X Y : Type 0} → (X → Y) → Result X SchedFault → Result Y SchedFault → Type 0
Gives view r read = GivesUnless out_of_memory view r read

-- bytes that stand behind the text of an order are too many, from the text's end on
abbrev pub MoreIsTooLong : Type 0
MoreIsTooLong = (bytes more : List ℕ) (order : List Event) → IsSchedule bytes order → 0 < length more →
    schedule_read (bytes ++ more) ≡ Err (fault kind.Long (length bytes))
