-- What the parts of a problem are made of: the tags that a log names, its entries by positions, and rows of numbers.
use Rattle.std.specs.Prelude.{◌≡◌, ℕ, ◌+◌, ◌-◌, Bool, false, if◌then◌else◌, not, ◌&&◌, ◌==◌, nat_lt, Option, Some, None, is_some, option_map, IfSome, Contains, List, [], ◌∷◌, ◌++◌, length, map, slice_index_or}
use Rattle.std.specs.List.{flat_map, range_with_len, count_by, AllPairs}
use Rattle.std.specs.Ordering.{nat_cmp, ordering_then, is_le}
use Rattle.std.specs.declared.cmp.Ordering.{Ordering}
use Rattle.std.specs.declared.cmp.Ordering.TheVariants.{Less}
use Rattle.light_base.specs.declared.tag.Event.{Event}
use Rattle.light_base.specs.declared.tag.Tag.{Tag}
use Rattle.plain_search.specs.declared.Edge.{Edge}
use Rattle.plain_search.specs.Chains.{arrow}
use Rattle.replay_model.specs.declared.Entry.{Entry}
use Rattle.replay_model.specs.Logs.{Log, thread_of, first_event, last_event}
use Rattle.constraints.specs.declared.placed.Placed.{Placed}
use Rattle.constraints.specs.declared.reads.Read.{Read}
use Rattle.constraints.specs.declared.reads.Key.{Key}
use Rattle.replay_model.specs.Orders.{place}
use Rattle.constraints.specs.Positions.{thread_numbers, event_list}
use Rattle.constraints.specs.Constraints.{sources_of, last_reads_from, edges_to, edges_from}

-- the tags that an entry of thread t names
abbrev pub mentioned_by : ℕ → Entry → List Tag
mentioned_by t entry = entry.source ∷ Some (first_event t entry) ∷ Some (last_event t entry) ∷ []

-- the tags that a log names
abbrev pub mentioned_tags : Log → List Tag
mentioned_tags log = flat_map (λ t. flat_map (mentioned_by t) (thread_of log t).entries) (thread_numbers log) ++ log.last_tags

-- the number of events of the threads before thread t
abbrev pub started_before : List Event → ℕ → ℕ
started_before events t = count_by (λ (e : Event). nat_lt e.thread t) events

-- where the events of each thread begin, and the number of events at the end
abbrev pub starts_of : List Event → ℕ → List ℕ
starts_of events threads = map (started_before events) (range_with_len 0 (threads + 1))

-- the number of events of each thread
abbrev pub event_counts : List Event → ℕ → List ℕ
event_counts events threads = map (λ t. started_before events (t + 1) - started_before events t) (range_with_len 0 threads)

-- an entry of thread t by positions in a list of events
abbrev pub placed_in : List Event → ℕ → Entry → Placed
placed_in events t entry = record {
  word = entry.word;
  source = option_map (place events) entry.source;
  first = place events (first_event t entry);
  last = place events (last_event t entry);
}

-- the log's entries by positions, thread after thread
abbrev pub placed_entries : Log → List Placed
placed_entries log = flat_map (λ t. map (placed_in (event_list log) t) (thread_of log t).entries) (thread_numbers log)

-- the log's last tags by positions
abbrev pub placed_last_tags : Log → List (Option ℕ)
placed_last_tags log = map (option_map (place (event_list log))) log.last_tags

-- the list has the events that an entry of thread t names
pub record HasEvents (events : List Event) (t : ℕ) (entry : Entry) : Type 0 where
  pub source : IfSome entry.source (λ (e : Event). Contains events e)
  pub first : Contains events (first_event t entry)
  pub last : Contains events (last_event t entry)

-- what an entry says of a word's source that is not initial
abbrev pub read_of : Placed → Option Read
read_of placed = option_map (λ source. record { word = placed.word; source = source; last = placed.last }) placed.source

-- which source of which word
abbrev pub key_of : Read → Key
key_of read = record { word = read.word; source = read.source }

-- whether there is a number, and it is this one
abbrev pub is_at : Option ℕ → ℕ → Bool
is_at None n = false
is_at (Some m) n = m == n

-- what an entry's source asks for, by positions
abbrev pub placed_source_edges : List (List ℕ) → Placed → Option ℕ → List Edge
placed_source_edges sources placed None = edges_from placed.last (slice_index_or sources placed.word [])
placed_source_edges sources placed (Some source) = arrow source placed.first ∷ []

-- the most edges that this may be
abbrev pub source_room : List (List ℕ) → Placed → Option ℕ → ℕ
source_room sources placed None = length (slice_index_or sources placed.word [])
source_room sources placed (Some source) = 1

-- what the word's last tag asks for
abbrev pub placed_last_tag_edges : Placed → Option ℕ → List Edge
placed_last_tag_edges placed None = []
placed_last_tag_edges placed (Some final) = if is_at placed.source final then [] else edges_to (placed.last ∷ []) final

abbrev pub placed_edges : List (List ℕ) → List (Option ℕ) → Placed → List Edge
placed_edges sources last_tags placed = placed_source_edges sources placed placed.source ++ placed_last_tag_edges placed (slice_index_or last_tags placed.word None)

-- whether the entry is of a word whose last tag is initial, and has another source
abbrev pub is_shut : List (Option ℕ) → Placed → Bool
is_shut last_tags placed = not (is_some (slice_index_or last_tags placed.word None)) && is_some placed.source

-- by word, then by source, and then by last
abbrev pub read_cmp : Read → Read → Ordering
read_cmp a b = ordering_then (nat_cmp a.word b.word) (ordering_then (nat_cmp a.source b.source) (nat_cmp a.last b.last))

-- by word, and then by source
abbrev pub key_cmp : Key → Key → Ordering
key_cmp a b = ordering_then (nat_cmp a.word b.word) (nat_cmp a.source b.source)

-- keys, each once and in order
abbrev pub AreInOrder : List Key → Type 0
AreInOrder keys = AllPairs (λ (a b : Key). key_cmp a b ≡ Less) keys

-- reads, each once and in order
abbrev pub AreReadsInOrder : List Read → Type 0
AreReadsInOrder reads = AllPairs (λ (a b : Read). read_cmp a b ≡ Less) reads

-- whether the read is of a key up to this one
abbrev pub is_read_up_to : Key → Read → Bool
is_read_up_to key read = is_le (key_cmp (key_of read) key)

-- the keys are those of the log's sources
pub record AreKeys (log : Log) (keys : List Key) : Type 0 where
  pub all : (word source : ℕ) → Contains (sources_of log word) source → Contains keys (record { word = word; source = source })
  pub only : (key : Key) → Contains keys key → Contains (sources_of log key.word) key.source

-- the reads are those of the last reads of the log's sources
pub record AreReads (log : Log) (reads : List Read) : Type 0 where
  pub all : (word source last : ℕ) → Contains (sources_of log word) source → Contains (last_reads_from log word source) last →
      Contains reads (record { word = word; source = source; last = last })
  pub only : (read : Read) → Contains reads read → Contains (sources_of log read.word) read.source × Contains (last_reads_from log read.word read.source) read.last

-- the sources of each word, and the last reads of each source, word after word
abbrev pub source_rows : Log → List (List ℕ)
source_rows log = map (sources_of log) (range_with_len 0 (length log.last_tags))

abbrev pub last_rows : Log → List (List ℕ)
last_rows log = flat_map (λ word. map (last_reads_from log word) (sources_of log word)) (range_with_len 0 (length log.last_tags))
