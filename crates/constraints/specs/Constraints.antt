-- The constraints of a log: edges between positions of its events that hold in every order that respects it, and for each
-- two sources of a word two sides, lists of edges of which one has to hold whole.
use Rattle.std.specs.Prelude.{ℕ, Bool, if◌then◌else◌, not, ◌&&◌, ◌==◌, max, nat_lt, nat_le, Some, None, List, [], ◌∷◌, ◌++◌, length, map, filter, slice_index}
use Rattle.std.specs.List.{flat_map, range_with_len, list_any, count_by, sum_by}
use Rattle.plain_search.specs.declared.Edge.{Edge}
use Rattle.plain_search.specs.Chains.{arrow, chains_from}
use Rattle.plain_search.specs.Searches.{Pair, PairProblem, problem_of, dead_ends}
use Rattle.light_base.specs.declared.tag.Event.{Event}
use Rattle.light_base.specs.declared.tag.Tag.{Tag}
use Rattle.replay_model.specs.Steps.{same_tag}
use Rattle.replay_model.specs.declared.Entry.{Entry}
use Rattle.replay_model.specs.Logs.{ThreadLog, Log, thread_of, last_tag, first_event, last_event}
use Rattle.constraints.specs.Positions.{thread_numbers, event_at, position_of, positions_where, counts_of}

-- whether the entry is of this word and this source
abbrev pub is_entry_of : ℕ → Tag → Entry → Bool
is_entry_of word source entry = (entry.word == word) && same_tag entry.source source

-- whether the event is a source of the word
abbrev pub is_source_of : Log → ℕ → Event → Bool
is_source_of log word e = list_any (λ (thread : ThreadLog). list_any (is_entry_of word (Some e)) thread.entries) log.threads

-- whether the event is the last of an entry of this word and this source
abbrev pub is_last_of : Log → ℕ → Tag → Event → Bool
is_last_of log word source e = list_any (λ (entry : Entry). is_entry_of word source entry && (e.step == entry.last)) (thread_of log e.thread).entries

-- the positions of the word's sources that are not initial, by rising tag
unfoldable pub sources_of : Log → ℕ → List ℕ
sources_of log word = positions_where log (is_source_of log word)

-- the positions of the last reads of the entries of the word whose source stands at position s
unfoldable pub last_reads_from : Log → ℕ → ℕ → List ℕ
last_reads_from log word s = positions_where log (is_last_of log word (Some (event_at log s)))

-- the positions of the last reads of the entries with the word's i-th source
abbrev pub last_reads_of : Log → ℕ → ℕ → List ℕ
last_reads_of log word i = last_reads_from log word (slice_index (sources_of log word) i)

-- an edge from each of these to one position, but none from that to itself
abbrev pub edges_to : List ℕ → ℕ → List Edge
edges_to froms to = map (λ from. arrow from to) (filter (λ from. not (from == to)) froms)

-- an edge from one position to each of these, but none to itself
abbrev pub edges_from : ℕ → List ℕ → List Edge
edges_from from tos = map (arrow from) (filter (λ to. not (from == to)) tos)

-- what an entry's source asks for: it stands before the entry's first; where it is the initial contents, the entry's last stands
-- before each source of the word, or is it
abbrev pub source_edges : Log → ℕ → Entry → Tag → List Edge
source_edges log t entry None = edges_from (position_of log (last_event t entry)) (sources_of log entry.word)
source_edges log t entry (Some source) = arrow (position_of log source) (position_of log (first_event t entry)) ∷ []

-- what the word's last tag asks for: the entry's last stands before it or is it, where the entry has another source
abbrev pub last_tag_edges : Log → ℕ → Entry → Tag → List Edge
last_tag_edges log t entry None = []
last_tag_edges log t entry (Some last) =
    if same_tag entry.source (Some last) then [] else edges_to (position_of log (last_event t entry) ∷ []) (position_of log last)

abbrev pub entry_edges : Log → ℕ → Entry → List Edge
entry_edges log t entry = source_edges log t entry entry.source ++ last_tag_edges log t entry (last_tag log entry.word)

-- the base edges, without those of thread order: what each entry asks for, thread after thread
unfoldable pub base_of : Log → List Edge
base_of log = flat_map (λ t. flat_map (entry_edges log t) (thread_of log t).entries) (thread_numbers log)

-- a rival pair: two sources of a word, the lesser and the greater one. One of them comes first: the last reads of all entries with
-- that source stand before the other one, or are it
abbrev pub pair_of : Log → ℕ → ℕ → ℕ → Pair
pair_of log word s t = record { lesser = edges_to (last_reads_from log word s) t; greater = edges_to (last_reads_from log word t) s }

-- each of a list with each later one
abbrev pub pairs_among : (ℕ → ℕ → Pair) → List ℕ → List Pair
pairs_among pair [] = []
pairs_among pair (s ∷ sources) = map (pair s) sources ++ pairs_among pair sources

-- the rival pairs of a word, by lesser tag and greater tag
abbrev pub pairs_at : Log → ℕ → List Pair
pairs_at log word = pairs_among (pair_of log word) (sources_of log word)

-- the rival pairs, by word, lesser tag and greater tag
unfoldable pub pairs_of : Log → List Pair
pairs_of log = flat_map (pairs_at log) (range_with_len 0 (length log.last_tags))

-- the base edges, thread order first, and the rival pairs
abbrev pub problem_of_log : Log → PairProblem
problem_of_log log = problem_of (chains_from 0 (counts_of log) ++ base_of log) (pairs_of log)

-- whether the entry is of a word whose last tag is initial, and has another source
abbrev pub is_never_over : Log → Entry → Bool
is_never_over log entry = same_tag (last_tag log entry.word) None && not (same_tag entry.source None)

-- whether some entry is so. Then no order respects the log
unfoldable pub impossible : Log → Bool
impossible log = list_any (λ (thread : ThreadLog). list_any (is_never_over log) thread.entries) log.threads

-- the dead ends of the plain search
abbrev pub dead : Log → ℕ
dead log = dead_ends (impossible log) (problem_of_log log)

-- the places among the word's sources where those of the thread begin and end
abbrev pub group_of : Log → ℕ → ℕ → ℕ × ℕ
group_of log word t =
    (count_by (λ p. nat_lt (event_at log p).thread t) (sources_of log word), count_by (λ p. nat_le (event_at log p).thread t) (sources_of log word))

-- the number of edges of a pair's longer side
abbrev pub longer_side : Pair → ℕ
longer_side pair = max (length pair.lesser) (length pair.greater)

-- the same, summed over pairs
abbrev pub longer_sides : List Pair → ℕ
longer_sides pairs = sum_by longer_side pairs

-- and over all rival pairs
abbrev pub side_edges_of : Log → ℕ
side_edges_of log = longer_sides (pairs_of log)
