-- The constraints of a placing: edges between positions of steps that hold in every one, and for each two writes to a word, one of
-- which was read, two sides, lists of edges of which one has to hold whole.
use Rattle.std.specs.Prelude.{ℕ, Bool, if◌then◌else◌, ◌&&◌, ◌||◌, ◌==◌, is_some, Some, None, List, [], ◌∷◌, ◌++◌, length}
use Rattle.std.specs.List.{flat_map, range_with_len, list_any}
use Rattle.plain_search.specs.declared.Edge.{Edge}
use Rattle.plain_search.specs.Chains.{arrow, chains_from}
use Rattle.plain_search.specs.Searches.{Pair, PairProblem, problem_of, dead_ends}
use Rattle.light_base.specs.declared.tag.Event.{Event}
use Rattle.light_base.specs.declared.tag.Tag.{Tag}
use Rattle.replay_model.specs.Steps.{Step, word_of, wrote, same_tag}
use Rattle.replay_model.specs.declared.Entry.{Entry}
use Rattle.replay_model.specs.Logs.{Log, thread_of, last_tag, first_event, last_event}
use Rattle.replay_model.specs.Events.{names_source}
use Rattle.replay_model.specs.Fitting.{step_at}
use Rattle.constraints.specs.Positions.{thread_numbers}
use Rattle.constraints.specs.Constraints.{edges_to, edges_from, pairs_among}
use Rattle.order_solver.specs.Rivals.{pairs_where}
use Rattle.audit_laws.specs.IdlePairs.{idle}
use Rattle.audit.specs.Positions.{placed_list, placed_counts, placed_at, position_of, positions_where}

-- the word that a step is of
abbrev pub word_at : List (List Step) → Event → ℕ
word_at runs e = word_of (step_at runs e).want

-- whether a step wrote its word
abbrev pub has_written : List (List Step) → Event → Bool
has_written runs e = is_some (wrote (step_at runs e).want (step_at runs e).found)

-- whether it wrote this word
abbrev pub is_write_to : List (List Step) → ℕ → Event → Bool
is_write_to runs word e = (word_at runs e == word) && has_written runs e

-- the positions of the writes to a word, by rising tag
unfoldable pub writes_to : Log → List (List Step) → ℕ → List ℕ
writes_to log runs word = positions_where log runs (is_write_to runs word)

-- whether a read saw the step: it is the source of an entry
abbrev pub is_read : Log → Event → Bool
is_read log e = list_any (names_source (Some e)) log.threads

-- whether the event is the last of an entry of this source
abbrev pub is_last_of : Log → Tag → Event → Bool
is_last_of log source e =
    list_any (λ (entry : Entry). same_tag entry.source source && (e.step == entry.last)) (thread_of log e.thread).entries

-- the positions of the last reads of the write at position s; of a write that nobody read, its own
unfoldable pub last_reads_of : Log → List (List Step) → ℕ → List ℕ
last_reads_of log runs s =
    if is_read log (placed_at log runs s) then positions_where log runs (is_last_of log (Some (placed_at log runs s))) else s ∷ []

-- what an entry's source asks for: it stands before the entry's first; where it is the initial contents, the entry's last stands
-- before each write to the word, or is it
abbrev pub source_edges : Log → List (List Step) → ℕ → Entry → Tag → List Edge
source_edges log runs t entry None = edges_from (position_of log runs (last_event t entry)) (writes_to log runs entry.word)
source_edges log runs t entry (Some source) = arrow (position_of log runs source) (position_of log runs (first_event t entry)) ∷ []

-- what the word's last tag asks for: the entry's last stands before it or is it, where the entry has another source
abbrev pub last_tag_edges : Log → List (List Step) → ℕ → Entry → Tag → List Edge
last_tag_edges log runs t entry None = []
last_tag_edges log runs t entry (Some last) =
    if same_tag entry.source (Some last) then []
    else edges_to (position_of log runs (last_event t entry) ∷ []) (position_of log runs last)

abbrev pub entry_edges : Log → List (List Step) → ℕ → Entry → List Edge
entry_edges log runs t entry = source_edges log runs t entry entry.source ++ last_tag_edges log runs t entry (last_tag log entry.word)

-- each other write to a word stands before its last tag
abbrev pub word_edges : Log → List (List Step) → ℕ → Tag → List Edge
word_edges log runs word None = []
word_edges log runs word (Some last) = edges_to (writes_to log runs word) (position_of log runs last)

-- the base edges, without those of thread order: what each entry asks for, thread after thread, and what each last tag does
unfoldable pub base_of : Log → List (List Step) → List Edge
base_of log runs =
    flat_map (λ t. flat_map (entry_edges log runs t) (thread_of log t).entries) (thread_numbers log) ++
    flat_map (λ word. word_edges log runs word (last_tag log word)) (range_with_len 0 (length log.last_tags))

-- two writes to a word: one of them comes first, and its last reads stand before the other one, or are it
abbrev pub pair_of : Log → List (List Step) → ℕ → ℕ → Pair
pair_of log runs s t = record { lesser = edges_to (last_reads_of log runs s) t; greater = edges_to (last_reads_of log runs t) s }

-- whether one of the two was read. Of two writes that nobody read nothing is asked
abbrev pub one_is_read : Log → List (List Step) → ℕ → ℕ → Bool
one_is_read log runs s t = is_read log (placed_at log runs s) || is_read log (placed_at log runs t)

-- the pairs of a word, by lesser tag and greater tag
abbrev pub pairs_at : Log → List (List Step) → ℕ → List Pair
pairs_at log runs word = pairs_where (one_is_read log runs) (pair_of log runs) (writes_to log runs word)

-- the pairs, by word, lesser tag and greater tag
unfoldable pub pairs_of : Log → List (List Step) → List Pair
pairs_of log runs = flat_map (pairs_at log runs) (range_with_len 0 (length log.last_tags))

-- the same with a pair that asks for nothing for each two writes that nobody read
abbrev pub pair_or_idle : Log → List (List Step) → ℕ → ℕ → Pair
pair_or_idle log runs s t = if one_is_read log runs s t then pair_of log runs s t else idle s

unfoldable pub pairs_with_idle : Log → List (List Step) → List Pair
pairs_with_idle log runs = flat_map (λ word. pairs_among (pair_or_idle log runs) (writes_to log runs word)) (range_with_len 0 (length log.last_tags))

-- the base edges, thread order first, and the pairs
abbrev pub placing_problem : Log → List (List Step) → PairProblem
placing_problem log runs = problem_of (chains_from 0 (placed_counts log runs) ++ base_of log runs) (pairs_of log runs)

-- whether the step wrote a word whose last tag is initial
abbrev pub is_never_last : Log → List (List Step) → Event → Bool
is_never_last log runs e = has_written runs e && same_tag (last_tag log (word_at runs e)) None

-- whether some step did. Then there is no placing
unfoldable pub impossible : Log → List (List Step) → Bool
impossible log runs = list_any (is_never_last log runs) (placed_list log runs)

-- the dead ends of the plain search for a placing
abbrev pub placing_dead : Log → List (List Step) → ℕ
placing_dead log runs = dead_ends (impossible log runs) (placing_problem log runs)
