-- What a search for a placing keeps: the steps that have a place, their numbers, edges and rows.
use Rattle.std.specs.Prelude.{◌≡◌, ℕ, ◌+◌, ◌<◌, ◌^◌, Bool, true, false, nat_lt, Option, Some, None, IfSome, option_map, Contains, All, List, [], ◌∷◌, ◌++◌, length, map, slice_index_or}
use Rattle.std.specs.List.{flat_map, range_with_len, count_by}
use Rattle.light_base.specs.declared.tag.Event.{Event}
use Rattle.light_base.specs.declared.tag.Tag.{Tag}
use Rattle.plain_search.specs.declared.Edge.{Edge}
use Rattle.replay_model.specs.Steps.{Step}
use Rattle.replay_model.specs.Logs.{Log, thread_of}
use Rattle.replay_model.specs.Orders.{place}
use Rattle.replay_model.specs.WellFormed.{IsWellFormed}
use Rattle.machine.specs.Programs.{ProgramValue}
use Rattle.history.specs.HistoryLogs.{FitsProgram}
use Rattle.constraints.specs.declared.placed.Placed.{Placed}
use Rattle.constraints.specs.Positions.{no_event, thread_numbers, IsListed}
use Rattle.constraints.specs.Constraints.{edges_to}
use Rattle.constraints.specs.Building.{HasEvents, placed_in, placed_edges}
use Rattle.order_solver.specs.Rivals.{Rivalry}
use Rattle.replayer.specs.declared.notes.Written.{Written}
use Rattle.replayer.specs.Replays.{replay_by}
use Rattle.audit.specs.declared.rows.Mark.{Mark}
use Rattle.audit.specs.Positions.{placed_list, placed_counts, placed_at, positions_where}
use Rattle.audit.specs.Constraints.{writes_to, is_last_of, base_of}
use Rattle.audit.specs.Rivalries.{rivalry_of}
use Rattle.audit.specs.NextSet.{AreNextSet}
use Rattle.audit.specs.Rows.{row_at}

-- a list of steps, by thread and then by number, that has all steps which the log names
pub record HasSteps (steps : List Event) (log : Log) : Type 0 where
  pub order : IsListed steps
  pub small : length steps < 2 ^ 32
  pub entries : (t : ℕ) → All (HasEvents steps t) (thread_of log t).entries
  pub last_tags : All (λ (tag : Tag). IfSome tag (λ (e : Event). Contains steps e)) log.last_tags

-- the log's entries by positions in such a list, thread after thread
abbrev pub placed_entries_in : List Event → Log → List Placed
placed_entries_in steps log = flat_map (λ t. map (placed_in steps t) (thread_of log t).entries) (thread_numbers log)

-- a write, in the row of its word
abbrev pub write_mark : List Event → Written → Mark
write_mark steps write = record { row = write.word; number = place steps write.event }

-- the last read of an entry, in the row of its source
abbrev pub read_mark : Placed → Option Mark
read_mark placed = option_map (λ source. record { row = source; number = placed.last }) placed.source

-- each other write to a word before its last tag, by positions
abbrev pub word_edges_in : List ℕ → Option ℕ → List Edge
word_edges_in writes None = []
word_edges_in writes (Some last) = edges_to writes last

-- the base edges by positions
abbrev pub base_in : List (List ℕ) → List (Option ℕ) → List Placed → List Edge
base_in sources last_tags placed =
    flat_map (placed_edges sources last_tags) placed ++
    flat_map (λ word. word_edges_in (row_at sources word) (slice_index_or last_tags word None)) (range_with_len 0 (length sources))

-- whether the step at a position is of a thread below this one
abbrev pub below : List Event → ℕ → ℕ → Bool
below steps thread p = nat_lt (slice_index_or steps p no_event).thread thread

-- where the positions of each thread begin among these, and at the end their number
abbrev pub starts_in : List Event → ℕ → List ℕ → List ℕ
starts_in steps threads positions = map (λ t. count_by (below steps t) positions) (range_with_len 0 (threads + 1))

abbrev pub has_numbers : List ℕ → Bool
has_numbers [] = false
has_numbers (n ∷ numbers) = true

-- which of the positions have a row with numbers
abbrev pub read_flags : List (List ℕ) → List ℕ → List Bool
read_flags lasts positions = map (λ p. has_numbers (row_at lasts p)) positions

-- from each place the next one of them
abbrev pub AreNexts : List (List ℕ) → List ℕ → List ℕ → Type 0
AreNexts lasts positions nexts = AreNextSet (read_flags lasts positions) nexts

-- ---- of a program, a log, and an order by which the log was replayed

pub record Audited : Type 0 where
  pub program : ProgramValue
  pub log : Log
  pub order : List Event

abbrev pub runs_in : Audited → List (List Step)
runs_in a = (replay_by a.program a.log a.order).threads

-- what is searched for a placing of these runs
abbrev pub rivalry_in : Audited → Rivalry
rivalry_in a = rivalry_of a.log (runs_in a)

-- the positions of the last reads that entries tell of, of the write at position s
abbrev pub reads_at : Log → List (List Step) → ℕ → List ℕ
reads_at log runs s = positions_where log runs (is_last_of log (Some (placed_at log runs s)))

-- these are the writes to each word, and the last reads of the step at each position
pub record AreTheRows (log : Log) (runs : List (List Step)) (sources lasts : List (List ℕ)) : Type 0 where
  pub words : length sources ≡ length log.last_tags
  pub written : (word : ℕ) → word < length log.last_tags → row_at sources word ≡ writes_to log runs word
  pub positions : length lasts ≡ length (placed_list log runs)
  pub read : (s : ℕ) → s < length (placed_list log runs) → row_at lasts s ≡ reads_at log runs s

-- all that is kept is that of the runs, which fit the log
pub record IsPlacing (a : Audited) (steps : List Event) (counts : List ℕ) (base : List Edge) (sources lasts starts nexts : List (List ℕ)) : Type 0 where
  pub formed : IsWellFormed a.log
  pub fits : FitsProgram a.program a.log (runs_in a)
  pub small : length steps < 2 ^ 32
  pub listed : steps ≡ placed_list a.log (runs_in a)
  pub counted : counts ≡ placed_counts a.log (runs_in a)
  pub edges : base ≡ base_of a.log (runs_in a)
  pub rows : AreTheRows a.log (runs_in a) sources lasts
  pub begun : starts ≡ map (starts_in steps (length a.log.threads)) sources
  pub many : length nexts ≡ length sources
  pub next : (word : ℕ) → word < length sources → AreNexts lasts (row_at sources word) (row_at nexts word)
