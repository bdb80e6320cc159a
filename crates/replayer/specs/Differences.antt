-- The first difference between two logs.
use Rattle.std.specs.Prelude.{◌≡◌, ◌≢◌, ℕ, ◌+◌, Option, None, Some, slice_get, List, [], ◌∷◌, ◌++◌, length, map, MatchOption}
use Rattle.replay_model.specs.declared.Entry.{Entry}
use Rattle.replay_model.specs.declared.End.{End}
use Rattle.replay_model.specs.Steps.{Tag}
use Rattle.replay_model.specs.Logs.{ThreadLog, Log}
use Rattle.replayer.specs.declared.difference.Kept.{Kept}
use Rattle.replayer.specs.declared.difference.Kept.TheVariants as kept
use Rattle.replayer.specs.declared.difference.Difference.{Difference}

-- what is compared of a thread; of the input numbers that it took, how many they are
pub record Part : Type 0 where
  pub entries : List Entry
  pub steps : ℕ
  pub instr : ℕ
  pub end : End
  pub taken : ℕ

abbrev pub part_of : ThreadLog → Part
part_of thread = record { entries = thread.entries; steps = thread.steps; instr = thread.instr; end = thread.end; taken = length thread.taken }

abbrev pub tail_of : Part → Kept
tail_of part = kept.Tail part.steps part.instr part.end part.taken

-- what is kept at one place
pub record Item : Type 0 where
  pub thread : ℕ
  pub entry : ℕ
  pub kept : Kept

-- the entries of thread t, the first of them being number k, and then its tail
abbrev pub entry_items : ℕ → ℕ → List Entry → Kept → List Item
entry_items t k [] tail = record { thread = t; entry = k; kept = tail } ∷ []
entry_items t k (e ∷ entries) tail = record { thread = t; entry = k; kept = kept.Entry e } ∷ entry_items t (k + 1) entries tail

-- those of all threads, the first of them being thread t
abbrev pub thread_items : ℕ → List Part → List Item
thread_items t [] = []
thread_items t (part ∷ parts) = entry_items t 0 part.entries (tail_of part) ++ thread_items (t + 1) parts

-- the last tags, with the number of threads in place of a thread, the first of them being that of word w
abbrev pub tag_items : ℕ → ℕ → List Tag → List Item
tag_items count w [] = []
tag_items count w (tag ∷ tags) = record { thread = count; entry = w; kept = kept.LastTag tag } ∷ tag_items count (w + 1) tags

-- all that is compared, in this order
abbrev pub items_of : List Part → List Tag → List Item
items_of parts last_tags = thread_items 0 parts ++ tag_items (length parts) 0 last_tags

abbrev pub items : Log → List Item
items log = items_of (map part_of log.threads) log.last_tags

-- up to this place the two lists keep the same, and here they differ
pub record DifferFirst (logged found : List Item) (difference : Difference) : Type 0 where
  pub before : List Item
  pub rest_logged : List Item
  pub rest_found : List Item
  pub logged_is : logged ≡ before ++ record { thread = difference.thread; entry = difference.entry; kept = difference.logged } ∷ rest_logged
  pub found_is : found ≡ before ++ record { thread = difference.thread; entry = difference.entry; kept = difference.found } ∷ rest_found
  pub unequal : difference.logged ≢ difference.found

-- ---- what comparing answers: none where both are the same, and else the first difference

-- the last tags
abbrev pub TagsCompared : ℕ → List Tag → List Tag → Option Difference → Type 0
TagsCompared threads logged found answer =
    MatchOption answer (logged ≡ found) (DifferFirst (tag_items threads 0 logged) (tag_items threads 0 found))

-- the threads
abbrev pub PartsCompared : List Part → List Part → Option Difference → Type 0
PartsCompared logged found answer = MatchOption answer (logged ≡ found) (DifferFirst (thread_items 0 logged) (thread_items 0 found))

-- all
abbrev pub LogCompared : Log → List Part → List Tag → Option Difference → Type 0
LogCompared log parts tags answer =
    MatchOption answer ((map part_of log.threads ≡ parts) × (log.last_tags ≡ tags)) (DifferFirst (items log) (items_of parts tags))

abbrev pub IsFirstDifference : Log → Log → Difference → Type 0
IsFirstDifference logged found difference = DifferFirst (items logged) (items found) difference

-- ---- one place of a thread

-- what stands at place k: an entry, or the tail after the last one
abbrev pub kept_or : Kept → Option Entry → Kept
kept_or tail None = tail
kept_or tail (Some entry) = kept.Entry entry

abbrev pub kept_at : Part → ℕ → Kept
kept_at part k = kept_or (tail_of part) (slice_get part.entries k)

-- the places of a thread
abbrev pub part_items : ℕ → Part → List Item
part_items t part = entry_items t 0 part.entries (tail_of part)
