-- For each source of a word and each thread, before how many of the thread's sources it may not come.
use Rattle.std.specs.Prelude.{◌≡◌, ℕ, ◌+◌, ◌*◌, ◌<◌, ◌≤◌, Bool, true, false, ◌&&◌, not, List, length, slice_index}
use Rattle.replay_model.specs.Logs.{Log}
use Rattle.constraints.specs.Constraints.{sources_of, group_of}
use Rattle.races.specs.declared.table.Table.{Table}
use Rattle.races.specs.declared.table.Row.{Row}
use Rattle.races.specs.Shut.{shuts, IsFront}
use Rattle.races.specs.Bounds.{AreTops, AreFloors}

-- where each thread's sources of the word begin, and at the end their number
pub record AreStarts (log : Log) (word : ℕ) (starts : List ℕ) : Type 0 where
  pub size : length starts ≡ length log.threads + 1
  pub first : slice_index starts 0 ≡ 0
  pub last : slice_index starts (length log.threads) ≡ length (sources_of log word)
  pub begin : (t : ℕ) → t < length log.threads → slice_index starts t ≡ (group_of log word t).0
  pub end : (t : ℕ) → t < length log.threads → slice_index starts (t + 1) ≡ (group_of log word t).1

-- the ends of one source's fronts, one for each thread
abbrev pub AreFronts : Log → ℕ → ℕ → ℕ → (ℕ → ℕ) → Type 0
AreFronts log word i threads end = (t : ℕ) → t < threads → IsFront (shuts log word i) (group_of log word t).0 (group_of log word t).1 (end t)

-- those of so many sources
pub record AreEnds (log : Log) (word threads sources : ℕ) (ends : List ℕ) : Type 0 where
  pub size : length ends ≡ sources * threads
  pub fronts : (i : ℕ) → i < sources → AreFronts log word i threads (λ t. slice_index ends (i * threads + t))

pub record IsTable (log : Log) (word : ℕ) (table : Table) : Type 0 where
  pub threads : table.threads ≡ length log.threads
  pub sources : table.sources ≡ length (sources_of log word)
  pub starts : AreStarts log word table.starts.items
  pub ends : AreEnds log word table.threads table.sources table.ends.items
  pub tops : AreTops table.threads table.threads table.starts.items table.ends.items table.tops.items
  pub floors : AreFloors table.threads table.threads table.starts.items table.ends.items table.floors.items

-- a place among the word's sources, with its thread
pub record IsRow (log : Log) (row : Row) : Type 0 where
  pub thread : row.thread < length log.threads
  pub begin : (group_of log row.word row.thread).0 ≤ row.place
  pub end : row.place < (group_of log row.word row.thread).1

-- the places from one to another are those of sources of one thread
abbrev pub IsStretch : Log → ℕ → ℕ → ℕ → Type 0
IsStretch log word from to = (t : ℕ) × (t < length log.threads) × ((group_of log word t).0 ≤ from) × (to ≤ (group_of log word t).1)

-- neither of two sources may not come first, and both may not
abbrev pub opens : Log → ℕ → ℕ → ℕ → Bool
opens log word i j = not (shuts log word i j) && not (shuts log word j i)

abbrev pub sticks : Log → ℕ → ℕ → ℕ → Bool
sticks log word i j = shuts log word i j && shuts log word j i

-- the first number from one to another that passes a test, or the end
pub record IsNext (test : ℕ → Bool) (from to next : ℕ) : Type 0 where
  pub low : from ≤ next
  pub high : next ≤ to
  pub none : (j : ℕ) → from ≤ j → j < next → test j ≡ false
  pub found : next < to → test next ≡ true
