-- The log of a thread's accesses: which write each of its reads saw. It says of accesses, which carry their numbers, what the log of a thread says of its steps.
use Rattle.std.specs.Prelude.{ℕ, ◌==◌, if◌then◌else◌, Option, Some, None, List, [], ◌∷◌, ◌++◌, ◌<◌}
pub use Rattle.replay_model.specs.declared.Access.{Access}
use Rattle.replay_model.specs.Steps.{Tag, Cell}
pub use Rattle.replay_model.specs.declared.Entry.{Entry}
use Rattle.replay_model.specs.ThreadLogs.{is_sight, least, greatest}
use Rattle.replay_model.specs.MoreReads.{with_read}

-- the numbers of the accesses rise, the first of them being greater than n
abbrev pub RiseAbove : ℕ → List Access → Type 0
RiseAbove n [] = Prim.Unit {0}
RiseAbove n (access ∷ accesses) = (n < access.step) × RiseAbove access.step accesses

-- the numbers of the accesses that found this tag in this word
abbrev pub sights : ℕ → Tag → List Access → List ℕ
sights word tag [] = []
sights word tag (access ∷ accesses) = (if is_sight word tag access.word access.saw then access.step ∷ [] else []) ++ sights word tag accesses

-- the entry of what access n found, at the first access that found it
abbrev pub entry_of : List Access → ℕ → ℕ → Option Cell → List Entry
entry_of accesses n word None = []
entry_of accesses n word (Some cell) =
    let ns = sights word cell.tag accesses in
    if least ns == n then record { word = word; source = cell.tag; first = n; last = greatest ns } ∷ [] else []

abbrev pub entries_of_all : List Access → List Access → List Entry
entries_of_all accesses [] = []
entries_of_all accesses (access ∷ rest) = entry_of accesses access.step access.word access.saw ++ entries_of_all accesses rest

-- one entry for each pair of word and tag that the accesses found, with the least and the greatest number of such an access, by rising first
unfoldable pub access_log : List Access → List Entry
access_log accesses = entries_of_all accesses accesses

-- the entries after step n found this in the word
abbrev pub with_found : ℕ → ℕ → Option Cell → List Entry → List Entry
with_found n word None entries = entries
with_found n word (Some cell) entries = with_read word cell.tag n entries

-- the entries after one more access
abbrev pub noted : Access → List Entry → List Entry
noted access entries = with_found access.step access.word access.saw entries
