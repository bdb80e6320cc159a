-- The log of one thread: which write each of its reads saw.
use Rattle.std.specs.Prelude.{ℕ, ◌+◌, Bool, false, ◌&&◌, ◌==◌, if◌then◌else◌, nat_le, max, Option, Some, None, List, [], ◌∷◌, ◌++◌, length}
use Rattle.replay_model.specs.Steps.{Tag, Cell, Step, same_tag, word_of}
pub use Rattle.replay_model.specs.declared.Entry.{Entry}

-- whether a cell found in the word `at` is this word with this tag
abbrev pub is_sight : ℕ → Tag → ℕ → Option Cell → Bool
is_sight word tag at None = false
is_sight word tag at (Some cell) = (at == word) && same_tag cell.tag tag

-- whether the step found this tag in this word
abbrev pub saw : ℕ → Tag → Step → Bool
saw word tag step = is_sight word tag (word_of step.want) step.found

-- the numbers of the steps that found this tag in this word; n is the number of the first step of the list
abbrev pub numbers : ℕ → Tag → ℕ → List Step → List ℕ
numbers word tag n [] = []
numbers word tag n (step ∷ steps) = (if saw word tag step then n ∷ [] else []) ++ numbers word tag (n + 1) steps

-- the least of numbers that rise
abbrev pub least : List ℕ → ℕ
least [] = 0
least (n ∷ rest) = n

abbrev pub greatest : List ℕ → ℕ
greatest [] = 0
greatest (n ∷ rest) = max n (greatest rest)

-- the entry of what step n found, at the first step that found it
abbrev pub entry_at : List Step → ℕ → ℕ → Option Cell → List Entry
entry_at steps n word None = []
entry_at steps n word (Some cell) =
    let ns = numbers word cell.tag 1 steps in
    if least ns == n then record { word = word; source = cell.tag; first = n; last = greatest ns } ∷ [] else []

abbrev pub entries_from : List Step → ℕ → List Step → List Entry
entries_from steps n [] = []
entries_from steps n (step ∷ rest) = entry_at steps n (word_of step.want) step.found ++ entries_from steps (n + 1) rest

-- one entry for each pair of word and tag that the steps found, with the least and the greatest number of such a step, by rising first
unfoldable pub thread_log : List Step → List Entry
thread_log steps = entries_from steps 1 steps

-- whether the log has as many entries as the limit says
abbrev pub is_full : ℕ → List Step → Bool
is_full limit steps = nat_le limit (length (thread_log steps))
