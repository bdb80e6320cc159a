-- The log of a thread after one more read, as it can be kept while the thread runs.
use Rattle.std.specs.Prelude.{ℕ, Bool, ◌&&◌, ◌==◌, if◌then◌else◌, List, [], ◌∷◌, ◌++◌, map}
use Rattle.std.specs.List.{list_any}
use Rattle.replay_model.specs.Steps.{Tag, same_tag}
use Rattle.replay_model.specs.ThreadLogs.{Entry}

-- whether the entry is that of this word and tag
abbrev pub is_entry_for : ℕ → Tag → Entry → Bool
is_entry_for word tag entry = (word == entry.word) && same_tag tag entry.source

-- the entry after step n found this tag in this word
abbrev pub touched : ℕ → Tag → ℕ → Entry → Entry
touched word tag n entry = record {
  word = entry.word;
  source = entry.source;
  first = entry.first;
  last = if is_entry_for word tag entry then n else entry.last;
}

-- the entries after step n found this tag in this word: the pair's entry now ends there, or the pair has a new entry at the end
abbrev pub with_read : ℕ → Tag → ℕ → List Entry → List Entry
with_read word tag n entries =
    map (touched word tag n) entries ++
    (if list_any (is_entry_for word tag) entries then [] else record { word = word; source = tag; first = n; last = n } ∷ [])
