-- The log of one thread while it grows.
use Rattle.std.specs.Prelude.{◌≡◌, ℕ, ◌<◌, true, List, [], ◌∷◌, ◌++◌, length, Some, ◌⊎◌}
use Rattle.std.specs.List.{list_any}
use Rattle.replay_model.specs.Steps.{Tag, Cell}
use Rattle.replay_model.specs.declared.Access.{Access}
use Rattle.replay_model.specs.declared.Entry.{Entry}
use Rattle.replay_model.specs.MoreReads.{is_entry_for}
use Rattle.dep_log.specs.AccessLogs.{RiseAbove, access_log}

-- how many words there are, how many entries there may be, for how many of them memory was taken, and the entries
pub record DepLogState : Type 0 where
  pub words : ℕ
  pub limit : ℕ
  pub room : ℕ
  pub entries : List Entry

-- these entries, and memory for as many as there may be
abbrev pub log_with : ℕ → ℕ → List Entry → DepLogState
log_with words limit entries = record { words = words; limit = limit; room = limit; entries = entries }

-- a log without entries
abbrev pub no_entries : ℕ → ℕ → DepLogState
no_entries words limit = log_with words limit []

-- the pair of word and tag has its entry, or there is room for one more
abbrev pub HasRoom : DepLogState → ℕ → Tag → Type 0
HasRoom log word tag = (length log.entries < log.limit) ⊎ (list_any (is_entry_for word tag) log.entries ≡ true)

-- where the old entries are the log of some accesses, the new ones are their log with one more: the access with this number, which found this tag in this word
abbrev pub LogsRead : ℕ → Tag → ℕ → List Entry → List Entry → Type 0
LogsRead word tag n old new = (accesses : List Access) (access : Access) (cell : Cell) →
    access.step ≡ n → access.word ≡ word → access.saw ≡ Some cell → cell.tag ≡ tag →
    RiseAbove 0 (accesses ++ access ∷ []) → access_log accesses ≡ old → access_log (accesses ++ access ∷ []) ≡ new
