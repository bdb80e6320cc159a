-- Worked examples: what a placing is, and that a log which a skip play has may be that of no history.
use Rattle.std.specs.Prelude.{◌≡◌, ℕ, List, [], ◌∷◌}
use Rattle.replay_model.specs.Steps.{Event}
use Rattle.replay_model.specs.RunLogs.{HasLog}
use Rattle.replay_laws.specs.Scripts.{Script, one_each}
use Rattle.replay_laws.specs.Examples.{example_end, example_log, at, reads_once, writes}
use Rattle.replay_laws.specs.Examples.{forced_between_threads, forced_between_log, forced_between_end}
use Rattle.audit_laws.specs.Placings.{Places, placing_turns}
use Rattle.audit_laws.specs.PlacingLaws.{IsLegalLog}

-- one thread reads the word, and two write it
abbrev pub blind_scripts : List Script
blind_scripts = reads_once ∷ writes 5 ∷ writes 6 ∷ []

abbrev pub blind_history : List ℕ
blind_history = 0 ∷ 2 ∷ 1 ∷ []

-- the order of a history in which the third thread's store is overwritten unseen
abbrev pub blind_order : List Event
blind_order = at 0 1 ∷ at 2 1 ∷ at 1 1 ∷ []

-- Blind stores: the overwritten store is no event, and has its place; the placing's turns are the history
abbrev pub BlindStoresPlaced : Type 0
BlindStoresPlaced =
    Places (example_log blind_scripts (0 ∷ []) blind_history) (example_end blind_scripts (0 ∷ []) blind_history).threads blind_order ×
    (placing_turns 3 blind_order ≡ blind_history)

-- A write forced between: the skip play has the log, and no history has it. The unseen second write of the first thread comes before its third step,
-- which the second thread saw before it saw the first write
abbrev pub ForcedBetweenIsOfNoHistory : Type 0
ForcedBetweenIsOfNoHistory = HasLog forced_between_threads one_each forced_between_log forced_between_end ×
    (IsLegalLog forced_between_threads one_each (0 ∷ 0 ∷ []) forced_between_log → ⊥)
