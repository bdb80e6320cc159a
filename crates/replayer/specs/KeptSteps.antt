-- The steps of a thread whose writes are made.
use Rattle.std.specs.Prelude.{◌≡◌, ℕ, ◌<◌, ◌≤◌, Bool, true, false, cond, ◌||◌, eqb, Some, List, [], ◌∷◌, drop, All, Contains, ◌↔◌}
use Rattle.std.specs.List.{list_any}
use Rattle.std.specs.List.Sorted.{IsStrictlyIncreasing}
use Rattle.replay_model.specs.declared.Entry.{Entry}
use Rattle.replay_model.specs.Steps.{Event, Tag, same_tag}
use Rattle.replay_model.specs.Logs.{Log}
use Rattle.replay_model.specs.Events.{keeps}

-- whether step n is the first of the steps
abbrev pub begins_with : ℕ → List ℕ → Bool
begins_with n [] = false
begins_with n (m ∷ steps) = eqb m n

-- the steps after step n was taken
abbrev pub past : ℕ → List ℕ → List ℕ
past n steps = cond (begins_with n steps) (drop 1 steps) steps

abbrev pub event_at : ℕ → ℕ → Event
event_at t n = record { thread = t; step = n }

-- the steps of thread t after step n whose writes the log names, by rising number
pub record AreLeft (log : Log) (t n : ℕ) (steps : List ℕ) : Type 0 where
  pub rising : IsStrictlyIncreasing (n ∷ steps)
  pub named : (m : ℕ) → n < m → (Contains steps m ↔ (keeps log (event_at t m) ≡ true))

-- ---- how they are collected

abbrev pub has_step : ℕ → List ℕ → Bool
has_step m steps = list_any (λ (n : ℕ). eqb n m) steps

-- whether step m of thread t is the source of an entry, or is among the tags
abbrev pub is_source : ℕ → List Entry → ℕ → Bool
is_source t entries m = list_any (λ (entry : Entry). same_tag entry.source (Some (event_at t m))) entries

abbrev pub is_tagged : ℕ → List Tag → ℕ → Bool
is_tagged t tags m = list_any (λ (tag : Tag). same_tag tag (Some (event_at t m))) tags

-- just the steps that pass were added to some steps; none of them is step 0
pub record AreAdded (passes : ℕ → Bool) (old new : List ℕ) : Type 0 where
  pub each : (m : ℕ) → has_step m new ≡ (has_step m old || passes m)
  pub low : All (λ (m : ℕ). 1 ≤ m) old → All (λ (m : ℕ). 1 ≤ m) new

-- the steps of thread t that the log names, in any order
pub record AreNamed (log : Log) (t : ℕ) (steps : List ℕ) : Type 0 where
  pub each : (m : ℕ) → has_step m steps ≡ keeps log (event_at t m)
  pub low : All (λ (m : ℕ). 1 ≤ m) steps
