-- The shared words, as one thread takes its steps on them.
use Rattle.std.specs.Prelude.{◌≡◌, ℕ, Option, Some, None, List, [], ◌∷◌, ◌++◌, length}
use Rattle.light_base.specs.declared.tag.Cell.{Cell}
use Rattle.replay_model.specs.declared.Want.{Want}
use Rattle.replay_model.specs.declared.Want.TheVariants.{Load, Store, Swap, Cond, Ended}
use Rattle.replay_model.specs.Steps.{Event, Step}
use Rattle.tagged_words.specs.declared.words.Seen.{Seen}
use Rattle.tagged_words.specs.Views.{Progress}
use Rattle.tagged_words.specs.Hands.{IsOf, IsSeenBy, Takes}
use Rattle.recorder.specs.declared.hand_words.HandWords.{HandWords}

-- where the last step was a load, this is what it saw
abbrev pub HoldsLoad : List Step → Option Seen → Type 0
HoldsLoad steps loaded = (earlier : List Step) (word : ℕ) (cell : Cell) → steps ≡ earlier ++ record { want = Load word; found = Some cell } ∷ [] →
    loaded ≡ Some (record { step = length steps; word = word; cell = cell })

-- a conditional write has the load at hand which it follows
abbrev pub IsReadyFor : Progress → Option Seen → Want → Type 0
IsReadyFor hand (Some seen) (Cond word tag value) = IsSeenBy hand seen × (seen.word ≡ word) × (seen.cell.tag ≡ tag)
IsReadyFor hand None (Cond word tag value) = ⊥
IsReadyFor hand loaded (Load word) = Unit {0}
IsReadyFor hand loaded (Store word value) = Unit {0}
IsReadyFor hand loaded (Swap word value) = Unit {0}
IsReadyFor hand loaded (Ended end) = Unit {0}

-- after a step that wanted and found this, a load is at hand
abbrev pub NotesLoad : Want → Option Cell → Progress → Option Seen → Type 0
NotesLoad want found hand loaded =
    (word : ℕ) (cell : Cell) → want ≡ Load word → found ≡ Some cell →
    loaded ≡ Some (record { step = length hand.steps; word = word; cell = cell })

-- there are so many words, and the hand is that of a thread that took these steps
pub record IsReady (at : HandWords) (size t : ℕ) (taken : List Step) : Type 0 where
  pub own : IsOf at.words.now at.hand
  pub sized : length at.words.now.start.initial ≡ size
  pub thread : at.hand.thread ≡ t
  pub steps : at.hand.steps ≡ taken
  pub loads : HoldsLoad at.hand.steps at.loaded

-- the hand takes the step, at the same words
abbrev pub TakesAt : HandWords → Event → Want → Option Cell → HandWords → Type 0
TakesAt old event want found new = Takes old.hand want found new.hand × (new.words.now ≡ old.words.now)
