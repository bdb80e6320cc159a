-- What contracts say of hands and their words.
use Rattle.std.specs.Prelude.{◌≡◌, ◌≢◌, ℕ, ◌+◌, ◌-◌, ◌<◌, ◌≤◌, Option, Some, List, [], ◌∷◌, ◌++◌, slice_get, length, All, Contains}
use Rattle.light_base.specs.Tags.{step_end}
use Rattle.light_base.specs.declared.tag.Cell.{Cell}
use Rattle.replay_model.specs.declared.Want.{Want}
use Rattle.replay_model.specs.Steps.{initial_cells}
use Rattle.replay_model.specs.declared.Want.TheVariants.{Load, Cond as CondAt}
use Rattle.replay_model.specs.WordSteps.{WordStep, part, Folds}
use Rattle.tagged_words.specs.Views.{SharedWords, Progress}
use Rattle.tagged_words.specs.Rule.{IsPart}
use Rattle.tagged_words.specs.declared.words.Seen.{Seen}
use Rattle.tagged_words.specs.declared.words.Cond.{Cond}
use Rattle.tagged_words.specs.declared.words.Cond.TheVariants.{Won, Lost}

abbrev pub IsOf : SharedWords → Progress → Type 0
IsOf words hand = hand.words ≡ words

-- the hand of a thread that has taken no step
abbrev pub new_hand : SharedWords → ℕ → Progress
new_hand words thread = record { words = words; thread = thread; steps = [] }

-- the next step has a number that a tag can name
abbrev pub HasStepLeft : Progress → Type 0
HasStepLeft hand = length hand.steps + 1 < step_end

-- the hand has taken one step more
abbrev pub Takes : Progress → Want → Option Cell → Progress → Type 0
Takes before want found after =
    after ≡ record { words = before.words; thread = before.thread; steps = before.steps ++ record { want = want; found = found } ∷ [] }

-- the hand's list is its thread's part of some list of steps that can come from the initial cells on
abbrev pub IsPartOfAll : Progress → Type 0
IsPartOfAll hand = IsPart hand.words.start hand.thread hand.steps

-- a load of this hand gave it
abbrev pub IsSeenBy : Progress → Seen → Type 0
IsSeenBy hand seen = (1 ≤ seen.step) × (slice_get hand.steps (seen.step - 1) ≡ Some record { want = Load seen.word; found = Some seen.cell })

-- it is won where the word still had the cell that was seen, and lost where it had a cell with another tag
abbrev pub CondGives : Progress → Seen → ℕ → Cond → Progress → Type 0
CondGives before seen value Won after = Takes before (CondAt seen.word seen.cell.tag value) (Some seen.cell) after
CondGives before seen value (Lost cell) after = (cell.tag ≢ seen.cell.tag) × Takes before (CondAt seen.word seen.cell.tag value) (Some cell) after

abbrev pub HasHand : ℕ → List Progress → Type 0
HasHand thread hands = (hand : Progress) × Contains hands hand × (hand.thread ≡ thread)

-- the list leads from the initial cells to these; each hand's list is its part of it, and each step is of a thread that has a hand
pub record AreAllSteps (words : SharedWords) (hands : List Progress) (cells : List Cell) (list : List WordStep) : Type 0 where
  pub folds : Folds [] (initial_cells words.start.initial) list cells
  pub parts : All (λ hand. part hand.thread list ≡ hand.steps) hands
  pub threads : All (λ e. e.thread < words.start.threads) list
  pub owned : All (λ e. HasHand e.thread hands) list
