-- The words of a play.
use Rattle.std.specs.Prelude.{◌≡◌, ℕ, Option, List, length}
use Rattle.replay_model.specs.declared.Want.{Want}
use Rattle.replay_model.specs.Steps.{Event, Cell, Step, word_of, wrote, found_in, put}
use Rattle.history.specs.declared.words.PlainWords.{PlainWords}

-- they take a step of any thread: there are so many of them
abbrev pub IsReady : PlainWords → ℕ → ℕ → List Step → Type 0
IsReady words size t steps = length words.cells.items ≡ size

-- a step finds what stands in its word, and its write is made
pub record Takes (old : PlainWords) (event : Event) (want : Want) (found : Option Cell) (new : PlainWords) : Type 0 where
  pub finds : found ≡ found_in old.cells.items want
  pub cells : new.cells.items ≡ put old.cells.items (word_of want) event (wrote want found)
