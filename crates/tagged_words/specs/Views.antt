-- The shared words and the threads' tokens as contracts see them.
use Rattle.std.specs.Prelude.{ℕ, List}
use Rattle.atomic_table.specs.Seated.{TableId}
use Rattle.replay_model.specs.Steps.{Step}

-- the initial values, and the number of threads
pub record Start : Type 0 where
  pub initial : List ℕ
  pub threads : ℕ

-- a thread's number, and the list of its steps
pub record Part : Type 0 where
  pub thread : ℕ
  pub steps : List Step

-- what a seat knows: how the words began, and the lists of the threads whose numbers it has
pub record View : Type 0 where
  pub start : Start
  pub parts : List Part

-- which words they are, and how they began
pub record SharedWords : Type 0 where
  pub table : TableId
  pub start : Start

-- what a thread did at its words
pub record Progress : Type 0 where
  pub words : SharedWords
  pub thread : ℕ
  pub steps : List Step
