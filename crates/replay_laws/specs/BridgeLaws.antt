-- From the steps that the words saw to a history.
use Rattle.std.specs.Prelude.{◌≡◌, ℕ, ◌<◌, List, [], map, All}
use Rattle.std.specs.List.{range_with_len}
use Rattle.replay_model.specs.Steps.{Cell, Step, initial_cells}
use Rattle.replay_model.specs.Threads.{Threads, IsRun}
use Rattle.replay_model.specs.Histories.{steps_of}
use Rattle.replay_model.specs.WordSteps.{WordStep, part, Folds}
use Rattle.replay_model.specs.WholeHistories.{IsWholeHistory, played}

-- whose turn each step was
abbrev pub threads_in : List WordStep → List ℕ
threads_in list = map (λ (e : WordStep). e.thread) list

-- the steps of each of so many threads
abbrev pub parts : ℕ → List WordStep → List (List Step)
parts count list = map (λ (t : ℕ). part t list) (range_with_len 0 count)

-- the list is a whole history, in which each thread takes the steps of its part, and which ends in these cells
pub record IsPlayed (threads : Threads) (initial : List ℕ) (count : ℕ) (list : List WordStep) (end : List Cell) : Type 0 where
  pub whole : IsWholeHistory threads initial count (threads_in list)
  pub steps : (t : ℕ) → t < count → steps_of (played threads initial count (threads_in list)).threads t ≡ part t list
  pub runs : (played threads initial count (threads_in list)).threads ≡ parts count list
  pub memory : (played threads initial count (threads_in list)).memory ≡ end

-- steps at the words, whose parts are runs of the threads to their ends, are a whole history with these very steps
abbrev pub WordStepsAreAHistory : Type 0
WordStepsAreAHistory = (threads : Threads) (initial : List ℕ) (count : ℕ) (list : List WordStep) (end : List Cell) →
    All (λ (e : WordStep). e.thread < count) list → ((t : ℕ) → t < count → IsRun threads t (part t list)) →
    Folds [] (initial_cells initial) list end → IsPlayed threads initial count list end
