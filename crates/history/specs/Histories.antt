-- Whole histories of a program.
use Rattle.std.specs.Prelude.{ℕ, List, length}
use Rattle.replay_model.specs.WholeHistories.{IsWholeHistory}
use Rattle.machine.specs.Programs.{ProgramValue, LimitsValue}
use Rattle.machine.specs.Inputs.{InputsValue}
use Rattle.machine.specs.Runs.{threads_of, rounds_of, follow_of}

-- a legal history of the program at whose end every thread has ended
abbrev pub IsHistory : ProgramValue → LimitsValue → InputsValue → List ℕ → Type 0
IsHistory p limits inputs history = IsWholeHistory (threads_of p limits inputs) p.words (length p.threads) history

-- rounds are a history of every program
abbrev pub RoundsAreWhole : Type 0
RoundsAreWhole = (p : ProgramValue) (limits : LimitsValue) (inputs : InputsValue) → IsHistory p limits inputs (rounds_of p limits inputs)

-- an order that is followed, with rounds after it, is a history of every program
abbrev pub FollowsAreWhole : Type 0
FollowsAreWhole = (p : ProgramValue) (limits : LimitsValue) (inputs : InputsValue) (order : List ℕ) → IsHistory p limits inputs (follow_of p limits inputs order)
