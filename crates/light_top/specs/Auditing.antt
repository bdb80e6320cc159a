-- Whether a log is that of a whole history of a program.
use Rattle.std.specs.Prelude.{◌≡◌, ℕ, List, [], ◌∷◌, ◌++◌, codes, length}
use Rattle.std.specs.Fmt.{decimal}
use Rattle.replay_model.specs.Logs.{Log}
use Rattle.machine.specs.Programs.{ProgramValue}
use Rattle.machine.specs.Laws.{taken_in}
use Rattle.audit.specs.Judging.{HasThisLog, IsNotLegal, MeetsMore}
use Rattle.light_top.specs.declared.status.Status.{Status}
use Rattle.light_top.specs.declared.status.Status.TheVariants as status

-- that a log is legal, and the number of steps of a history that has it
abbrev pub legal_line : ℕ → List ℕ
legal_line count = codes "legal " ++ decimal count ++ 10 ∷ []

-- it is so of a whole history of the program that has the log, with the numbers that the log holds as inputs
pub record IsLegalText (p : ProgramValue) (log : Log) (text : List ℕ) : Type 0 where
  pub history : List ℕ
  pub legal : HasThisLog p log.limits (taken_in log) log history
  pub told : text ≡ legal_line (length history)

-- why no history was found: no whole history of the program has the log, or the plain search of an audit has more dead ends than the budget
abbrev pub Illegal : ProgramValue → Log → ℕ → Status → Type 0
Illegal p log budget status.NotLegal = IsNotLegal p log
Illegal p log budget status.Spent = MeetsMore p log budget
Illegal p log budget s = ⊥
