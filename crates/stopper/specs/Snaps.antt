-- What is shown of a thread at a step.
use Rattle.std.specs.Prelude.{ℕ, List}

-- how many instructions the thread has finished, its registers, and for each thread how many steps were played
pub record SnapValue : Type 0 where
  pub instr : ℕ
  pub registers : List ℕ
  pub ran : List ℕ
