-- The jobs of a batch, and the text of their verdicts.
use Rattle.std.specs.Prelude.{◌≡◌, ℕ, ◌≤◌, List, length, All}
use Rattle.batch.specs.Jobs.{JobValue, IsShort, most_jobs}
use Rattle.batch.specs.Parts.{AreVerdicts}
use Rattle.batch.specs.Texts.{verdict_lines}
use Rattle.batch.specs.declared.verdict.Verdict.{Verdict}

pub record AreJobs (jobs : List JobValue) : Type 0 where
  pub some : 1 ≤ length jobs
  pub few : length jobs ≤ most_jobs
  pub short : All IsShort jobs

-- a line for each job, with its own verdict, in their order
abbrev pub AreTold : ℕ → List JobValue → List ℕ → Type 0
AreTold budget jobs text = (verdicts : List Verdict) × AreVerdicts budget jobs verdicts × (text ≡ verdict_lines 1 verdicts)
