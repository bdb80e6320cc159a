-- Where the budget is enough, what becomes of a job depends on its bytes alone.
use Rattle.std.specs.Prelude.{◌≡◌, ℕ, ◌≤◌, List, Ok}
use Rattle.replay_model.specs.Logs.{Log}
use Rattle.constraints.specs.Constraints.{dead}
use Rattle.log_file.specs.Readings.{log_today}
use Rattle.batch.specs.Jobs.{JobValue}
use Rattle.batch.specs.Verdicts.{IsVerdict}
use Rattle.batch.specs.declared.verdict.Verdict.{Verdict}

-- the plain search of the log has no more dead ends than the budget
abbrev pub IsEnough : List ℕ → ℕ → Type 0
IsEnough bytes budget = (log : Log) → log_today bytes ≡ Ok log → dead log ≤ budget

-- so two verdicts are the same, whatever the budgets
abbrev pub VerdictsAreOne : Type 0
VerdictsAreOne = (job : JobValue) (budget other : ℕ) (one two : Verdict) → IsEnough job.log budget → IsEnough job.log other →
    IsVerdict budget job one → IsVerdict other job two → one ≡ two
