-- Each worker's part of the jobs, and the verdicts of many jobs.
use Rattle.std.specs.Prelude.{ℕ, ◌+◌, ◌≤◌, ◌*◌, ◌/◌, List, [], length, slice_range, Result, Ok, Err}
use Rattle.std.specs.List.{All, AllZip}
use Rattle.std.specs.Global.{Vec}
use Rattle.light_base.specs.declared.memory.Memory.{Memory}
use Rattle.batch.specs.Jobs.{JobValue, IsShort, most_jobs}
use Rattle.batch.specs.Verdicts.{IsVerdict}
use Rattle.batch.specs.declared.verdict.Verdict.{Verdict}

-- each job has its verdict, in their order
abbrev pub AreVerdicts : ℕ → List JobValue → List Verdict → Type 0
AreVerdicts budget jobs verdicts = AllZip (IsVerdict budget) jobs verdicts

-- where the part of worker w begins, of so many jobs and workers
abbrev pub part_start : ℕ → ℕ → ℕ → ℕ
part_start jobs workers w = w * jobs / workers

-- the part of worker w
abbrev pub part_of : List JobValue → ℕ → ℕ → List JobValue
part_of jobs workers w = slice_range jobs (part_start (length jobs) workers w) (part_start (length jobs) workers (w + 1))

-- each job of that part has its verdict, in their order
abbrev pub IsPartJudged : ℕ → List JobValue → ℕ → ℕ → Vec Verdict → Type 0
IsPartJudged budget jobs workers w verdicts = AreVerdicts budget (part_of jobs workers w) verdicts.items

-- the jobs are those of a batch
abbrev pub MayWork : List JobValue → Type 0
MayWork jobs = (length jobs ≤ most_jobs) × All IsShort jobs

-- what a worker gave
abbrev pub verdicts_in : Result (Vec Verdict) Memory → List Verdict
verdicts_in (Ok verdicts) = verdicts.items
verdicts_in (Err _) = []
