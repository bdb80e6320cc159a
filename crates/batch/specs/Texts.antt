-- The text of verdicts.
use Rattle.std.specs.Prelude.{ℕ, ◌+◌, List, [], ◌∷◌, ◌++◌, codes}
use Rattle.std.specs.Fmt.{decimal}
use Rattle.hex.specs.Hex.{encode_lower}
use Rattle.batch.specs.declared.verdict.Verdict.{Verdict}
use Rattle.batch.specs.declared.verdict.Verdict.TheVariants as verdict

abbrev pub digest_text : List ℕ → List ℕ
digest_text digest = codes "same " ++ encode_lower digest

-- what is told of a verdict
abbrev pub verdict_text : Verdict → List ℕ
verdict_text verdict.ImageRefused = codes "image refused"
verdict_text verdict.LogRefused = codes "log refused"
verdict_text verdict.WrongProgram = codes "wrong program"
verdict_text verdict.Spent = codes "budget spent"
verdict_text verdict.NoSchedule = codes "no schedule"
verdict_text verdict.Differs = codes "differs"
verdict_text (verdict.Same digest) = digest_text digest

-- the line of the job with this number
abbrev pub verdict_line : ℕ → Verdict → List ℕ
verdict_line job v = decimal job ++ codes " " ++ verdict_text v ++ 10 ∷ []

-- a line for each job, the first of them being this one
abbrev pub verdict_lines : ℕ → List Verdict → List ℕ
verdict_lines job [] = []
verdict_lines job (v ∷ vs) = verdict_line job v ++ verdict_lines (job + 1) vs
