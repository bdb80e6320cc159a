-- What becomes of an image, a log and a budget.
use Rattle.std.specs.Prelude.{◌≡◌, ℕ, ◌<◌, List, Result, Ok, Err, MatchBool}
use Rattle.sha2.specs.Sha256.{sha256}
use Rattle.light_base.specs.declared.tag.Event.{Event}
use Rattle.replay_model.specs.Logs.{Log}
use Rattle.replay_model.specs.Orders.{Respects}
use Rattle.constraints.specs.Constraints.{dead}
use Rattle.machine.specs.Programs.{ProgramValue}
use Rattle.machine.specs.declared.image_fault.ImageFault.{ImageFault}
use Rattle.machine.specs.ImageReading.{image_read}
use Rattle.log_file.specs.declared.log_fault.LogFault.{LogFault}
use Rattle.log_file.specs.Readings.{log_today}
use Rattle.batch.specs.Jobs.{JobValue}
use Rattle.batch.specs.Prints.{logged_print, print_of_image, same_print}
use Rattle.batch.specs.Replays.{HasNoOrder, HasNoRuns, IsTranscript}
use Rattle.batch.specs.declared.verdict.Verdict.{Verdict}
use Rattle.batch.specs.declared.verdict.Verdict.TheVariants as verdict

-- some order respects the log
abbrev pub HasOrder : Log → Type 0
HasOrder log = (order : List Event) × Respects log order

-- the digest of the transcript of the runs that fit the log
abbrev pub IsDigest : ProgramValue → Log → List ℕ → Type 0
IsDigest p log digest = (text : List ℕ) × IsTranscript p log text × (digest ≡ sha256 text)

-- what becomes of a program and a log of it: the budget may be spent where the plain search has more dead ends; else no order respects
-- the log; or else no runs fit it; or else they are told by the digest of their transcript
abbrev pub IsReplayed : ProgramValue → Log → ℕ → Verdict → Type 0
IsReplayed p log budget verdict.Spent = budget < dead log
IsReplayed p log budget verdict.NoSchedule = HasNoOrder log
IsReplayed p log budget verdict.Differs = HasOrder log × HasNoRuns p log
IsReplayed p log budget (verdict.Same digest) = HasOrder log × IsDigest p log digest
IsReplayed p log budget v = ⊥

-- what becomes of an image and a log that are read so: the bytes are no image; or else they are no log; or else the prints differ; or
-- else the log is replayed
abbrev pub IsVerdictOf : ℕ → List ℕ → Result ProgramValue ImageFault → Result Log LogFault → Verdict → Type 0
IsVerdictOf budget image (Err fault) read v = v ≡ verdict.ImageRefused
IsVerdictOf budget image (Ok p) (Err fault) v = v ≡ verdict.LogRefused
IsVerdictOf budget image (Ok p) (Ok log) v =
    MatchBool (same_print (logged_print log) (print_of_image image p)) (IsReplayed p log budget v) (v ≡ verdict.WrongProgram)

-- what becomes of a job
abbrev pub IsVerdict : ℕ → JobValue → Verdict → Type 0
IsVerdict budget job v = IsVerdictOf budget job.image (image_read job.image) (log_today job.log) v
