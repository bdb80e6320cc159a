-- What becomes of a job, by how its bytes are read.
use Rattle.std.proofs.Common.{◌≡◌, ℕ, Result, Ok, Err, IfOk, Bool, true, false, refl, sym, subst}
use Rattle.std.specs.Prelude.{MatchBool}
use Rattle.replay_model.specs.Logs.{Log}
use Rattle.machine.specs.Programs.{ProgramValue}
use Rattle.machine.specs.declared.image_fault.ImageFault.{ImageFault}
use Rattle.machine.specs.ImageReading.{image_read}
use Rattle.log_file.specs.declared.log_fault.LogFault.{LogFault}
use Rattle.log_file.specs.Readings.{log_today}
use Rattle.batch.specs.Jobs.{JobValue}
use Rattle.batch.specs.Prints.{logged_print, print_of_image, same_print}
use Rattle.batch.specs.Verdicts.{IsReplayed, IsVerdictOf, IsVerdict}
use Rattle.batch.specs.declared.verdict.Verdict.{Verdict}
use Rattle.batch.specs.declared.verdict.Verdict.TheVariants as verdict

module _ (budget : ℕ) (job : JobValue) where
  by_image : (r : Result ProgramValue ImageFault) (v : Verdict) → image_read job.image ≡ r → IsVerdictOf budget job.image r (log_today job.log) v → IsVerdict budget job v
  by_image r v is h = subst (λ (read : Result ProgramValue ImageFault). IsVerdictOf budget job.image read (log_today job.log) v) (sym is) h

  by_log : (p : ProgramValue) (r : Result Log LogFault) (v : Verdict) → image_read job.image ≡ Ok p → log_today job.log ≡ r → IsVerdictOf budget job.image (Ok p) r v →
      IsVerdict budget job v
  by_log p r v program is h = by_image (Ok p) v program (subst (λ (read : Result Log LogFault). IsVerdictOf budget job.image (Ok p) read v) (sym is) h)

  pub image_refused : (fault : ImageFault) → image_read job.image ≡ Err fault → IsVerdict budget job verdict.ImageRefused
  image_refused fault is = by_image (Err fault) verdict.ImageRefused is refl

  pub log_refused : (p : ProgramValue) (fault : LogFault) → image_read job.image ≡ Ok p → log_today job.log ≡ Err fault → IsVerdict budget job verdict.LogRefused
  log_refused p fault program is = by_log p (Err fault) verdict.LogRefused program is refl

  module _ (p : ProgramValue) (log : Log) (program : image_read job.image ≡ Ok p) (logged : log_today job.log ≡ Ok log) where
    by_prints : (same : Bool) (v : Verdict) → same_print (logged_print log) (print_of_image job.image p) ≡ same →
        MatchBool same (IsReplayed p log budget v) (v ≡ verdict.WrongProgram) → IsVerdict budget job v
    by_prints same v is h =
        by_log p (Ok log) v program logged (subst (λ (b : Bool). MatchBool b (IsReplayed p log budget v) (v ≡ verdict.WrongProgram)) (sym is) h)

    pub wrong_program : same_print (logged_print log) (print_of_image job.image p) ≡ false → IsVerdict budget job verdict.WrongProgram
    wrong_program is = by_prints false verdict.WrongProgram is refl

    pub is_replayed : {E : Type 0} (r : Result Verdict E) → same_print (logged_print log) (print_of_image job.image p) ≡ true → IfOk r (IsReplayed p log budget) → IfOk r (IsVerdict budget job)
    is_replayed (Ok v) is h = by_prints true v is h
    is_replayed (Err e) is h = tt

pub ruleset judging = (image_refused, log_refused, wrong_program, is_replayed)
