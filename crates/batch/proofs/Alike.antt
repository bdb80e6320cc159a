-- Two verdicts of one job are the same, where both budgets are enough.
use Rattle.std.proofs.Common.{◌≡◌, ℕ, ◌≤◌, List, Result, Ok, Err, Bool, true, false, refl, sym, ◌∙◌, ap, arith}
use Rattle.std.specs.Prelude.{MatchBool}
use Rattle.sha2.specs.Sha256.{sha256}
use Rattle.replay_model.specs.Steps.{Step}
use Rattle.replay_model.specs.Logs.{Log}
use Rattle.replay_model.specs.Fitting.{last_values}
use Rattle.machine.specs.Programs.{ProgramValue}
use Rattle.machine.specs.declared.image_fault.ImageFault.{ImageFault}
use Rattle.machine.specs.ImageReading.{image_read}
use Rattle.log_file.specs.declared.log_fault.LogFault.{LogFault}
use Rattle.log_file.specs.Readings.{log_today}
use Rattle.history.specs.HistoryLogs.{ProgramRunsAreUnique}
use Rattle.constraints.specs.Constraints.{dead}
use Rattle.replayer.specs.Verdicts.{reports_of_runs}
use Rattle.transcript.specs.Transcripts.{transcript}
use Rattle.batch.specs.Prints.{logged_print, print_of_image, same_print}
use Rattle.batch.specs.Replays.{IsTranscript}
use Rattle.batch.specs.Verdicts.{HasOrder, IsDigest, IsReplayed, IsVerdictOf}
use Rattle.batch.specs.Laws.{VerdictsAreOne}
use Rattle.batch.specs.declared.verdict.Verdict.{Verdict}
use Rattle.batch.specs.declared.verdict.Verdict.TheVariants as verdict

module _ (unique : ProgramRunsAreUnique) where
  transcripts_alike : (p : ProgramValue) (log : Log) (one two : List ℕ) → HasOrder log → IsTranscript p log one → IsTranscript p log two → one ≡ two
  transcripts_alike p log one two some h k =
      h.told ∙ ap (λ (runs : List (List Step)). transcript (reports_of_runs p log runs) (last_values p.words log runs)) (unique p log h.runs k.runs some.0 some.1 h.fits k.fits) ∙ sym k.told

  digests_alike : (p : ProgramValue) (log : Log) (one two : List ℕ) → HasOrder log → IsDigest p log one → IsDigest p log two → one ≡ two
  digests_alike p log one two some h k = h.2 ∙ ap sha256 (transcripts_alike p log h.0 k.0 some h.1 k.1) ∙ sym k.2

  replayed_alike : (p : ProgramValue) (log : Log) (budget other : ℕ) (one two : Verdict) → dead log ≤ budget → dead log ≤ other →
      IsReplayed p log budget one → IsReplayed p log other two → one ≡ two
  replayed_alike p log budget other verdict.Spent two enough more h k = absurd (omega arith)
  replayed_alike p log budget other one verdict.Spent enough more h k = absurd (omega arith)
  replayed_alike p log budget other verdict.NoSchedule verdict.NoSchedule enough more h k = refl
  replayed_alike p log budget other verdict.NoSchedule verdict.Differs enough more h k = absurd (h k.0.0 k.0.1)
  replayed_alike p log budget other verdict.NoSchedule (verdict.Same e) enough more h k = absurd (h k.0.0 k.0.1)
  replayed_alike p log budget other verdict.NoSchedule two enough more h k = absurd k
  replayed_alike p log budget other verdict.Differs verdict.NoSchedule enough more h k = absurd (k h.0.0 h.0.1)
  replayed_alike p log budget other verdict.Differs verdict.Differs enough more h k = refl
  replayed_alike p log budget other verdict.Differs (verdict.Same e) enough more h k = absurd (h.1 k.1.1.runs k.1.1.fits)
  replayed_alike p log budget other verdict.Differs two enough more h k = absurd k
  replayed_alike p log budget other (verdict.Same d) verdict.NoSchedule enough more h k = absurd (k h.0.0 h.0.1)
  replayed_alike p log budget other (verdict.Same d) verdict.Differs enough more h k = absurd (k.1 h.1.1.runs h.1.1.fits)
  replayed_alike p log budget other (verdict.Same d) (verdict.Same e) enough more h k = ap verdict.Same (digests_alike p log d e h.0 h.1 k.1)
  replayed_alike p log budget other (verdict.Same d) two enough more h k = absurd k
  replayed_alike p log budget other one two enough more h k = absurd h

  tested_alike : (same : Bool) (p : ProgramValue) (log : Log) (budget other : ℕ) (one two : Verdict) → dead log ≤ budget → dead log ≤ other →
      MatchBool same (IsReplayed p log budget one) (one ≡ verdict.WrongProgram) → MatchBool same (IsReplayed p log other two) (two ≡ verdict.WrongProgram) → one ≡ two
  tested_alike true p log budget other one two enough more h k = replayed_alike p log budget other one two enough more h k
  tested_alike false p log budget other one two enough more h k = h ∙ sym k

  read_alike : (image : List ℕ) (program : Result ProgramValue ImageFault) (read : Result Log LogFault) (budget other : ℕ) (one two : Verdict) →
      ((log : Log) → read ≡ Ok log → dead log ≤ budget) → ((log : Log) → read ≡ Ok log → dead log ≤ other) →
      IsVerdictOf budget image program read one → IsVerdictOf other image program read two → one ≡ two
  read_alike image (Err fault) read budget other one two enough more h k = h ∙ sym k
  read_alike image (Ok p) (Err fault) budget other one two enough more h k = h ∙ sym k
  read_alike image (Ok p) (Ok log) budget other one two enough more h k =
      tested_alike (same_print (logged_print log) (print_of_image image p)) p log budget other one two (enough log refl) (more log refl) h k

  pub alike : VerdictsAreOne
  alike job budget other one two enough more h k = read_alike job.image (image_read job.image) (log_today job.log) budget other one two enough more h k
