-- The promise of replaying follows from how a command ended.
use Rattle.std.proofs.Common.{◌≡◌, ℕ, List, Option, Some, Result, Ok, Err, inl, inr, refl, ◌∙◌, ap, subst, cond}
use Rattle.sha2.specs.Sha256.{sha256}
use Rattle.light_base.specs.FileMap.{Files}
use Rattle.replay_model.specs.Logs.{Log}
use Rattle.history.specs.HistoryLogs.{HistoryRunsFit, HistoryEventsRespect}
use Rattle.light_top.specs.Images.{ImageValue}
use Rattle.batch.specs.Prints.{logged_print}
use Rattle.light_top.specs.Logs.{image_print}
use Rattle.light_top.specs.Given.{◌>>=◌, log_in, of_program, given}
use Rattle.light_top.specs.Statuses.{IsFailure}
use Rattle.light_top.specs.Outputs.{Output, Saved}
use Rattle.light_top.specs.Outside.{Outside, after}
use Rattle.transcript.specs.Transcripts.{transcript_of}
use Rattle.light_top.specs.Delivery.{Delivered}
use Rattle.light_top.specs.Solving.{IsReplayed, Unreplayed}
use Rattle.light_top.specs.Tasks.{Means, Fails}
use Rattle.light_top.specs.Ends.{EndsEarly, Ends}
use Rattle.light_top.specs.Headline.{HasHistory, log_had, EndsAgain, Replays}
use Rattle.light_top.specs.declared.words.Command.{Command}
use Rattle.light_top.specs.declared.words.Command.TheVariants as command
use Rattle.light_top.specs.declared.task.Task.{Task}
use Rattle.light_top.specs.declared.task.Task.TheVariants as task
use Rattle.light_top.specs.declared.status.Status.{Status}
use Rattle.light_top.specs.declared.status.Status.TheVariants as status
use Rattle.light_top.proofs.Sizes.{log_threads, log_words}
use Rattle.light_top.proofs.Ending.{not_refused, of_task, each_file}
use Rattle.batch.proofs.Prints.{is-same}

module _ (fit : HistoryRunsFit) (respect : HistoryEventsRespect) (files : Files) (image name schedule : List ℕ) (budget : ℕ) (had : HasHistory files image name) where
  abbrev log : Log
  log = log_had files image name had

  abbrev wanted : Task
  wanted = task.Replay had.loaded log schedule budget

  own : of_program had.loaded log ≡ Ok log
  own = ap (λ t. cond t (Ok log) (Err (status.WrongProgram (logged_print log) (image_print had.loaded))))
      (is-same (logged_print log) (image_print had.loaded) refl
      (log_words had.loaded.program had.limits had.inputs (sha256 had.loaded.bytes) had.history)
      (log_threads had.loaded.program had.limits had.inputs (sha256 had.loaded.bytes) had.history))

  -- this is the task that is given
  is_given : given (command.Replay image name schedule budget) files ≡ Ok wanted
  is_given =
      ap (λ (r : Result ImageValue Status). r >>= λ i. log_in files name >>= λ l. of_program i l >>= λ o. Ok (task.Replay i o schedule budget)) had.given
      ∙ (ap (λ (r : Result Log Status). r >>= λ l. of_program had.loaded l >>= λ o. Ok (task.Replay had.loaded o schedule budget)) had.logged
      ∙ ap (λ (r : Result Log Status). r >>= λ o. Ok (task.Replay had.loaded o schedule budget)) own)

  abbrev Ending : Outside → Outside → Status → Type 0
  Ending old new s = EndsAgain had.loaded.program had.limits had.inputs had.history log schedule budget old new s

  module _ (old new : Outside) (told : old.store.files ≡ Some files) where
    early : (s : Status) → EndsEarly (command.Replay image name schedule budget) old new s → Ending old new s
    early status.StoreFault h = h.0.1
    early status.Memory h = tt
    early s h = absurd (not_refused (command.Replay image name schedule budget) files wanted is_given old.store.files told s h.0.0)

    delivered : (s : Status) (output : Output) → IsReplayed had.loaded.program log schedule output → Delivered output old new s → Ending old new s
    delivered status.Ok output is done = (
      is.order,
      is.respects,
      subst (λ (saved : Option Saved). new ≡ after old saved (transcript_of had.loaded.program had.limits had.inputs had.history)) is.kept
          (subst (λ (text : List ℕ). new ≡ after old output.saved text)
          (is.transcript.again had.limits had.inputs (sha256 had.loaded.bytes) had.history had.whole refl) done),
    )
    delivered status.StoreFault output is done = done.failed.counted
    delivered status.SinkFault output is done = done.0
    delivered status.Memory output is done = tt
    delivered s output is done = absurd done

    undone : (s : Status) → IsFailure s → Unreplayed had.loaded.program log budget s → new ≡ old → Ending old new s
    undone status.NoSchedule is fails same =
        absurd (fails _ (respect had.loaded.program had.limits had.inputs (sha256 had.loaded.bytes) had.history had.whole))
    undone status.Spent is fails same = (fails, same)
    undone (status.Differs difference) is fails same =
        absurd (fails.none _ (fit had.loaded.program had.limits had.inputs (sha256 had.loaded.bytes) had.history had.whole))
    undone status.NotLegal is fails same = absurd fails
    undone (status.Strays stray) is fails same = absurd fails
    undone (status.Disrespects fault) is fails same = absurd fails
    undone s is fails same = absurd is

    ended : (s : Status) → Ends (command.Replay image name schedule budget) old new s → Ending old new s
    ended s (inl h) = early s h
    ended s (inr (inl late)) = delivered s late.output (of_task (command.Replay image name schedule budget) files wanted is_given old.store.files told (λ (t : Task). Means t late.output) late.meant).1 late.delivered
    ended s (inr (inr h)) = undone s h.0 (of_task (command.Replay image name schedule budget) files wanted is_given old.store.files told (λ (t : Task). Fails t s) h.1) h.2

pub replayed : HistoryRunsFit → HistoryEventsRespect → (command : Command) (old new : Outside) (s : Status) → Ends command old new s → Replays command old new s
replayed fit respect (command.Replay image name schedule budget) old new s ends =
    each_file old.store.files _ (λ fs told had. ended fit respect fs image name schedule budget had old new told s ends)
replayed fit respect _ old new s ends = tt
