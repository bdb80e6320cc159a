-- What follows from how a command ended.
use Rattle.std.proofs.Common.{◌≡◌, ℕ, List, Option, None, Some, Result, Ok, Err, IfOk, IfSome, IsOkAnd, IsTrue, sym, refl, ap, subst, inl, inr, ◌⊎◌}
use Rattle.light_base.specs.FileMap.{Files}
use Rattle.light_base.specs.Stores.{StoreTold}
use Rattle.light_top.specs.Outputs.{Output}
use Rattle.machine.specs.Inputs.{InputsValue}
use Rattle.light_top.specs.Given.{◌>>=◌, numbers_in, matched, inputs_in, given, Gives}
use Rattle.light_top.specs.Tasks.{Means, Fails, CanSucceed}
use Rattle.light_base.specs.Sinks.{SinkTold}
use Rattle.light_top.specs.Outside.{Outside, ◌and◌}
use Rattle.light_top.specs.Statuses.{IsFailure, FailsBy}
use Rattle.light_top.specs.Ends.{EndsEarly, EndsUndone, Ends, IsExcused, Declines, CanBeDone}
use Rattle.light_top.specs.declared.words.Command.{Command}
use Rattle.light_top.specs.declared.task.Task.{Task}
use Rattle.light_top.specs.declared.status.Status.{Status}
use Rattle.light_top.specs.declared.status.Status.TheVariants as status

-- what is so of a task is so of the one that the command is given
of_given : (files : Option Files) (command : Command) (task : Task) (P : Task → Type 0) → IfSome files (λ fs. given command fs ≡ Ok task) → P task →
    IfSome files (λ fs. IsOkAnd (given command fs) P)
of_given None command task P gives is = tt
of_given (Some fs) command task P gives is = subst (λ r. IsOkAnd r P) (sym gives) is

-- what a task means is meant by the command that it was given for
pub is_meant : (files : Option Files) (command : Command) (task : Task) (output : Output) → IfSome files (λ fs. given command fs ≡ Ok task) → Means task output →
    IfSome files (λ fs. IsOkAnd (given command fs) (λ t. Means t output))
is_meant files command task output gives means = of_given files command task (λ t. Means t output) gives means

-- a task that could not be done leaves all as it was
pub ended_undone : (command : Command) (task : Task) (old new : StoreTold) (sink : SinkTold) (s : Status) → Gives old new (given command) task → FailsBy (Fails task) s →
    Ends command (old and sink) (new and sink) s
ended_undone command task old new sink status.Memory gives fails = inl (gives.1, refl)
ended_undone command task old new sink s gives fails =
    inr (inr (fails.0, of_given old.files command task (λ t. Fails t s) gives.0 fails.1, ap (λ (told : StoreTold). told and sink) gives.1))

-- a task that can be done does not fail
no_failure : (r : Result Task Status) (s : Status) → IsOkAnd r (λ t. Fails t s) → IsOkAnd r CanSucceed → ⊥
no_failure (Ok t) s fails can = can s fails
no_failure (Err e) s fails can = fails

-- what can be done does not end undone
pub not_undone : (command : Command) (old new : Outside) (s : Status) → EndsUndone command old new s → CanBeDone command old new → ⊥
not_undone command old new s undone can =
    let P : Option Files → Type 0 = λ files. IfSome files (λ fs. IsOkAnd (given command fs) (λ t. Fails t s)) in
    no_failure (given command can.files) s (subst P can.told undone.1) can.ready

-- where a command's task is known, it is not refused, and what was said of its task is so of this one
module _ (command : Command) (files : Files) (task : Task) (is : given command files ≡ Ok task) (all : Option Files) (told : all ≡ Some files) where
  of_files : (P : Files → Type 0) → IfSome all P → P files
  of_files P h = subst (λ (fs : Option Files). IfSome fs P) told h

  pub not_refused : (s : Status) → IfSome all (λ fs. given command fs ≡ Err s) → ⊥
  not_refused s h = let err : Ok task ≡ Err s = subst (λ (r : Result Task Status). r ≡ Err s) is (of_files (λ fs. given command fs ≡ Err s) h) in cc

  pub of_task : (P : Task → Type 0) → IfSome all (λ fs. IsOkAnd (given command fs) P) → P task
  of_task P h = subst (λ (r : Result Task Status). IsOkAnd r P) is (of_files (λ fs. IsOkAnd (given command fs) P) h)

module _ (command : Command) (files : Files) (task : Task) (is : given command files ≡ Ok task) (old new : Outside) (told : old.store.files ≡ Some files) (none : (output : Output) → Means task output → ⊥) where
  abbrev Answer : Status → Type 0
  Answer s = (IsFailure s × Fails task s) ⊎ IsExcused old.store.sound s

  early : (s : Status) → EndsEarly command old new s → Answer s
  early status.StoreFault h =
      inr (inr (
        refl,
        λ sound. not_refused command files task is (Some files) refl status.StoreFault
            (subst (λ (fs : Option Files). IfSome fs (λ f. IsTrue old.store.sound → given command f ≡ Err status.StoreFault)) told h.0.0 sound),
      ))
  early status.Memory h = inr (inl refl)
  early s h = absurd (not_refused command files task is old.store.files told s h.0.0)

  answered : (s : Status) → Ends command old new s → Answer s
  answered s (inl h) = early s h
  answered s (inr (inl late)) = absurd (none late.output (of_task command files task is old.store.files told (λ (t : Task). Means t late.output) late.meant))
  answered s (inr (inr h)) = inl (h.0, of_task command files task is old.store.files told (λ (t : Task). Fails t s) h.1)

-- where the files are told, this is so of them
pub each_file : (all : Option Files) (P : Files → Type 0) → ((fs : Files) → all ≡ Some fs → P fs) → IfSome all P
each_file None P f = tt
each_file (Some fs) P f = f fs refl

-- a task that nothing can be of is answered by why it cannot be done
pub declined : (command : Command) (old new : Outside) (s : Status) → Ends command old new s → Declines command old.store s
declined command old new s ends = each_file old.store.files _ (λ files told task is none. answered command files task is old new told none s ends)

-- inputs that the files give, and that match the program
pub gives_matched : (old new : StoreTold) (name : Option (List ℕ)) (own : List ℕ) (threads : ℕ) (inputs : InputsValue) (result : Result InputsValue Status) →
    name ≡ Some own → Gives old new (λ fs. numbers_in fs own) inputs → IfOk result (λ r. matched threads inputs ≡ Ok r) →
    IfOk result (Gives old new (λ fs. inputs_in fs name threads))
gives_matched old new name own threads inputs (Err s) is gives fits = tt
gives_matched old new name own threads inputs (Ok r) is gives fits = (of_all old.files gives.0, gives.1) where
  of_all : (files : Option Files) → IfSome files (λ fs. numbers_in fs own ≡ Ok inputs) → IfSome files (λ fs. inputs_in fs name threads ≡ Ok r)
  of_all None told = tt
  of_all (Some fs) told =
      subst (λ n. inputs_in fs n threads ≡ Ok r) (sym is)
      (subst (λ (numbers : Result InputsValue Status). (numbers >>= matched threads) ≡ Ok r) (sym told) fits)
