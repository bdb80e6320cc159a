-- How a command may end: for each status, what must have come and what stands afterwards.
use Rattle.std.specs.Prelude.{◌≡◌, ◌≤◌, ◌⊎◌, Bool, IsTrue, String, List, Some, is_some, Ok, Err, IfSome, IsOkAnd}
use Rattle.light_base.specs.Causes.{Rose}
use Rattle.light_base.specs.FileMap.{Files}
use Rattle.light_base.specs.Stores.{StoreTold}
use Rattle.light_top.specs.Statuses.{IsFailure}
use Rattle.light_top.specs.Outputs.{Output}
use Rattle.light_top.specs.Outside.{Outside}
use Rattle.light_top.specs.Delivery.{Delivered}
use Rattle.light_top.specs.Given.{given, NotGiven}
use Rattle.light_top.specs.Tasks.{Means, Fails, CanSucceed}
use Rattle.light_top.specs.Words.{texts, command_of}
use Rattle.light_top.specs.declared.words.Command.{Command}
use Rattle.light_top.specs.declared.task.Task.{Task}
use Rattle.light_top.specs.declared.status.Status.{Status}
use Rattle.light_top.specs.declared.status.Status.TheVariants as status

-- no task was given, and nothing was printed
abbrev pub EndsEarly : Command → Outside → Outside → Status → Type 0
EndsEarly command old new s = NotGiven old.store new.store (given command) s × (new.sink ≡ old.sink)

-- a task was given, and what it means was delivered so far
pub record EndsLate (command : Command) (old new : Outside) (s : Status) : Type 0 where
  pub output : Output
  pub meant : IfSome old.store.files (λ files. IsOkAnd (given command files) (λ task. Means task output))
  pub delivered : Delivered output old new s

-- a task was given, and it cannot be done, by its own values; all is as it was
abbrev pub EndsUndone : Command → Outside → Outside → Status → Type 0
EndsUndone command old new s =
    IsFailure s × IfSome old.store.files (λ files. IsOkAnd (given command files) (λ task. Fails task s)) × (new ≡ old)

abbrev pub Ends : Command → Outside → Outside → Status → Type 0
Ends command old new s = EndsEarly command old new s ⊎ EndsLate command old new s ⊎ EndsUndone command old new s

-- memory was refused, or the store, which isn't sound, counted a fault
abbrev pub IsExcused : Bool → Status → Type 0
IsExcused sound s = (s ≡ status.Memory) ⊎ ((s ≡ status.StoreFault) × (IsTrue sound → ⊥))

-- what stands in the way first is what is answered, where the store tells its files
abbrev pub Answers : Command → StoreTold → Status → Type 0
Answers command told s = IfSome told.files (λ files. (refusal : Status) → given command files ≡ Err refusal →
    (s ≡ refusal) ⊎ IsExcused told.sound s)

-- a task of which no output can be is answered by why it cannot be done, where the store tells its files
abbrev pub Declines : Command → StoreTold → Status → Type 0
Declines command told s = IfSome told.files (λ files. (task : Task) → given command files ≡ Ok task →
    ((output : Output) → Means task output → ⊥) → (IsFailure s × Fails task s) ⊎ IsExcused told.sound s)

-- the sink counted no fault, nor did the store, unless it is sound, and the files give a task that can be done
pub record CanBeDone (command : Command) (old new : Outside) : Type 0 where
  pub sink : Rose old.sink.faults new.sink.faults → ⊥
  pub files : Files
  pub told : old.store.files ≡ Some files
  pub store : (Rose old.store.faults new.store.faults → ⊥) ⊎ IsTrue old.store.sound
  pub ready : IsOkAnd (given command files) CanSucceed

-- what can be done is done, or memory was refused
abbrev pub Completes : Command → Outside → Outside → Status → Type 0
Completes command old new s = CanBeDone command old new → (s ≡ status.Ok) ⊎ (s ≡ status.Memory)

-- what holds however it ends: whether the outside tells of itself does not change, no count fell, and a store stays sound or unsound
pub record Continues (old new : Outside) : Type 0 where
  pub files : is_some new.store.files ≡ is_some old.store.files
  pub taken : is_some new.sink.taken ≡ is_some old.sink.taken
  pub sound : new.store.sound ≡ old.store.sound
  pub store : old.store.faults ≤ new.store.faults
  pub sink : old.sink.faults ≤ new.sink.faults

-- where the words are a command, this is so of it
abbrev pub ForCommand : {Y : Type 0} → (Command → Outside → Outside → Status → Type 0) → List (String Y) → Outside → Outside → Status → Type 0
ForCommand P words old new s = IfSome (command_of (texts words)) (λ command. P command old new s)
