-- The promise of recording follows from how a command ended.
use Rattle.std.proofs.Common.{◌≡◌, ℕ, List, length, Option, None, Some, Result, Ok, Err, IfSome, IsOkAnd, inl, inr, refl, subst}
use Rattle.light_base.specs.FileMap.{Files}
use Rattle.machine.specs.Programs.{LimitsValue}
use Rattle.machine.specs.Inputs.{InputsValue}
use Rattle.light_top.specs.Crews.{CrewValue}
use Rattle.light_top.specs.Images.{ImageValue}
use Rattle.light_top.specs.Given.{◌>>=◌, image_in, inputs_in, given}
use Rattle.light_top.specs.Outputs.{Output}
use Rattle.light_top.specs.Outside.{Outside, after}
use Rattle.light_top.specs.Tasks.{Means}
use Rattle.light_top.specs.Ends.{Ends}
use Rattle.light_top.specs.Headline.{HasRecorded, Records}
use Rattle.light_top.specs.declared.words.Command.{Command}
use Rattle.light_top.specs.declared.words.Command.TheVariants as command
use Rattle.light_top.specs.declared.task.Task.{Task}
use Rattle.light_top.specs.declared.task.Task.TheVariants as task
use Rattle.light_top.specs.declared.status.Status.{Status}
use Rattle.light_top.specs.declared.status.Status.TheVariants as status

module _ (files : Files) (image log : List ℕ) (limits : LimitsValue) (crew : Option CrewValue) (inputs : Option (List ℕ)) (old new : Outside) (output : Output) (done : new ≡ after old output.saved output.text) where
  -- the inputs are read after the image
  with_inputs : (loaded : ImageValue) → image_in files image ≡ Ok loaded → (r : Result InputsValue Status) → inputs_in files inputs (length loaded.program.threads) ≡ r →
      IsOkAnd (r >>= λ numbers. Ok (task.Record loaded log limits crew numbers)) (λ (t : Task). Means t output) → HasRecorded files image log limits inputs old new
  with_inputs loaded is (Err s) listed meant = absurd meant
  with_inputs loaded is (Ok numbers) listed meant = record {
    loaded = loaded;
    numbers = numbers;
    history = meant.1.0;
    given = is;
    listed = listed;
    program = meant.0;
    whole = meant.1.1;
    done = subst (λ (o : Output). new ≡ after old o.saved o.text) meant.1.2 done;
  }

  with_image : (r : Result ImageValue Status) → image_in files image ≡ r →
      IsOkAnd (r >>= λ i. inputs_in files inputs (length i.program.threads) >>= λ numbers. Ok (task.Record i log limits crew numbers)) (λ (t : Task). Means t output) →
      HasRecorded files image log limits inputs old new
  with_image (Err s) is meant = absurd meant
  with_image (Ok loaded) is meant = with_inputs loaded is (inputs_in files inputs (length loaded.program.threads)) refl meant

told : (all : Option Files) (image log : List ℕ) (limits : LimitsValue) (crew : Option CrewValue) (inputs : Option (List ℕ)) (old new : Outside) (output : Output) →
    IfSome all (λ fs. IsOkAnd (given (command.Record image log limits crew inputs) fs) (λ t. Means t output)) → new ≡ after old output.saved output.text →
    IfSome all (λ fs. HasRecorded fs image log limits inputs old new)
told None image log limits crew inputs old new output meant done = tt
told (Some fs) image log limits crew inputs old new output meant done = with_image fs image log limits crew inputs old new output done (image_in fs image) refl meant

of_record : (image log : List ℕ) (limits : LimitsValue) (crew : Option CrewValue) (inputs : Option (List ℕ)) (old new : Outside) → Ends (command.Record image log limits crew inputs) old new status.Ok →
    IfSome old.store.files (λ fs. HasRecorded fs image log limits inputs old new)
of_record image log limits crew inputs old new (inl early) = absurd early.0.1
of_record image log limits crew inputs old new (inr (inl late)) = told old.store.files image log limits crew inputs old new late.output late.meant late.delivered
of_record image log limits crew inputs old new (inr (inr undone)) = absurd undone.0

pub recorded : (command : Command) (old new : Outside) (s : Status) → Ends command old new s → Records command old new s
recorded (command.Record image log limits crew inputs) old new status.Ok ends = of_record image log limits crew inputs old new ends
recorded _ old new s ends = tt
