-- How far an output was saved and printed.
use Rattle.std.specs.Prelude.{◌≡◌, ◌⊎◌, Some}
use Rattle.light_base.specs.Causes.{Rose}
use Rattle.light_base.specs.Stores.{SaveFailed}
use Rattle.light_base.specs.Sinks.{TookFront}
use Rattle.light_top.specs.Outputs.{Output, Saved}
use Rattle.light_top.specs.Outside.{Outside, after_save, after}
use Rattle.light_top.specs.declared.status.Status.{Status}
use Rattle.light_top.specs.declared.status.Status.TheVariants as status

-- the file was saved, if there is one, and a front of the text was printed, but not all of it; the sink may have counted
pub record IsHalfPrinted (output : Output) (old new : Outside) : Type 0 where
  pub saved : new.store ≡ after_save old.store output.saved
  pub printed : TookFront old.sink new.sink output.text

-- the save of the file failed, and nothing was printed
pub record IsNotSaved (output : Output) (old new : Outside) : Type 0 where
  pub file : Saved
  pub wanted : output.saved ≡ Some file
  pub failed : SaveFailed old.store new.store file.name
  pub unprinted : new.sink ≡ old.sink

-- with which statuses an output is delivered, and what stands then
abbrev pub Delivered : Output → Outside → Outside → Status → Type 0
Delivered output old new status.Ok = new ≡ after old output.saved output.text
Delivered output old new status.StoreFault = IsNotSaved output old new
Delivered output old new status.SinkFault = Rose old.sink.faults new.sink.faults × IsHalfPrinted output old new
Delivered output old new status.Memory = (new ≡ old) ⊎ ((new.sink.faults ≡ old.sink.faults) × IsHalfPrinted output old new)
Delivered output old new s = ⊥
