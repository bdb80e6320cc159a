-- However a command ends, the outside goes on telling what it told, and no count falls.
use Rattle.std.proofs.Common.{◌≡◌, ◌≤◌, ℕ, List, Option, None, Some, is_some, option_map, refl, sym, ap, subst, ◌∙◌, arith, inl, inr}
use Rattle.light_base.specs.Causes.{Rose}
use Rattle.light_base.specs.FileMap.{Files}
use Rattle.light_base.specs.Stores.{StoreTold, SameButAt, SaveFailed}
use Rattle.light_base.specs.Sinks.{SinkTold, with_taken, TookFront}
use Rattle.light_top.specs.Outputs.{Output, Saved}
use Rattle.light_top.specs.Outside.{Outside, after_save}
use Rattle.light_top.specs.Delivery.{Delivered}
use Rattle.light_top.specs.Ends.{EndsEarly, Ends, Continues}
use Rattle.light_top.specs.declared.words.Command.{Command}
use Rattle.light_top.specs.declared.status.Status.{Status}
use Rattle.light_top.specs.declared.status.Status.TheVariants as status

told_still : {A B : Type 0} (f : A → B) (o : Option A) → is_some (option_map f o) ≡ is_some o
told_still f None = refl
told_still f (Some a) = refl

files_told_still : (old new : Option Files) (name : List ℕ) → SameButAt old new name → is_some new ≡ is_some old
files_told_still None new name same = ap is_some same
files_told_still (Some old) None name same = absurd same
files_told_still (Some old) (Some new) name same = refl

record StoreContinues (old new : StoreTold) : Type 0 where
  files : is_some new.files ≡ is_some old.files
  sound : new.sound ≡ old.sound
  faults : old.faults ≤ new.faults

store_same : (old new : StoreTold) → new ≡ old → StoreContinues old new
store_same old new is = record {
  files = ap (λ (t : StoreTold). is_some t.files) is;
  sound = ap (λ (t : StoreTold). t.sound) is;
  faults = let e = ap (λ (t : StoreTold). t.faults) is in omega (arith, e);
}

store_counted : (old new : StoreTold) → Rose old.faults new.faults → new ≡ record old { faults = new.faults } → StoreContinues old new
store_counted old new rose is = record {
  files = ap (λ (t : StoreTold). is_some t.files) is;
  sound = ap (λ (t : StoreTold). t.sound) is;
  faults = rose.0;
}

store_saved : (old new : StoreTold) (file : Option Saved) → new ≡ after_save old file → StoreContinues old new
store_saved old new None is = store_same old new is
store_saved old new (Some file) is = record {
  files = ap (λ (t : StoreTold). is_some t.files) is ∙ told_still _ old.files;
  sound = ap (λ (t : StoreTold). t.sound) is;
  faults = let e = ap (λ (t : StoreTold). t.faults) is in omega (arith, e);
}

store_failed : (old new : StoreTold) (name : List ℕ) → SaveFailed old new name → StoreContinues old new
store_failed old new name failed = record {
  files = files_told_still old.files new.files name failed.others;
  sound = ap (λ (t : StoreTold). t.sound) failed.left;
  faults = failed.counted.0;
}

record SinkContinues (old new : SinkTold) : Type 0 where
  taken : is_some new.taken ≡ is_some old.taken
  faults : old.faults ≤ new.faults

sink_same : (old new : SinkTold) → new ≡ old → SinkContinues old new
sink_same old new is = record {
  taken = ap (λ (t : SinkTold). is_some t.taken) is;
  faults = let e = ap (λ (t : SinkTold). t.faults) is in omega (arith, e);
}

sink_took : (old new : SinkTold) (text : List ℕ) → new ≡ with_taken old text → SinkContinues old new
sink_took old new text is = record {
  taken = ap (λ (t : SinkTold). is_some t.taken) is ∙ told_still _ old.taken;
  faults = let e = ap (λ (t : SinkTold). t.faults) is in omega (arith, e);
}

sink_front : (old new : SinkTold) (text : List ℕ) → TookFront old new text → old.faults ≤ new.faults → SinkContinues old new
sink_front old new text took faults = record {
  taken = ap (λ (t : SinkTold). is_some t.taken) took.now ∙ told_still _ old.taken;
  faults = faults;
}

module _ (old new : Outside) where
  both : StoreContinues old.store new.store → SinkContinues old.sink new.sink → Continues old new
  both store sink = record {
    files = store.files;
    taken = sink.taken;
    sound = store.sound;
    store = store.faults;
    sink = sink.faults;
  }

  unchanged : new ≡ old → Continues old new
  unchanged is = both (store_same _ _ (ap (λ (o : Outside). o.store) is)) (sink_same _ _ (ap (λ (o : Outside). o.sink) is))

  delivered : (s : Status) (output : Output) → Delivered output old new s → Continues old new
  delivered status.Ok output is =
      both (store_saved _ _ output.saved (ap (λ (o : Outside). o.store) is)) (sink_took _ _ output.text (ap (λ (o : Outside). o.sink) is))
  delivered status.StoreFault output is = both (store_failed _ _ is.file.name is.failed) (sink_same _ _ is.unprinted)
  delivered status.SinkFault output is = both (store_saved _ _ output.saved is.1.saved) (sink_front _ _ output.text is.1.printed is.0.0)
  delivered status.Memory output (inl same) = unchanged same
  delivered status.Memory output (inr half) =
      both (store_saved _ _ output.saved half.1.saved) (sink_front _ _ output.text half.1.printed (let e = half.0 in omega (arith, e)))
  delivered s output is = absurd is

  early : (command : Command) (s : Status) → EndsEarly command old new s → Continues old new
  early command status.StoreFault is = both (store_counted _ _ is.0.1 is.0.2) (sink_same _ _ is.1)
  early command status.Memory is = both (store_same _ _ is.0) (sink_same _ _ is.1)
  early command s is = both (store_same _ _ is.0.2) (sink_same _ _ is.1)

  pub continued : (command : Command) (s : Status) → Ends command old new s → Continues old new
  continued command s (inl is) = early command s is
  continued command s (inr (inl late)) = delivered s late.output late.delivered
  continued command s (inr (inr undone)) = unchanged undone.2
