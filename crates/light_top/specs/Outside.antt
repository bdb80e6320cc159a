-- The outside of a command at one moment: what a store and a sink tell.
use Rattle.std.specs.Prelude.{ℕ, List, Option, None, Some}
use Rattle.light_base.specs.Stores.{StoreTold, with_saved}
use Rattle.light_base.specs.Sinks.{SinkTold, with_taken}
use Rattle.light_top.specs.Outputs.{Saved}

pub record Outside : Type 0 where
  pub store : StoreTold
  pub sink : SinkTold

infix 10 ◌and◌
abbrev pub ◌and◌ : StoreTold → SinkTold → Outside
store and sink = record { store = store; sink = sink }

-- the same store after a file was saved, if there is one to save
abbrev pub after_save : StoreTold → Option Saved → StoreTold
after_save told None = told
after_save told (Some file) = with_saved told file.name file.bytes

-- the same outside after that, and after a text was taken
abbrev pub after : Outside → Option Saved → List ℕ → Outside
after old saved text = record { store = after_save old.store saved; sink = with_taken old.sink text }
