-- What the program's store and its sinks tell, and how far a line is told.
use Rattle.std.specs.Prelude.{◌≡◌, ◌⊎◌, ℕ, false, List, None, Result, Ok, Err}
use Rattle.light_base.specs.Causes.{Rose}
use Rattle.light_base.specs.Stores.{StoreTold}
use Rattle.light_base.specs.Sinks.{SinkTold, with_taken, TookFront}
use Rattle.light_base.specs.declared.sink.SinkFault.{SinkFault}
use Rattle.light_base.specs.declared.sink.SinkFault.TheVariants.{Failed, Memory}

-- a store over files of the system tells nothing of them, and counts its faults
abbrev pub untold_files : ℕ → StoreTold
untold_files faults = record { files = None; sound = false; faults = faults }

-- a sink over a writer tells nothing of the bytes, and counts its faults
abbrev pub untold_bytes : ℕ → SinkTold
untold_bytes faults = record { taken = None; faults = faults }

-- what telling a line does: it was taken; or a front of it, until a fault was counted, or memory was refused; or nothing was
-- taken, for want of memory
abbrev pub Tells : {X : Type 0} → SinkTold → SinkTold → List ℕ → Result X SinkFault → Type 0
Tells old new line (Ok _) = new ≡ with_taken old line
Tells old new line (Err Failed) = Rose old.faults new.faults × TookFront old new line
Tells old new line (Err Memory) = (new ≡ old) ⊎ ((new.faults ≡ old.faults) × TookFront old new line)
