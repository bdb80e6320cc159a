-- What a sink tells of itself, and what its calls do.
use Rattle.std.specs.Prelude.{◌≡◌, ℕ, ◌<◌, ◌≤◌, List, ◌++◌, length, take, Option, option_map, Result, Ok, Err}
use Rattle.light_base.specs.Causes.{Rose}
use Rattle.light_base.specs.declared.sink.SinkFault.{SinkFault}
use Rattle.light_base.specs.declared.sink.SinkFault.TheVariants.{Failed, Memory}

-- the bytes that it took, where it tells them, and how many faults it counted
pub record SinkTold : Type 0 where
  pub taken : Option (List ℕ)
  pub faults : ℕ

-- the same sink after it took these bytes
abbrev pub with_taken : SinkTold → List ℕ → SinkTold
with_taken told bytes = record told { taken = option_map (λ taken. taken ++ bytes) told.taken }

-- what a put does: some of the bytes were taken from the front; a fault was counted; memory was refused
abbrev pub Put : SinkTold → SinkTold → List ℕ → Result ℕ SinkFault → Type 0
Put old new bytes (Ok count) = (1 ≤ count) × (count ≤ length bytes) × (new ≡ with_taken old (take count bytes))
Put old new bytes (Err Failed) = Rose old.faults new.faults × (new ≡ record old { faults = new.faults })
Put old new bytes (Err Memory) = new ≡ old

-- a front of the text was taken, and not all of it; the sink may have counted
pub record TookFront (old new : SinkTold) (text : List ℕ) : Type 0 where
  pub front : List ℕ
  pub rest : List ℕ
  pub left : 0 < length rest
  pub split : text ≡ front ++ rest
  pub now : new ≡ record (with_taken old front) { faults = new.faults }

-- what the puts of a whole text do: it was taken; or a front of it, until a fault was counted, or memory was refused
abbrev pub PutAll : {X : Type 0} → SinkTold → SinkTold → List ℕ → Result X SinkFault → Type 0
PutAll old new text (Ok _) = new ≡ with_taken old text
PutAll old new text (Err Failed) = Rose old.faults new.faults × TookFront old new text
PutAll old new text (Err Memory) = (new.faults ≡ old.faults) × TookFront old new text
