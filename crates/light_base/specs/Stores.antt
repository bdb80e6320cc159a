-- What a store tells of itself, and what its calls do.
use Rattle.std.specs.Prelude.{◌≡◌, ◌≢◌, ℕ, ◌+◌, ◌<◌, ◌≤◌, Bool, IsTrue, List, length, Vec, Option, None, Some, option_map, IfSome, IsSomeAnd, Result, Ok, Err}
use Rattle.std.specs.FinMap.{get, insert}
use Rattle.light_base.specs.Causes.{Rose}
use Rattle.light_base.specs.FileMap.{Files}
use Rattle.light_base.specs.declared.store.StoreFault.{StoreFault}
use Rattle.light_base.specs.declared.store.StoreFault.TheVariants.{Failed, TooLong, Memory}

-- its files, where it tells them; whether it is sound; and how many faults it counted
pub record StoreTold : Type 0 where
  pub files : Option Files
  pub sound : Bool
  pub faults : ℕ

-- the file of that name has these bytes, where the files are told
abbrev pub Has : StoreTold → List ℕ → List ℕ → Type 0
Has told name bytes = IfSome told.files (λ files. get files name ≡ Some bytes)

-- the file of that name has more bytes than the cap, where the files are told
abbrev pub HasOver : StoreTold → List ℕ → ℕ → Type 0
HasOver told name cap = IfSome told.files (λ files. IsSomeAnd (get files name) (λ bytes. cap < length bytes))

-- at a sound store that tells its files, the name isn't there
abbrev pub IsMissing : StoreTold → List ℕ → Type 0
IsMissing told name = IfSome told.files (λ files. IsTrue told.sound → get files name ≡ None)

-- the store isn't sound, or doesn't tell its files
abbrev pub IsUnsound : StoreTold → Type 0
IsUnsound told = IfSome told.files (λ _. IsTrue told.sound → ⊥)

-- the same store after a save: this name has these bytes
abbrev pub with_saved : StoreTold → List ℕ → List ℕ → StoreTold
with_saved told name bytes = record told { files = option_map (λ files. insert files name bytes) told.files }

-- this name has any bytes or isn't there, all others are as before
abbrev pub SameButAt : Option Files → Option Files → List ℕ → Type 0
SameButAt None new name = new ≡ None
SameButAt (Some old) new name = IsSomeAnd new (λ f. (other : List ℕ) → other ≢ name → get f other ≡ get old other)

-- what a load does: the bytes are those of the file; a fault was counted; the file is too long; memory was refused
abbrev pub Loaded : {Z : Type 0} → StoreTold → StoreTold → List ℕ → ℕ → Result (Vec ℕ Z) StoreFault → Type 0
Loaded old new name cap (Ok bytes) = Has old name bytes.items × (length bytes.items ≤ cap) × (new ≡ old)
Loaded old new name cap (Err Failed) = IsMissing old name × Rose old.faults new.faults × (new ≡ record old { faults = new.faults })
Loaded old new name cap (Err (TooLong taken)) = HasOver old name cap × (taken ≡ cap + 1) × (new ≡ old)
Loaded old new name cap (Err Memory) = new ≡ old

-- a save failed: a fault was counted, and all other files are as before
pub record SaveFailed (old new : StoreTold) (name : List ℕ) : Type 0 where
  pub unsound : IsUnsound old
  pub counted : Rose old.faults new.faults
  pub others : SameButAt old.files new.files name
  pub left : new ≡ record old { files = new.files; faults = new.faults }

-- what a save does: the file was saved; it failed; never, that a file is too long; memory was refused
abbrev pub Saved : {X : Type 0} → StoreTold → StoreTold → List ℕ → List ℕ → Result X StoreFault → Type 0
Saved old new name bytes (Ok _) = new ≡ with_saved old name bytes
Saved old new name bytes (Err Failed) = SaveFailed old new name
Saved old new name bytes (Err (TooLong taken)) = ⊥
Saved old new name bytes (Err Memory) = new ≡ old
