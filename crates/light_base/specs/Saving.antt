-- What a save of a store in memory leaves.
use Rattle.std.specs.Prelude.{ℕ, ◌/◌, List, length, take, true, false, Result, Ok, Err}
use Rattle.std.specs.FinMap.{insert}
use Rattle.light_base.specs.InMemory.{StoreState}
use Rattle.light_base.specs.Loading.{called}
use Rattle.light_base.specs.declared.store.StoreFault.{StoreFault}
use Rattle.light_base.specs.declared.store.StoreFault.TheVariants.{Failed, TooLong, Memory}

-- a name is given these bytes
abbrev pub with_file : StoreState → List ℕ → List ℕ → StoreState
with_file s name bytes = record s { files = insert s.files name bytes }

-- what a failing save leaves of the bytes
abbrev pub first_half : List ℕ → List ℕ
first_half bytes = take (length bytes / 2) bytes

-- the whole bytes at Ok, the first half of them where the call failed, and the files as they were otherwise
abbrev pub store_after : {T : Type 0} → StoreState → List ℕ → List ℕ → Result T StoreFault → StoreState
store_after s name bytes (Ok _) = with_file (called s false) name bytes
store_after s name bytes (Err Failed) = with_file (called s true) name (first_half bytes)
store_after s name bytes (Err (TooLong taken)) = called s false
store_after s name bytes (Err Memory) = called s false
