-- What a load of a store in memory answers, and what it leaves.
use Rattle.std.specs.Prelude.{ℕ, List, length, Bool, false, not, ◌&&◌, ◌||◌, nat_lt, is_none, if◌then◌else◌}
use Rattle.std.specs.Option.{option_map_or}
use Rattle.std.specs.FinMap.{get}
use Rattle.light_base.specs.Causes.{next}
use Rattle.light_base.specs.InMemory.{StoreState, is_failing}

-- whether a load fails: its number says so, or the name isn't there
abbrev pub load_fails : StoreState → List ℕ → Bool
load_fails s name = is_failing s.fail s.calls || is_none (get s.files name)

-- whether the file of that name has more bytes than the cap
abbrev pub is_longer : StoreState → List ℕ → ℕ → Bool
is_longer s name cap = option_map_or (λ bytes. nat_lt cap (length bytes)) (get s.files name) false

-- whether a load meets more bytes than it may take: it doesn't fail, and the file is longer
abbrev pub load_too_long : StoreState → List ℕ → ℕ → Bool
load_too_long s name cap = not (load_fails s name) && is_longer s name cap

-- one more call, which counted a fault or none
abbrev pub called : StoreState → Bool → StoreState
called s failed = record s { calls = next s.calls; faults = if failed then next s.faults else s.faults }
