-- The store and the sink in memory, as contracts see them.
use Rattle.std.specs.Prelude.{ℕ, Bool, true, false, ◌==◌, List, [], ◌∷◌, Some, refl}
use Rattle.std.specs.List.{list_any}
use Rattle.std.specs.Ordering.{nat_cmp}
use Rattle.std.specs.Cmp.Lexicographic.{slice_cmp}
use Rattle.std.specs.Coded.{Coded, code_by, coded×, coded_ℕ, coded_list}
use Rattle.std.specs.FinMap.{code, empty}
use Rattle.light_base.specs.Causes.{next}
use Rattle.light_base.specs.FileMap.{Files}
use Rattle.light_base.specs.Stores.{StoreTold}
use Rattle.light_base.specs.Sinks.{SinkTold}

-- whether the call after so many is one of those that fail
abbrev pub is_failing : List ℕ → ℕ → Bool
is_failing fail calls = list_any (λ n. n == next calls) fail

-- whether the list is empty
abbrev pub is_empty : List ℕ → Bool
is_empty [] = true
is_empty (n ∷ ns) = false

-- a store: its files, the numbers of the calls that fail, and how many calls and faults there were
pub record StoreState : Type 0 where
  pub files : Files
  pub fail : List ℕ
  pub calls : ℕ
  pub faults : ℕ

abbrev pub store_code : Coded StoreState
store_code =
    code_by (Files × (List ℕ × (ℕ × ℕ)))
    (coded× (code {R = slice_cmp nat_cmp} (coded_list coded_ℕ) (coded_list coded_ℕ)) (coded× (coded_list coded_ℕ) (coded× coded_ℕ coded_ℕ)))
    (λ s. (s.files, (s.fail, (s.calls, s.faults))))
    (λ p. record { files = p.0; fail = p.1.0; calls = p.1.1.0; faults = p.1.1.1 }) (λ _. refl)

-- a store with no file and no call so far
abbrev pub empty_store : List ℕ → StoreState
empty_store fail = record { files = empty; fail = fail; calls = 0; faults = 0 }

-- what such a store tells: its files, and that it is sound where no call is to fail
abbrev pub store_told : StoreState → StoreTold
store_told s = record { files = Some s.files; sound = is_empty s.fail; faults = s.faults }

-- a sink: the bytes taken, the most that one put takes, the numbers of the puts that fail, and how many puts and faults there were
pub record SinkState : Type 0 where
  pub taken : List ℕ
  pub piece : ℕ
  pub fail : List ℕ
  pub calls : ℕ
  pub faults : ℕ

-- a sink that has taken nothing, with no put so far
abbrev pub empty_sink : ℕ → List ℕ → SinkState
empty_sink piece fail = record { taken = []; piece = piece; fail = fail; calls = 0; faults = 0 }

-- what such a sink tells: all that it took
abbrev pub sink_told : SinkState → SinkTold
sink_told s = record { taken = Some s.taken; faults = s.faults }
