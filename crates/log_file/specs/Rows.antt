-- Rows of a table: things of one kind, one after the other.
use Rattle.std.specs.Prelude.{ℕ, zero, suc, List, [], ◌∷◌, ◌++◌, Result, Ok}
use Rattle.machine.specs.Reading.{◌>>=◌}

-- what comes after a step whose value says nothing
infixl 10 ◌>>◌
abbrev pub ◌>>◌ : {A B E : Type 0} → Result A E → Result B E → Result B E
step >> next = step >>= λ _. next

-- so many more rows after these, each read with a look at those before it, up to the first fault
unfoldable pub rows_after : {A E : Type 0} → (List A → Result A E) → List A → ℕ → Result (List A) E
rows_after read before zero = Ok before
rows_after read before (suc n) = do
  row ← read before
  rows_after read (before ++ row ∷ []) n

-- so many rows
abbrev pub rows : {A E : Type 0} → (List A → Result A E) → ℕ → Result (List A) E
rows read n = rows_after read [] n
