-- Reading bytes: numbers in a row, faults before a value, and what a reader answers.
use Rattle.std.specs.Prelude.{◌≡◌, ◌≢◌, ℕ, zero, suc, List, [], ◌∷◌, take, drop, Option, None, Some, Result, Ok, Err}
use Rattle.std.specs.Int.{Width, byte_len, from_be_bytes}

-- what a function returned, seen by view, is what reading gives, unless it is the fault of memory that ran out
abbrev pub GivesUnless : {X Y E : Type 0} → E → (X → Y) → Result X E → Result Y E → Type 0
GivesUnless memory view (Ok x) read = read ≡ Ok (view x)
GivesUnless memory view (Err e) read = e ≢ memory → read ≡ Err e

-- one step after the other, up to the first fault
infixl 10 ◌>>=◌
abbrev pub ◌>>=◌ : {A B E : Type 0} → Result A E → (A → Result B E) → Result B E
(Ok x) >>= f = f x
(Err e) >>= f = Err e

-- a fault of this kind, told as an error, or what comes after it
abbrev pub after : {A K E : Type 0} → (K → E) → Option K → Result A E → Result A E
after tell None r = r
after tell (Some k) r = Err (tell k)

-- so many numbers of this width, one after the other
unfoldable pub numbers_at : Width → ℕ → List ℕ → List ℕ
numbers_at w zero bytes = []
numbers_at w (suc n) bytes = from_be_bytes w (take (byte_len w) bytes) ∷ numbers_at w n (drop (byte_len w) bytes)
