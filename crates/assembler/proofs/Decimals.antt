-- Decimal numbers and registers are read as what they were written for.
use Rattle.std.proofs.Common.{◌≡◌, ℕ, ◌+◌, ◌-◌, ◌/◌, ◌%◌, ◌^◌, ◌<◌, ◌≤◌, Bool, true, false, cond, ◌&&◌, ◌||◌, eqb, leb, List, [], ◌∷◌, ◌++◌, length, None, Some, decimal, refl, ap, ◌∙◌, ⊎_elim, arith}
use Rattle.std.proofs.lemmas.Bool.{and_parts, and_from, leb-true, lt-ltb, le-leb, ne_eqb, cases_lt}
use Rattle.std.proofs.lemmas.Fmt.{decimal_by_steps, decimal_is_IsNumeral, decimal_digit, decimal_step}
use Rattle.std.specs.List.{list_all}
use Rattle.std.specs.Char.{is_digit, digit_value}
use Rattle.std.specs.Str.Parse.{digits_value, AllDigits}
use Rattle.assembler.specs.Lines.{is_some_bytes}
use Rattle.assembler.specs.Words.{is_between, is_decimal_digit, register_of}
use Rattle.assembler.specs.Numerals.{are_digits, number_in, is_hex_letter, number_of}

pub all_append : (f : ℕ → Bool) (xs ys : List ℕ) → list_all f xs ≡ true → list_all f ys ≡ true → list_all f (xs ++ ys) ≡ true
all_append f [] ys h g = g
all_append f (x ∷ xs) ys h g =
    let s = and_parts (f x) (list_all f xs) h in
    and_from (f x) (list_all f (xs ++ ys)) s.0 (all_append f xs ys s.1 g)

pub between : (low high b : ℕ) → low ≤ b → b ≤ high → is_between low high b ≡ true
between low high b h g = and_from (leb low b) (leb b high) (le-leb low b h) (le-leb b high g)

-- some bytes, all of which are digits
pub record IsDigits (bytes : List ℕ) : Type 0 where
  pub some : is_some_bytes bytes ≡ true
  pub all : list_all is_decimal_digit bytes ≡ true

some_push : (xs : List ℕ) (x : ℕ) → is_some_bytes (xs ++ x ∷ []) ≡ true
some_push [] x = refl
some_push (y ∷ ys) x = refl

one_digit : (d : ℕ) → d < 10 → list_all is_decimal_digit ((48 + d) ∷ []) ≡ true
one_digit d h = and_from (is_decimal_digit (48 + d)) true (between 48 57 (48 + d) (omega arith) (omega arith)) refl

pub decimal_digits : (n : ℕ) → n < 2 ^ 64 → IsDigits (decimal n)
decimal_digits n h =
    decimal_by_steps (λ _ ds. IsDigits ds)
    (λ m low. record { some = refl; all = one_digit m low })
    (λ m ds high d. record { some = some_push ds (48 + m % 10); all = all_append is_decimal_digit ds ((48 + m % 10) ∷ []) d.all (one_digit (m % 10) (omega arith)) })
    n h

digits_are : (w : List ℕ) → AllDigits 10 w → list_all (λ d. is_digit d 10) w ≡ true
digits_are [] h = refl
digits_are (c ∷ cs) h = and_from (is_digit c 10) (list_all (λ d. is_digit d 10) cs) (lt-ltb (digit_value c) 10 h.0) (digits_are cs h.1)

are_digits_from : (w : List ℕ) → 0 < length w → AllDigits 10 w → are_digits 10 w ≡ true
are_digits_from [] h g = absurd (omega arith)
are_digits_from (c ∷ cs) h g = digits_are (c ∷ cs) g

no_hex : (x : ℕ) → is_decimal_digit x ≡ true → is_hex_letter x ≡ false
no_hex x h =
    let high : x ≤ 57 = leb-true x 57 (and_parts (leb 48 x) (leb x 57) h).1 in
    ap (λ b. b || eqb x 88) (ne_eqb x 120 (λ e. absurd (omega arith))) ∙ ne_eqb x 88 (λ e. absurd (omega arith))

no_and : (a b : Bool) → b ≡ false → (a && b) ≡ false
no_and true b e = e
no_and false b e = refl

-- digits are a decimal number
digits_decimal : (w : List ℕ) → list_all is_decimal_digit w ≡ true → number_of w ≡ number_in 10 w
digits_decimal [] h = refl
digits_decimal (z ∷ []) h = refl
digits_decimal (z ∷ x ∷ ds) h =
    let s = and_parts (is_decimal_digit z) (list_all is_decimal_digit (x ∷ ds)) h in
    let t = and_parts (is_decimal_digit x) (list_all is_decimal_digit ds) s.1 in
    ap (λ b. cond b (number_in 16 ds) (number_in 10 (z ∷ x ∷ ds))) (no_and (eqb z 48) (is_hex_letter x) (no_hex x t.0))

pub number_decimal : (n : ℕ) → n < 2 ^ 64 → number_of (decimal n) ≡ Some n
number_decimal n h =
    let s = decimal_is_IsNumeral n h in
    digits_decimal (decimal n) (decimal_digits n h).all
    ∙ ap (λ b. cond b (Some (digits_value 10 (decimal n))) None) (are_digits_from (decimal n) s.0.0 s.0.1)
    ∙ ap (λ k. Some k) s.1

one_is : decimal 1 ≡ 49 ∷ []
one_is = decimal_digit 1 (omega arith)

teen : (r : ℕ) → 10 ≤ r → r < 16 → decimal r ≡ 49 ∷ (48 + r % 10) ∷ []
teen r low high =
    let q : r / 10 ≡ 1 = omega arith in
    decimal_step r low (omega arith) ∙ ap (λ k. decimal k ++ (48 + r % 10) ∷ []) q ∙ ap (λ ds. ds ++ (48 + r % 10) ∷ []) one_is

-- a register's name is read as the register
pub register_named : (r : ℕ) → r < 16 → register_of (114 ∷ decimal r) ≡ Some r
register_named r h =
    ⊎_elim
    (λ (low : r < 10).
    ap (λ ds. register_of (114 ∷ ds)) (decimal_digit r low)
    ∙ ap (λ b. cond b (Some ((48 + r) - 48)) None) (between 48 57 (48 + r) (omega arith) (omega arith)) ∙ ap (λ k. Some k) (omega arith))
    (λ (high : 10 ≤ r).
    ap (λ ds. register_of (114 ∷ ds)) (teen r high h)
    ∙ ap (λ b. cond b (Some ((48 + r % 10) - 38)) None) (between 48 53 (48 + r % 10) (omega arith) (omega arith)) ∙ ap (λ k. Some k) (omega arith))
    (cases_lt r 10)
