-- Numbers in a text.
use Rattle.std.specs.Prelude.{ℕ, Bool, false, ◌&&◌, ◌||◌, ◌==◌, List, [], ◌∷◌, if◌then◌else◌, Option, None, Some}
use Rattle.std.specs.Char.{is_digit}
use Rattle.std.specs.Str.Parse.{digits_value}
use Rattle.std.specs.List.{list_all}

-- one digit or more in the base, and nothing else
abbrev pub are_digits : ℕ → List ℕ → Bool
are_digits base [] = false
are_digits base (b ∷ bs) = list_all (λ d. is_digit d base) (b ∷ bs)

-- the number that digits in the base write; None where the bytes are no such digits
abbrev pub number_in : ℕ → List ℕ → Option ℕ
number_in base bytes = if are_digits base bytes then Some (digits_value base bytes) else None

abbrev pub is_hex_letter : ℕ → Bool
is_hex_letter b = (b == 120) || (b == 88)

-- `0x` or `0X` and hexadecimal digits, or decimal digits; leading zeros are allowed, and how large it is is not asked here
abbrev pub number_of : List ℕ → Option ℕ
number_of (z ∷ x ∷ digits) = if (z == 48) && is_hex_letter x then number_in 16 digits else number_in 10 (z ∷ x ∷ digits)
number_of word = number_in 10 word

-- the number that the only word writes
abbrev pub one_number : List (List ℕ) → Option ℕ
one_number (word ∷ []) = number_of word
one_number _ = None

abbrev pub both : Option ℕ → Option ℕ → Option (ℕ × ℕ)
both (Some m) (Some n) = Some (m, n)
both _ _ = None

-- the numbers that the only two words write
abbrev pub two_numbers : List (List ℕ) → Option (ℕ × ℕ)
two_numbers (first ∷ second ∷ []) = both (number_of first) (number_of second)
two_numbers _ = None
