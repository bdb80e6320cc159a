-- The number that a word writes, and what `parse` answers.
use Rattle.std.proofs.Common.{◌≡◌, ◌≢◌, ℕ, ◌^◌, ◌<◌, ◌≤◌, Bool, true, false, ◌&&◌, ◌==◌, not, cond, nat_le, List, [], ◌∷◌, length, get_or, None, Some, Result, Ok, Err, refl, sym, ap, subst, ◌∙◌, arith, lit<, zero, suc}
use Rattle.std.specs.Fmt.{decimal}
use Rattle.std.specs.Str.{bytes_eq}
use Rattle.std.specs.Str.Parse.{AllDigits, digits_value, ParsesUnsigned}
use Rattle.std.specs.Result.{OkIff}
use Rattle.std.proofs.lemmas.Bool.{false_from_ne_true, leb-true, le-leb, eqb-false}
use Rattle.std.proofs.lemmas.Bool.Decides.{Decides-eqb}
use Rattle.std.proofs.lemmas.Slice.Eq.{bytes_eq-Decides}
use Rattle.std.proofs.lemmas.Str.Parse.{IsNumeralModel, numerals_by_value, tells_digits, parse_plain}
use Rattle.std.proofs.lemmas.Fmt.{decimal-digits_value, digits_value-decimal, decimal_is_IsNumeral, decimal_injective, decimal_digit, first_decimal, decimal_nonempty}
use Rattle.light_top.specs.Words.{number_of, is_plain}

own : IsNumeralModel (AllDigits 10) (digits_value 10)
own = numerals_by_value _ tells_digits

both : (a b : Bool) → (a && b) ≡ true → (a ≡ true) × (b ≡ true)
both true b e = (refl, e)
both false b e = cc

both_true : (a b : Bool) → a ≡ true → b ≡ true → (a && b) ≡ true
both_true true b p q = q
both_true false b p q = p

false_from_not : (b : Bool) → not b ≡ true → b ≡ false
false_from_not true e = cc
false_from_not false e = refl

differs : (a b : ℕ) → a ≢ b → not (a == b) ≡ true
differs a b ne = ap not (false_from_ne_true (a == b) (λ t. ne ((Decides-eqb a b).0 t)))

-- the text of no number up to most
pub number_of-none : (most : ℕ) (word : List ℕ) → ((n : ℕ) → n ≤ most → word ≢ decimal n) → number_of most word ≡ None
number_of-none most word none =
    ap (λ t. cond t (Some (digits_value 10 word)) None) (false_from_ne_true _ (λ t.
    none (digits_value 10 word) (leb-true _ _ (both _ _ t).1) ((bytes_eq-Decides word (decimal (digits_value 10 word))).0 (both _ _ t).0)))

chosen : (most n m : ℕ) → n ≤ most → m ≡ n → cond (bytes_eq (decimal n) (decimal m) && nat_le m most) (Some m) None ≡ Some n
chosen most n m le e =
    subst (λ k. cond (bytes_eq (decimal n) (decimal k) && nat_le k most) (Some k) None ≡ Some n) (sym e)
    (ap (λ t. cond t (Some n) None) (both_true _ _ ((bytes_eq-Decides (decimal n) (decimal n)).1 refl) (le-leb n most le)))

pub number_of-decimal : (most n : ℕ) → n ≤ most → most < 2 ^ 32 → number_of most (decimal n) ≡ Some n
number_of-decimal most n le fits = chosen most n _ le (digits_value-decimal own n (omega arith))

-- a plain word
record Plain (word : List ℕ) : Type 0 where
  nonempty : 0 < length word
  no_plus : get_or word 0 0 ≢ 43
  zero_alone : get_or word 0 0 ≡ 48 → length word ≡ 1

plain_word : (word : List ℕ) → is_plain word ≡ true → Plain word
plain_word [] e = cc
plain_word (c ∷ []) e = record { nonempty = omega arith; no_plus = eqb-false c 43 (false_from_not _ e); zero_alone = λ _. refl }
plain_word (c ∷ d ∷ cs) e =
    let parts = both (not (c == 43)) (not (c == 48)) e in
    record { nonempty = omega arith; no_plus = eqb-false c 43 (false_from_not _ parts.0); zero_alone = λ is. absurd (eqb-false c 48 (false_from_not _ parts.1) is) }

is_plain-true : (word : List ℕ) → Plain word → is_plain word ≡ true
is_plain-true [] p = let h : 0 < 0 = p.nonempty in absurd (omega arith)
is_plain-true (c ∷ []) p = differs c 43 p.no_plus
is_plain-true (c ∷ d ∷ cs) p =
    both_true _ _ (differs c 43 p.no_plus) (differs c 48 (λ is. let h = p.zero_alone is in omega arith))

plain_decimal : (n : ℕ) → n < 2 ^ 64 → Plain (decimal n)
plain_decimal zero fits =
    subst Plain (sym (decimal_digit 0 (lit< tt))) (record { nonempty = lit< tt; no_plus = λ e. omega arith; zero_alone = λ _. refl })
plain_decimal (suc n) fits =
    let first = first_decimal (suc n) (omega arith) fits in
    record { nonempty = decimal_nonempty (suc n) fits; no_plus = λ e. omega arith; zero_alone = λ e. absurd (omega arith) }

pub not_plain : (most : ℕ) (word : List ℕ) → most < 2 ^ 32 → is_plain word ≡ false → number_of most word ≡ None
not_plain most word fits e = number_of-none most word (λ n le is.
    let plain : is_plain word ≡ true = subst (λ w. is_plain w ≡ true) (sym is) (is_plain-true (decimal n) (plain_decimal n (omega arith))) in cc)

-- what `parse` answers of a plain word
pub parsed : {E : Type 0} (word : List ℕ) (r : Result ℕ E) (n : ℕ) → is_plain word ≡ true → ParsesUnsigned 32 10 word r → r ≡ Ok n → (word ≡ decimal n) × (n < 2 ^ 32)
parsed word r n e parses is =
    let p = plain_word word e in
    let h = subst (λ x. OkIff x (AllDigits 10 word × (0 < length word) × (digits_value 10 word < 2 ^ 32)) (digits_value 10 word)) is (parse_plain own 32 word r parses p.no_plus) in
    (sym (decimal-digits_value own word h.0.0 h.0.1 p.zero_alone (omega (arith, h.0.2))) ∙ ap decimal (sym h.1), omega (arith, h.1, h.0.2))

pub not_parsed : {E : Type 0} (most : ℕ) (word : List ℕ) (r : Result ℕ E) (error : E) → most < 2 ^ 32 → is_plain word ≡ true → ParsesUnsigned 32 10 word r → r ≡ Err error → number_of most word ≡ None
not_parsed most word r error fits e parses is_err =
    let p = plain_word word e in
    let h = subst (λ x. OkIff x (AllDigits 10 word × (0 < length word) × (digits_value 10 word < 2 ^ 32)) (digits_value 10 word)) is_err (parse_plain own 32 word r parses p.no_plus) in
    number_of-none most word (λ n le is.
    let d = decimal_is_IsNumeral n (omega arith) in
    let v : digits_value 10 word ≡ n = ap (digits_value 10) is ∙ d.1 in
    h (subst (AllDigits 10) (sym is) d.0.1, subst (λ w. 0 < length w) (sym is) d.0.0, omega arith))

-- the text of a number above most
pub above : (most : ℕ) (word : List ℕ) (n : ℕ) → word ≡ decimal n → n < 2 ^ 32 → most < n → number_of most word ≡ None
above most word n is fits more = number_of-none most word (λ m le is_m.
    let same : n ≡ m = decimal_injective n m (omega arith) (omega arith) (sym is ∙ is_m) in omega arith)
