-- The pieces of a list, one after the other.
use Rattle.std.proofs.Common.{◌≡◌, ℕ, suc, ◌+◌, ◌-◌, ◌<◌, ◌≤◌, Bool, true, false, cond, not, List, [], ◌∷◌, length, take, drop, get_or, ltb, refl, sym, ap, ◌∙◌, subst, Option, Some, None, arith, filter}
use Rattle.std.specs.List.{onto_first, before_first, after_first, position_or_len, position}
use Rattle.std.proofs.lemmas.List.{take_all, drop_all, take_rest, get_or-drop}
use Rattle.std.proofs.lemmas.List.Sums.{prefix_len-le-length}
use Rattle.std.proofs.lemmas.List.Quantifiers.{position-Some}
use borrow.Author.Tests.{ltb-true, ltb-false}
use Rattle.assembler.specs.Lines.{pieces, tokens_of, is_blank, is_some_bytes}

abbrev found : ℕ → ℕ → Option ℕ
found n len = cond (ltb n len) (Some n) None

found_some : (b : Bool) (n i : ℕ) → cond b (Some n) None ≡ Some i → (b ≡ true) × (n ≡ i)
found_some true n i e = (refl, cc)
found_some false n i e = absurd (cc)

found_none : (b : Bool) (n : ℕ) → cond b (Some n) None ≡ None → b ≡ false
found_none true n e = absurd (cc)
found_none false n e = refl

-- the position is the length of what stands before it
position_is : {X : Type 0} (p : X → Bool) (xs : List X) (i : ℕ) → position p xs ≡ Some i → position_or_len p xs ≡ i
position_is p xs i e = (found_some (ltb (position_or_len p xs) (length xs)) (position_or_len p xs) i e).1

position_all : {X : Type 0} (p : X → Bool) (xs : List X) → position p xs ≡ None → position_or_len p xs ≡ length xs
position_all p xs e =
    let past : length xs ≤ position_or_len p xs = ltb-false (position_or_len p xs) (length xs) (found_none (ltb (position_or_len p xs) (length xs)) (position_or_len p xs) e) in
    omega (arith, prefix_len-le-length (λ x. not (p x)) xs)

pub before_first_at : (p : ℕ → Bool) (xs : List ℕ) (i : ℕ) → position p xs ≡ Some i → take i xs ≡ before_first p xs
before_first_at p xs i e = ap (λ n. take n xs) (sym (position_is p xs i e))

pub before_first_none : (p : ℕ → Bool) (xs : List ℕ) → position p xs ≡ None → xs ≡ before_first p xs
before_first_none p xs e = sym (take_all (position_or_len p xs) xs (omega (arith, position_all p xs e)))

pub pieces_step : (p : ℕ → Bool) (x : ℕ) (xs : List ℕ) (b : Bool) → p x ≡ b → pieces p (x ∷ xs) ≡ cond b ([] ∷ pieces p xs) (onto_first x (pieces p xs))
pieces_step p x xs b e = ap (λ c. cond c ([] ∷ pieces p xs) (onto_first x (pieces p xs))) e

pub len_step : (p : ℕ → Bool) (x : ℕ) (xs : List ℕ) (b : Bool) → p x ≡ b → position_or_len p (x ∷ xs) ≡ cond b 0 (suc (position_or_len p xs))
len_step p x xs true e = ap (λ c. cond (not c) (1 + position_or_len p xs) 0) e
len_step p x xs false e = ap (λ c. cond (not c) (1 + position_or_len p xs) 0) e ∙ omega arith

-- a list that is not empty has a first piece, before the first element that passes, and then the pieces of what stands after it
pub pieces_first : (p : ℕ → Bool) (xs : List ℕ) → 0 < length xs → pieces p xs ≡ before_first p xs ∷ pieces p (after_first p xs)
pieces_first p [] h = absurd (omega arith)
pieces_first p (x ∷ xs) h = by (pieces_first p xs) (p x) refl xs refl
  where
    by : (0 < length xs → pieces p xs ≡ before_first p xs ∷ pieces p (after_first p xs)) → (b : Bool) → p x ≡ b → (ys : List ℕ) → ys ≡ xs → pieces p (x ∷ xs) ≡ before_first p (x ∷ xs) ∷ pieces p (after_first p (x ∷ xs))
    by rest true e ys f = pieces_step p x xs true e ∙ sym (ap (λ n. take n (x ∷ xs) ∷ pieces p (drop (n + 1) (x ∷ xs))) (len_step p x xs true e))
    by rest false e [] f = subst (λ zs. pieces p (x ∷ zs) ≡ before_first p (x ∷ zs) ∷ pieces p (after_first p (x ∷ zs))) f (pieces_step p x [] false e ∙ sym (ap (λ n. take n (x ∷ []) ∷ pieces p (drop (n + 1) (x ∷ []))) (len_step p x [] false e)))
    by rest false e (y ∷ ys) f =
        let some : 0 < length xs = omega (arith, ap length f) in
        let n : ℕ = position_or_len p xs in
        let next : suc n + 1 ≡ suc (n + 1) = omega arith in
        pieces_step p x xs false e ∙ ap (onto_first x) (rest some)
        ∙ sym (ap (λ k. take k (x ∷ xs) ∷ pieces p (drop (k + 1) (x ∷ xs))) (len_step p x xs false e) ∙ ap (λ k. (x ∷ take n xs) ∷ pieces p (drop k (x ∷ xs))) next)

-- the rest of a list from a place, as a slice of it
abbrev pub from_place : List ℕ → ℕ → List ℕ
from_place xs i = take (length xs - i) (drop i xs)

-- the first piece ends at the first element that passes
pub pieces_at : (p : ℕ → Bool) (xs : List ℕ) (i : ℕ) → position p xs ≡ Some i → pieces p xs ≡ take i xs ∷ pieces p (from_place xs (i + 1))
pieces_at p xs i e =
    let at : position_or_len p xs ≡ i = position_is p xs i e in
    let within : position_or_len p xs < length xs = ltb-true (position_or_len p xs) (length xs) (found_some (ltb (position_or_len p xs) (length xs)) (position_or_len p xs) i e).0 in
    pieces_first p xs (omega arith) ∙ ap (λ n. take n xs ∷ pieces p (drop (n + 1) xs)) at
    ∙ ap (λ ys. take i xs ∷ pieces p ys) (sym (take_rest xs (i + 1)))

-- where none passes there is one piece
pub pieces_none : (p : ℕ → Bool) (xs : List ℕ) → position p xs ≡ None → 0 < length xs → pieces p xs ≡ xs ∷ []
pieces_none p xs e h =
    let all : position_or_len p xs ≡ length xs = position_all p xs e in
    pieces_first p xs h ∙ ap (λ n. take n xs ∷ pieces p (drop (n + 1) xs)) all
    ∙ ap (λ ys. ys ∷ pieces p (drop (length xs + 1) xs)) (take_all (length xs) xs (omega arith))
    ∙ ap (λ ys. xs ∷ pieces p ys) (drop_all (length xs + 1) xs (omega arith))

abbrev is_token_byte : ℕ → Bool
is_token_byte b = not (is_blank b)

skip_step : (x : ℕ) (xs : List ℕ) (b : Bool) → is_blank x ≡ b → tokens_of (x ∷ xs) ≡ cond b (tokens_of xs) (filter is_some_bytes (onto_first x (pieces is_blank xs)))
skip_step x xs true e = ap (filter is_some_bytes) (pieces_step is_blank x xs true e)
skip_step x xs false e = ap (filter is_some_bytes) (pieces_step is_blank x xs false e)

not_step : (x : ℕ) (b : Bool) → is_blank x ≡ b → is_token_byte x ≡ not b
not_step x b e = ap not e

-- blanks at the front make no token
skip : (xs : List ℕ) → tokens_of xs ≡ tokens_of (drop (position_or_len is_token_byte xs) xs)
skip [] = refl
skip (x ∷ xs) = by (skip xs) (is_blank x) refl
  where
    by : tokens_of xs ≡ tokens_of (drop (position_or_len is_token_byte xs) xs) → (b : Bool) → is_blank x ≡ b → tokens_of (x ∷ xs) ≡ tokens_of (drop (position_or_len is_token_byte (x ∷ xs)) (x ∷ xs))
    by rest true e = skip_step x xs true e ∙ rest ∙ sym (ap (λ n. tokens_of (drop n (x ∷ xs))) (len_step is_token_byte x xs false (not_step x true e)))
    by rest false e = sym (ap (λ n. tokens_of (drop n (x ∷ xs))) (len_step is_token_byte x xs true (not_step x false e)))

pub tokens_from : (xs : List ℕ) (i : ℕ) → position is_token_byte xs ≡ Some i → tokens_of xs ≡ tokens_of (from_place xs i)
tokens_from xs i e = skip xs ∙ ap (λ n. tokens_of (drop n xs)) (position_is is_token_byte xs i e) ∙ ap tokens_of (sym (take_rest xs i))

pub no_tokens : (xs : List ℕ) → position is_token_byte xs ≡ None → tokens_of xs ≡ []
no_tokens xs e = skip xs ∙ ap tokens_of (drop_all (position_or_len is_token_byte xs) xs (omega (arith, position_all is_token_byte xs e)))

-- the first token begins where the bytes do
some_byte : (xs : List ℕ) → 0 < length xs → is_blank (get_or xs 0 0) ≡ false → is_some_bytes (before_first is_blank xs) ≡ true
some_byte [] h e = absurd (omega arith)
some_byte (x ∷ xs) h e = ap (λ n. is_some_bytes (take n (x ∷ xs))) (len_step is_blank x xs false e)

pub tokens_first : (xs : List ℕ) → 0 < length xs → is_blank (get_or xs 0 0) ≡ false → tokens_of xs ≡ before_first is_blank xs ∷ tokens_of (after_first is_blank xs)
tokens_first xs h e =
    ap (filter is_some_bytes) (pieces_first is_blank xs h)
    ∙ ap (λ b. cond b (before_first is_blank xs ∷ tokens_of (after_first is_blank xs)) (tokens_of (after_first is_blank xs))) (some_byte xs h e)

pub tokens_at : (xs : List ℕ) (i : ℕ) → 0 < length xs → is_blank (get_or xs 0 0) ≡ false → position is_blank xs ≡ Some i → tokens_of xs ≡ take i xs ∷ tokens_of (from_place xs (i + 1))
tokens_at xs i h f e = tokens_first xs h f ∙ ap (λ n. take n xs ∷ tokens_of (drop (n + 1) xs)) (position_is is_blank xs i e)
    ∙ ap (λ ys. take i xs ∷ tokens_of ys) (sym (take_rest xs (i + 1)))

pub tokens_none : (xs : List ℕ) → 0 < length xs → is_blank (get_or xs 0 0) ≡ false → position is_blank xs ≡ None → tokens_of xs ≡ xs ∷ []
tokens_none xs h f e =
    tokens_first xs h f ∙ ap (λ n. take n xs ∷ tokens_of (drop (n + 1) xs)) (position_all is_blank xs e)
    ∙ ap (λ ys. ys ∷ tokens_of (drop (length xs + 1) xs)) (take_all (length xs) xs (omega arith))
    ∙ ap (λ ys. xs ∷ tokens_of ys) (drop_all (length xs + 1) xs (omega arith))

not_true : (b : Bool) → not b ≡ true → b ≡ false
not_true true e = sym e
not_true false e = refl

-- a token begins with no blank
pub token_begins : (xs : List ℕ) (i : ℕ) → position is_token_byte xs ≡ Some i → (i < length xs) × (is_blank (get_or (from_place xs i) 0 0) ≡ false)
token_begins xs i e =
    let at = position-Some is_token_byte xs i 0 e in
    let here : get_or (drop i xs) 0 0 ≡ get_or xs i 0 = get_or-drop i xs 0 0 ∙ ap (λ k. get_or xs k 0) (omega arith) in
    (at.0, ap (λ ys. is_blank (get_or ys 0 0)) (take_rest xs i) ∙ ap is_blank here ∙ not_true (is_blank (get_or xs i 0)) at.1)
