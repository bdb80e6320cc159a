-- A line of words, with one space between two, is read as these words.
use Rattle.std.proofs.Common.{◌≡◌, ℕ, zero, suc, ◌-◌, ◌<◌, ◌≤◌, Bool, true, false, cond, not, ◌&&◌, ◌||◌, eqb, leb, List, [], ◌∷◌, ◌++◌, length, get_or, take, filter, Option, None, Some, is_some, Err, refl, sym, ap, ◌∙◌, ⊎_elim, arith, flat_map}
use Rattle.std.proofs.lemmas.Bool.{and_parts, and_from, leb-true, ne_eqb, eqb-true, or_cases}
use Rattle.std.proofs.lemmas.List.{append-nil}
use Rattle.std.specs.List.{list_all, onto_first, before_first, AllByRecursion}
use Rattle.assembler.specs.declared.asm_fault.AsmKind.TheVariants as kind
use Rattle.assembler.specs.Lines.{pieces, is_line_end, lines_of, is_comment_start, is_blank, is_some_bytes, tokens_of}
use Rattle.assembler.specs.Words.{is_between, head_of, is_operation}
use Rattle.assembler.specs.Parts.{Parts, label_in, first_of, after_first_of, parts_in, parts_of, is_plain_byte}
use Rattle.assembler.specs.Progress.{Progress, take_item, take_parts, take_line}
use Rattle.assembler.specs.Canonical.{spaced}
use Rattle.assembler.proofs.Pieces.{pieces_step, len_step}
use Rattle.assembler.proofs.Decimals.{all_append, between}

-- the bytes of words in a canonical text: full stop, digits and small letters, and two that do not occur
abbrev pub is_word_byte : ℕ → Bool
is_word_byte b = is_between 46 57 b || is_between 97 122 b

pub record IsWord (w : List ℕ) : Type 0 where
  pub some : is_some_bytes w ≡ true
  pub all : list_all is_word_byte w ≡ true

record IsOther (b : ℕ) : Type 0 where
  low : 46 ≤ b
  high : b ≤ 122
  no_colon : b ≡ 58 → ⊥
  no_semicolon : b ≡ 59 → ⊥

other : (b : ℕ) → is_word_byte b ≡ true → IsOther b
other b h =
    ⊎_elim
    (λ (e : is_between 46 57 b ≡ true).
    let s = and_parts (leb 46 b) (leb b 57) e in
    let low : 46 ≤ b = leb-true 46 b s.0 in
    let high : b ≤ 57 = leb-true b 57 s.1 in
    record { low = low; high = omega arith; no_colon = λ f. omega arith; no_semicolon = λ f. omega arith })
    (λ (e : is_between 97 122 b ≡ true).
    let s = and_parts (leb 97 b) (leb b 122) e in
    let low : 97 ≤ b = leb-true 97 b s.0 in
    let high : b ≤ 122 = leb-true b 122 s.1 in
    record { low = omega arith; high = high; no_colon = λ f. omega arith; no_semicolon = λ f. omega arith })
    (or_cases (is_between 46 57 b) (is_between 97 122 b) h)

or_false : (a b : Bool) → a ≡ false → b ≡ false → (a || b) ≡ false
or_false true b e f = absurd (cc)
or_false false b e f = f

or_left : (a b : Bool) → a ≡ true → (a || b) ≡ true
or_left true b e = refl
or_left false b e = absurd (cc)

or_right : (a b : Bool) → b ≡ true → (a || b) ≡ true
or_right true b e = refl
or_right false b e = e

not_of : (b : Bool) → b ≡ false → not b ≡ true
not_of true e = sym e
not_of false e = refl

not_blank : (b : ℕ) → is_word_byte b ≡ true → not (is_blank b) ≡ true
not_blank b h =
    let o = other b h in
    not_of (is_blank b) (or_false (((eqb b 32) || (eqb b 9)) || (eqb b 13)) (eqb b 44)
    (or_false ((eqb b 32) || (eqb b 9)) (eqb b 13)
    (or_false (eqb b 32) (eqb b 9) (ne_eqb b 32 (λ e. omega (arith, o.low))) (ne_eqb b 9 (λ e. omega (arith, o.low))))
    (ne_eqb b 13 (λ e. omega (arith, o.low))))
    (ne_eqb b 44 (λ e. omega (arith, o.low))))

pub all_imp : (f g : ℕ → Bool) → ((b : ℕ) → f b ≡ true → g b ≡ true) → (xs : List ℕ) → list_all f xs ≡ true → list_all g xs ≡ true
all_imp f g imp [] h = refl
all_imp f g imp (x ∷ xs) h =
    let s = and_parts (f x) (list_all f xs) h in
    and_from (g x) (list_all g xs) (imp x s.0) (all_imp f g imp xs s.1)

all_at : (f : ℕ → Bool) (xs : List ℕ) (i : ℕ) → list_all f xs ≡ true → i < length xs → f (get_or xs i 0) ≡ true
all_at f [] i h g = absurd (omega arith)
all_at f (x ∷ xs) zero h g = (and_parts (f x) (list_all f xs) h).0
all_at f (x ∷ xs) (suc i) h g = all_at f xs i (and_parts (f x) (list_all f xs) h).1 (omega arith)

abbrev avoids : (ℕ → Bool) → List ℕ → Type 0
avoids p xs = list_all (λ b. not (p b)) xs ≡ true

not_true : (b : Bool) → not b ≡ true → b ≡ false
not_true true e = sym e
not_true false e = refl

-- bytes that do not end a piece, and one that does
pub pieces_word : (p : ℕ → Bool) (xs ys : List ℕ) (e : ℕ) → avoids p xs → p e ≡ true → pieces p (xs ++ e ∷ ys) ≡ xs ∷ pieces p ys
pieces_word p [] ys e h g = pieces_step p e ys true g
pieces_word p (x ∷ xs) ys e h g =
    let s = and_parts (not (p x)) (list_all (λ b. not (p b)) xs) h in
    pieces_step p x (xs ++ e ∷ ys) false (not_true (p x) s.0) ∙ ap (onto_first x) (pieces_word p xs ys e s.1 g)

-- bytes that do not end a piece, at the end
pieces_whole : (p : ℕ → Bool) (x : ℕ) (xs : List ℕ) → avoids p (x ∷ xs) → pieces p (x ∷ xs) ≡ (x ∷ xs) ∷ []
pieces_whole p x [] h = pieces_step p x [] false (not_true (p x) (and_parts (not (p x)) true h).0)
pieces_whole p x (y ∷ ys) h =
    let s = and_parts (not (p x)) (list_all (λ b. not (p b)) (y ∷ ys)) h in
    pieces_step p x (y ∷ ys) false (not_true (p x) s.0) ∙ ap (onto_first x) (pieces_whole p y ys s.1)

-- a line without a comment is read whole
before_whole : (p : ℕ → Bool) (xs : List ℕ) → avoids p xs → before_first p xs ≡ xs
before_whole p [] h = refl
before_whole p (x ∷ xs) h =
    let s = and_parts (not (p x)) (list_all (λ b. not (p b)) xs) h in
    ap (λ n. take n (x ∷ xs)) (len_step p x xs false (not_true (p x) s.0)) ∙ ap (λ ys. x ∷ ys) (before_whole p xs s.1)

-- words with one space between two
abbrev pub joined : List ℕ → List (List ℕ) → List ℕ
joined w ws = w ++ flat_map spaced ws

kept : (w : List ℕ) (ws : List (List ℕ)) → is_some_bytes w ≡ true → filter is_some_bytes (w ∷ ws) ≡ w ∷ filter is_some_bytes ws
kept w ws e = ap (λ b. cond b (w ∷ filter is_some_bytes ws) (filter is_some_bytes ws)) e

one_token : (w : List ℕ) → IsWord w → tokens_of w ≡ w ∷ []
one_token [] h = absurd (let s = h.some in cc)
one_token (x ∷ xs) h = ap (filter is_some_bytes) (pieces_whole is_blank x xs (all_imp is_word_byte (λ b. not (is_blank b)) not_blank (x ∷ xs) h.all))

tokens_joined : (w : List ℕ) (ws : List (List ℕ)) → IsWord w → AllByRecursion IsWord ws → tokens_of (joined w ws) ≡ w ∷ ws
tokens_joined w [] h g = ap tokens_of (append-nil w) ∙ one_token w h
tokens_joined w (v ∷ vs) h g =
    ap (filter is_some_bytes) (pieces_word is_blank w (joined v vs) 32 (all_imp is_word_byte (λ b. not (is_blank b)) not_blank w h.all) refl)
    ∙ kept w (pieces is_blank (joined v vs)) h.some ∙ ap (λ ts. w ∷ ts) (tokens_joined v vs g.0 g.1)

abbrev is_line_byte : ℕ → Bool
is_line_byte b = is_word_byte b || eqb b 32

line_bytes : (w : List ℕ) (ws : List (List ℕ)) → IsWord w → AllByRecursion IsWord ws → list_all is_line_byte (joined w ws) ≡ true
line_bytes w [] h g = all_append is_line_byte w [] (all_imp is_word_byte is_line_byte (λ b e. or_left (is_word_byte b) (eqb b 32) e) w h.all) refl
line_bytes w (v ∷ vs) h g =
    all_append is_line_byte w (32 ∷ joined v vs) (all_imp is_word_byte is_line_byte (λ b e. or_left (is_word_byte b) (eqb b 32) e) w h.all) (line_bytes v vs g.0 g.1)

abbrev IsLineByte : ℕ → Type 0
IsLineByte b = is_line_byte b ≡ true

plain_byte : (b : ℕ) → IsLineByte b → is_plain_byte b ≡ true
plain_byte b h =
    ⊎_elim
    (λ (e : is_word_byte b ≡ true). let o = other b e in or_right ((eqb b 9) || (eqb b 13)) (is_between 32 126 b) (between 32 126 b (omega (arith, o.low)) (omega (arith, o.high))))
    (λ (e : eqb b 32 ≡ true). ap is_plain_byte (eqb-true b 32 e))
    (or_cases (is_word_byte b) (eqb b 32) h)

no_comment : (b : ℕ) → IsLineByte b → not (is_comment_start b) ≡ true
no_comment b h =
    ⊎_elim
    (λ (e : is_word_byte b ≡ true). not_of (eqb b 59) (ne_eqb b 59 (other b e).no_semicolon))
    (λ (e : eqb b 32 ≡ true). ap (λ k. not (is_comment_start k)) (eqb-true b 32 e))
    (or_cases (is_word_byte b) (eqb b 32) h)

no_end : (b : ℕ) → IsLineByte b → not (is_line_end b) ≡ true
no_end b h =
    ⊎_elim
    (λ (e : is_word_byte b ≡ true). let o = other b e in not_of (eqb b 10) (ne_eqb b 10 (λ f. omega (arith, o.low))))
    (λ (e : eqb b 32 ≡ true). ap (λ k. not (is_line_end k)) (eqb-true b 32 e))
    (or_cases (is_word_byte b) (eqb b 32) h)

-- the line is one line
pub line_first : (w : List ℕ) (ws : List (List ℕ)) (rest : List ℕ) → IsWord w → AllByRecursion IsWord ws → lines_of (joined w ws ++ 10 ∷ rest) ≡ joined w ws ∷ lines_of rest
line_first w ws rest h g = pieces_word is_line_end (joined w ws) rest 10 (all_imp is_line_byte (λ b. not (is_line_end b)) no_end (joined w ws) (line_bytes w ws h g)) refl

-- a word is no label
no_label : (w : List ℕ) → IsWord w → label_in w ≡ None
no_label [] h = refl
no_label (x ∷ xs) h =
    let last : ℕ = length (x ∷ xs) - 1 in
    ap (λ b. cond b (Some (take last (x ∷ xs))) None) (ne_eqb (get_or (x ∷ xs) last 0) 58 (other (get_or (x ∷ xs) last 0) (all_at is_word_byte (x ∷ xs) last h.all (omega arith))).no_colon)

abbrev plain_parts : List ℕ → List (List ℕ) → Parts
plain_parts w ws = record { label = None; head = head_of w; operands = ws }

with_label_in : List ℕ → List (List ℕ) → Option (List ℕ) → Parts
with_label_in w ws o = record { label = o; head = first_of (cond (is_some o) ws (w ∷ ws)); operands = after_first_of (cond (is_some o) ws (w ∷ ws)) }

pub parts_joined : (w : List ℕ) (ws : List (List ℕ)) → IsWord w → AllByRecursion IsWord ws → parts_of (joined w ws) ≡ plain_parts w ws
unfolding with_label_in
parts_joined w ws h g =
    ap (λ l. parts_in (tokens_of l)) (before_whole is_comment_start (joined w ws) (all_imp is_line_byte (λ b. not (is_comment_start b)) no_comment (joined w ws) (line_bytes w ws h g)))
    ∙ ap parts_in (tokens_joined w ws h g) ∙ ap (with_label_in w ws) (no_label w h)

in_thread : (p : Progress) (n : ℕ) (w : List ℕ) (ws lines : List (List ℕ)) → (is_operation (head_of w) ≡ true → p.has_begun ≡ true) → take_parts p n (plain_parts w ws) lines ≡ take_item p n (head_of w) ws lines
in_thread p n w ws lines h = by (is_operation (head_of w)) p.has_begun h
  where
    by : (a b : Bool) → (a ≡ true → b ≡ true) → cond (a && not b) (Err kind.NoThread) (take_item p n (head_of w) ws lines) ≡ take_item p n (head_of w) ws lines
    by true true g = refl
    by true false g = absurd (let e = g refl in cc)
    by false b g = refl

-- the line is taken as its item
pub line_taken : (p : Progress) (n : ℕ) (w : List ℕ) (ws lines : List (List ℕ)) → IsWord w → AllByRecursion IsWord ws → (is_operation (head_of w) ≡ true → p.has_begun ≡ true)
    → take_line p n (joined w ws) lines ≡ take_item p n (head_of w) ws lines
line_taken p n w ws lines h g begun =
    ap (λ b. cond (not b) (Err kind.NotAscii) (take_parts p n (parts_of (joined w ws)) lines)) (all_imp is_line_byte is_plain_byte plain_byte (joined w ws) (line_bytes w ws h g))
    ∙ ap (λ t. take_parts p n t lines) (parts_joined w ws h g) ∙ in_thread p n w ws lines begun
