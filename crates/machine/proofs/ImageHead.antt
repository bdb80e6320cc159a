-- The numbers at the front of an image, and the first fault of its counts and lengths.
use Rattle.std.proofs.Common.{◌≡◌, ℕ, zero, suc, ◌+◌, ◌-◌, ◌*◌, ◌<◌, ◌≤◌, Bool, true, false, cond, eqb, List, [], ◌∷◌, ◌++◌, length, take, drop, sum, Option, Some, None, Result, Ok, Err, refl, sym, ap, ◌∙◌, arith, add-one, inl, inr}
use Rattle.std.specs.List.{list_all, starts_with}
use Rattle.std.specs.Int.{Width, w16, w32, byte_len, from_be_bytes}
use Rattle.std.proofs.lemmas.Bool.{lt-ltb, le-ltb, cases_lt}
use Rattle.std.proofs.lemmas.List.{drop-drop, take_rest}
use Rattle.light_base.specs.Numbers.{big_endian_at}
use Rattle.light_base.proofs.Numbers.{big_endian_at-within, big_endian_at-there}
use Rattle.machine.specs.Programs.{Instr}
use Rattle.machine.specs.Faults.{is_short_length, ImageFault, whole_fault, are_counts}
use Rattle.machine.specs.declared.image_fault.ImageKind.TheVariants as kind
use Rattle.machine.specs.Images.{magic}
use Rattle.machine.specs.Reading.{numbers_at, after}
use Rattle.machine.specs.ImageReading.{threads_in, words_in, lengths_in, words_place, image_len, counts_fault, lengths_fault, codes_place, codes_at, body_of, image_read}

-- ---- numbers in a row

last_number : (w : Width) (n at : ℕ) (bytes : List ℕ) → at ≡ n * byte_len w → numbers_at w (suc n) bytes ≡ numbers_at w n bytes ++ from_be_bytes w (take (byte_len w) (drop at bytes)) ∷ []
unfolding numbers_at
last_number w zero at bytes e =
    let z : at ≡ 0 = omega arith in rw z refl
last_number w (suc n) at bytes e =
    let k = byte_len w in
    let rest : at - k ≡ n * k = omega arith in
    let back : k + (at - k) ≡ at = omega arith in
    let same : drop (at - k) (drop k bytes) ≡ drop at bytes = drop-drop (at - k) k bytes ∙ ap (λ (m : ℕ). drop m bytes) back in
    ap (λ (xs : List ℕ). from_be_bytes w (take k bytes) ∷ xs) (last_number w n (at - k) (drop k bytes) rest ∙ ap (λ (xs : List ℕ). numbers_at w n (drop k bytes) ++ from_be_bytes w (take k xs) ∷ []) same)

-- one more number
numbers_more : (w : Width) (n at : ℕ) (bytes : List ℕ) (x : ℕ) → at ≡ n * byte_len w → big_endian_at w bytes at ≡ Some x → numbers_at w (n + 1) bytes ≡ numbers_at w n bytes ++ x ∷ []
numbers_more w n at bytes x place e =
    let found = big_endian_at-within w bytes at x e in
    let len : at + byte_len w - at ≡ byte_len w = omega arith in
    let value : from_be_bytes w (take (byte_len w) (drop at bytes)) ≡ x = ap (λ (m : ℕ). from_be_bytes w (take m (drop at bytes))) (sym len) ∙ found.1 in
    ap (λ (m : ℕ). numbers_at w m bytes) (add-one n) ∙ last_number w n at bytes place ∙ ap (λ (y : ℕ). numbers_at w n bytes ++ y ∷ []) value

-- the same, as a loop pushes it
pub numbers_push : (w : Width) (n at : ℕ) (bytes front longer : List ℕ) (x : ℕ) → at ≡ n * byte_len w → big_endian_at w bytes at ≡ Some x → front ≡ numbers_at w n bytes → longer ≡ front ++ x ∷ [] → longer ≡ numbers_at w (n + 1) bytes
numbers_push w n at bytes front longer x place e so_far pushed =
    pushed ∙ ap (λ (xs : List ℕ). xs ++ x ∷ []) so_far ∙ sym (numbers_more w n at bytes x place e)

-- ---- the counts

pub counts_short : (bytes : List ℕ) → length bytes < 7 → counts_fault bytes ≡ Some kind.Short
unfolding counts_fault
counts_short bytes h = rw (lt-ltb (length bytes) 7 h) refl

pub counts_magic : (bytes : List ℕ) → 7 ≤ length bytes → starts_with eqb bytes magic ≡ false → counts_fault bytes ≡ Some kind.Magic
unfolding counts_fault
counts_magic bytes h starts = rw (le-ltb (length bytes) 7 h, starts) refl

pub counts_counts : (bytes : List ℕ) → 7 ≤ length bytes → starts_with eqb bytes magic ≡ true → are_counts (threads_in bytes) (words_in bytes) ≡ false → counts_fault bytes ≡ Some kind.Counts
unfolding counts_fault
counts_counts bytes h starts counts = rw (le-ltb (length bytes) 7 h, starts, counts) refl

pub counts_none : (bytes : List ℕ) → 7 ≤ length bytes → starts_with eqb bytes magic ≡ true → are_counts (threads_in bytes) (words_in bytes) ≡ true → counts_fault bytes ≡ None
unfolding counts_fault
counts_none bytes h starts counts = rw (le-ltb (length bytes) 7 h, starts, counts) refl

pub words_in_is : (bytes : List ℕ) (n : ℕ) → big_endian_at w16 bytes 5 ≡ Some n → (7 ≤ length bytes) × (words_in bytes ≡ n)
unfolding words_in
words_in_is bytes n e = big_endian_at-within w16 bytes 5 n e

pub words_there : (bytes : List ℕ) → big_endian_at w16 bytes 5 ≡ None → length bytes < 7
words_there bytes e =
    elim (cases_lt (length bytes) 7) [
      | inl lt ↦ lt
      | inr le ↦ absurd cc (big_endian_at-there w16 bytes 5 le, e)
    ]

-- ---- the lengths of the codes

pub lengths_short : (bytes : List ℕ) → length bytes < words_place bytes → lengths_fault bytes ≡ Some kind.Short
unfolding lengths_fault
lengths_short bytes h = rw (lt-ltb (length bytes) (words_place bytes) h) refl

pub lengths_counts : (bytes : List ℕ) → words_place bytes ≤ length bytes → list_all is_short_length (lengths_in bytes) ≡ false → lengths_fault bytes ≡ Some kind.Counts
unfolding lengths_fault
lengths_counts bytes h all = rw (le-ltb (length bytes) (words_place bytes) h, all) refl

pub lengths_cut : (bytes : List ℕ) → words_place bytes ≤ length bytes → list_all is_short_length (lengths_in bytes) ≡ true → length bytes < image_len bytes → lengths_fault bytes ≡ Some kind.Short
unfolding lengths_fault
lengths_cut bytes h all cut = rw (le-ltb (length bytes) (words_place bytes) h, all, lt-ltb (length bytes) (image_len bytes) cut) refl

pub lengths_none : (bytes : List ℕ) → words_place bytes ≤ length bytes → list_all is_short_length (lengths_in bytes) ≡ true → image_len bytes ≤ length bytes → lengths_fault bytes ≡ None
unfolding lengths_fault
lengths_none bytes h all there = rw (le-ltb (length bytes) (words_place bytes) h, all, le-ltb (length bytes) (image_len bytes) there) refl

-- ---- the image

-- a head whose counts are in range
pub record IsHead (bytes : List ℕ) (threads words : ℕ) : Type 0 where
  pub fault : counts_fault bytes ≡ None
  pub threads_are : threads_in bytes ≡ threads
  pub words_are : words_in bytes ≡ words

abbrev none : Option ℕ
none = None

abbrev some : ℕ → Option ℕ
some n = Some n

abbrev counts_in : List ℕ → ℕ × ℕ
counts_in bytes = (threads_in bytes, words_in bytes)

abbrev counted : ℕ → ℕ → Result (ℕ × ℕ) ImageFault
counted threads words = Ok (threads, words)

abbrev refused : {A : Type 0} → ImageFault → Result A ImageFault
refused e = Err e

pub after_err : {A B K E : Type 0} (tell : K → E) (f : Option K) (x : A) (r : Result B E) (e : E) → Err e ≡ after tell f (Ok x) → after tell f r ≡ Err e
after_err tell None x r e h = absurd cc
after_err tell (Some k) x r e h = cc

pub after_ok : {A K E : Type 0} (tell : K → E) (f : Option K) (r : Result A E) (x : A) → after tell f r ≡ Ok x → (f ≡ None) × (r ≡ Ok x)
after_ok tell None r x e = (refl, e)
after_ok tell (Some k) r x e = absurd cc

pub counts_refused : (bytes : List ℕ) (e : ImageFault) → refused e ≡ after whole_fault (counts_fault bytes) (Ok (counts_in bytes)) → image_read bytes ≡ Err e
unfolding image_read
counts_refused bytes e h = after_err whole_fault (counts_fault bytes) (counts_in bytes) (after whole_fault (lengths_fault bytes) (body_of bytes)) e h

pub head_is : (bytes : List ℕ) (threads words : ℕ) → counted threads words ≡ after whole_fault (counts_fault bytes) (Ok (counts_in bytes)) → IsHead bytes threads words
head_is bytes threads words h =
    let both = after_ok whole_fault (counts_fault bytes) (Ok (counts_in bytes)) (threads, words) (sym h) in
    let same : counts_in bytes ≡ (threads, words) = cc both.1 in
    record { fault = both.0; threads_are = ap (λ (p : ℕ × ℕ). p.0) same; words_are = ap (λ (p : ℕ × ℕ). p.1) same }

pub lengths_in_are : (bytes : List ℕ) (threads : ℕ) (lens : List ℕ) → threads_in bytes ≡ threads → lens ≡ numbers_at w16 threads (drop 7 bytes) → lens ≡ lengths_in bytes
unfolding lengths_in
lengths_in_are bytes threads lens same e = e ∙ ap (λ (n : ℕ). numbers_at w16 n (drop 7 bytes)) (sym same)

pub image_short : (bytes : List ℕ) (threads words : ℕ) → IsHead bytes threads words → length bytes < 7 + 2 * threads → image_read bytes ≡ Err (whole_fault kind.Short)
unfolding image_read
image_short bytes threads words head h = rw (head.fault, lengths_short bytes (omega (arith, head.threads_are))) refl

-- a head whose lengths are there
pub record HasLengths (bytes : List ℕ) (threads words : ℕ) (lens : List ℕ) : Type 0 where
  pub head : IsHead bytes threads words
  pub there : 7 + 2 * threads ≤ length bytes
  pub lengths_are : lens ≡ lengths_in bytes

pub image_counts : (bytes : List ℕ) (threads words : ℕ) (lens : List ℕ) → HasLengths bytes threads words lens → list_all is_short_length lens ≡ false → image_read bytes ≡ Err (whole_fault kind.Counts)
unfolding image_read
image_counts bytes threads words lens has e =
    let long : list_all is_short_length (lengths_in bytes) ≡ false = rw (← has.lengths_are) e in
    rw (has.head.fault, lengths_counts bytes (omega (arith, has.head.threads_are, has.there)) long) refl

pub image_cut : (bytes : List ℕ) (threads words : ℕ) (lens : List ℕ) → HasLengths bytes threads words lens → list_all is_short_length lens ≡ true → length bytes < 7 + 2 * threads + 4 * words + 8 * sum lens → image_read bytes ≡ Err (whole_fault kind.Short)
unfolding image_read
image_cut bytes threads words lens has e cut =
    let short : list_all is_short_length (lengths_in bytes) ≡ true = rw (← has.lengths_are) e in
    let total : sum lens ≡ sum (lengths_in bytes) = ap sum has.lengths_are in
    rw (has.head.fault, lengths_cut bytes (omega (arith, has.head.threads_are, has.there)) short (omega (arith, has.head.threads_are, has.head.words_are, total, cut))) refl

pub has_lengths : (bytes : List ℕ) (threads words : ℕ) (lens : List ℕ) → counted threads words ≡ after whole_fault (counts_fault bytes) (Ok (counts_in bytes)) → 7 + 2 * threads ≤ length bytes → lens ≡ numbers_at w16 threads (take (length bytes - 7) (drop 7 bytes))
    → HasLengths bytes threads words lens
has_lengths bytes threads words lens counts there read =
    let head = head_is bytes threads words counts in
    record { head = head; there = there; lengths_are = lengths_in_are bytes threads lens head.threads_are (read ∙ ap (numbers_at w16 threads) (take_rest bytes 7)) }

-- what the total of the lengths says
pub total_none : (b : Bool) (n : ℕ) → none ≡ cond b (Some n) None → b ≡ false
total_none true n e = absurd cc
total_none false n e = refl

pub total_some : (b : Bool) (n total : ℕ) → b ≡ true → some total ≡ cond b (Some n) None → total ≡ n
total_some true n total is e = cc
total_some false n total is e = absurd cc

-- a head whose words and codes are there
pub record HasCodes (bytes : List ℕ) (threads words : ℕ) (lens : List ℕ) : Type 0 where
  pub lengths : HasLengths bytes threads words lens
  pub short : list_all is_short_length lens ≡ true
  pub codes_there : 7 + 2 * threads + 4 * words + 8 * sum lens ≤ length bytes

body_read : (bytes : List ℕ) (threads words : ℕ) (lens : List ℕ) → HasCodes bytes threads words lens → image_read bytes ≡ body_of bytes
unfolding image_read
body_read bytes threads words lens has =
    let short : list_all is_short_length (lengths_in bytes) ≡ true = rw (← has.lengths.lengths_are) has.short in
    let total : sum lens ≡ sum (lengths_in bytes) = ap sum has.lengths.lengths_are in
    rw (has.lengths.head.fault, lengths_none bytes (omega (arith, has.lengths.head.threads_are, has.lengths.there)) short (omega (arith, has.lengths.head.threads_are, has.lengths.head.words_are, total, has.codes_there))) refl

codes_read : (bytes : List ℕ) (threads words : ℕ) (lens : List ℕ) (r : Result (List (List Instr)) ImageFault) → HasCodes bytes threads words lens → codes_at 0 lens (drop (7 + 2 * threads + 4 * words) bytes) ≡ r
    → codes_at 0 (lengths_in bytes) (drop (codes_place bytes) bytes) ≡ r
codes_read bytes threads words lens r has e =
    let place : codes_place bytes ≡ 7 + 2 * threads + 4 * words = omega (arith, has.lengths.head.threads_are, has.lengths.head.words_are) in
    ap (λ (ls : List ℕ). codes_at 0 ls (drop (codes_place bytes) bytes)) (sym has.lengths.lengths_are) ∙ ap (λ (k : ℕ). codes_at 0 lens (drop k bytes)) place ∙ e

pub image_fault : (bytes : List ℕ) (threads words : ℕ) (lens : List ℕ) (f : ImageFault) → HasCodes bytes threads words lens → codes_at 0 lens (drop (7 + 2 * threads + 4 * words) bytes) ≡ Err f → image_read bytes ≡ Err f
unfolding body_of
image_fault bytes threads words lens f has e = body_read bytes threads words lens has ∙ rw (codes_read bytes threads words lens (Err f) has e) refl

pub image_long : (bytes : List ℕ) (threads words : ℕ) (lens : List ℕ) (codes : List (List Instr)) → HasCodes bytes threads words lens → codes_at 0 lens (drop (7 + 2 * threads + 4 * words) bytes) ≡ Ok codes
    → 7 + 2 * threads + 4 * words + 8 * sum lens < length bytes → image_read bytes ≡ Err (whole_fault kind.Long)
unfolding body_of
image_long bytes threads words lens codes has e long =
    let total : sum lens ≡ sum (lengths_in bytes) = ap sum has.lengths.lengths_are in
    let more = lt-ltb (image_len bytes) (length bytes) (omega (arith, has.lengths.head.threads_are, has.lengths.head.words_are, total, long)) in
    body_read bytes threads words lens has ∙ rw (codes_read bytes threads words lens (Ok codes) has e, more) refl

pub image_is : (bytes : List ℕ) (threads words : ℕ) (lens : List ℕ) (codes : List (List Instr)) (values : List ℕ) → HasCodes bytes threads words lens → codes_at 0 lens (drop (7 + 2 * threads + 4 * words) bytes) ≡ Ok codes
    → length bytes ≤ 7 + 2 * threads + 4 * words + 8 * sum lens → values ≡ numbers_at w32 words (drop (7 + 2 * threads) bytes) → image_read bytes ≡ Ok (record { words = values; threads = codes })
unfolding body_of
image_is bytes threads words lens codes values has e most read =
    let total : sum lens ≡ sum (lengths_in bytes) = ap sum has.lengths.lengths_are in
    let no_more = le-ltb (image_len bytes) (length bytes) (omega (arith, has.lengths.head.threads_are, has.lengths.head.words_are, total, most)) in
    let place : 7 + 2 * threads ≡ words_place bytes = omega (arith, has.lengths.head.threads_are) in
    let same : numbers_at w32 (words_in bytes) (drop (words_place bytes) bytes) ≡ values = ap (λ (n : ℕ). numbers_at w32 n (drop (words_place bytes) bytes)) has.lengths.head.words_are ∙ ap (λ (k : ℕ). numbers_at w32 words (drop k bytes)) (sym place) ∙ sym read in
    body_read bytes threads words lens has ∙ rw (codes_read bytes threads words lens (Ok codes) has e, no_more) (ap (λ (ws : List ℕ). Ok (record { words = ws; threads = codes })) same)
