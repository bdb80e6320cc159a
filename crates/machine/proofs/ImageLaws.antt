-- The two laws of images: what is read is spelled so, and the image of a program is read.
use Rattle.std.proofs.Common.{◌≡◌, ◌≢◌, ◌⊎◌, ℕ, ◌+◌, ◌*◌, ◌^◌, ◌<◌, ◌≤◌, Bool, true, false, cond, ltb, eqb, not, List, [], ◌∷◌, ◌++◌, length, take, drop, get_or, sum, map, All, Option, Some, None, Result, Ok, Err, refl, sym, ap, subst, ◌∙◌, arith, inl, inr}
use Rattle.std.specs.Prelude.{IfErr, MatchResult}
use Rattle.std.specs.List.{flat_map, AllByRecursion, list_all, starts_with}
use Rattle.std.specs.Int.{w16, w32, from_be_bytes, to_be_bytes}
use Rattle.std.proofs.lemmas.Bool.{cases_eq, ltb-false, not-false, and_parts, and_from}
use Rattle.std.proofs.lemmas.Slice.Eq.{bytes_eq-Decides}
use Rattle.std.proofs.lemmas.List.{append-nil, drop_at, take-append-drop, length-append, length-drop, length-map, drop-drop, drop_more, drop_all}
use Rattle.std.proofs.lemmas.List.Elements.{All-from_recursion, recursion_from_All}
use Rattle.std.proofs.lemmas.List.Folds.{list_all-map}
use Rattle.std.proofs.lemmas.Nat.{from_be_bytes-to_be_bytes_2}
use Rattle.light_base.specs.Numbers.{IsBytes}
use Rattle.machine.specs.Programs.{Instr, ProgramValue, IsProgram}
use Rattle.machine.specs.Faults.{is_short_length, ImageFault, ImageKind, whole_fault, are_counts, is_count, is_short_code}
use Rattle.machine.specs.declared.image_fault.ImageKind.TheVariants as kind
use Rattle.machine.specs.Images.{magic, code_image, length_image, counts_image, image_of, HasNumbers, IsImage}
use Rattle.machine.specs.Reading.{numbers_at, after}
use Rattle.machine.specs.ImageReading.{Gives, out_of_memory, codes_at, threads_in, words_in, lengths_in, words_place, codes_place, image_len, counts_fault, lengths_fault, body_of, image_read}
use Rattle.machine.proofs.Rules.{count_holds, is_count_from, codes_are, codes_rules, codes_short}
use Rattle.machine.proofs.ImageNumbers.{IsBytes-drop, wide16, wide32, front_number, TakesNumbers, numbers_take, numbers_again}
use Rattle.machine.proofs.ImageInstrs.{bind_ok, ok_is, FitsImm, TakesCodes, codes_take, codes_again, length-codes_image}
use Rattle.machine.proofs.ImageHead.{after_ok, HasLengths, HasCodes, IsHead, counts_none, lengths_in_are, image_is}

-- ---- lengths

lengths_spelled : (codes : List (List Instr)) → flat_map length_image codes ≡ flat_map (to_be_bytes w16) (map length codes)
lengths_spelled [] = refl
lengths_spelled (code ∷ codes) = ap (λ (xs : List ℕ). to_be_bytes w16 (length code) ++ xs) (lengths_spelled codes)

pub length-lengths_image : (codes : List (List Instr)) → length (flat_map length_image codes) ≡ 2 * length codes
length-lengths_image [] = refl
length-lengths_image (code ∷ codes) = omega (arith, length-append (length_image code) (flat_map length_image codes), length-lengths_image codes)

pub length-words_image : (words : List ℕ) → length (flat_map (to_be_bytes w32) words) ≡ 4 * length words
length-words_image [] = refl
length-words_image (word ∷ words) = omega (arith, length-append (to_be_bytes w32 word) (flat_map (to_be_bytes w32) words), length-words_image words)

lengths_are_small : (codes : List (List Instr)) → list_all is_short_length (map length codes) ≡ list_all is_short_code codes
lengths_are_small codes = list_all-map is_short_length length codes

short_lengths_fit : (codes : List (List Instr)) → AllByRecursion (λ code. length code ≤ 4096) codes → AllByRecursion (λ n. n < 2 ^ 16) (map length codes)
short_lengths_fit [] short = tt
short_lengths_fit (code ∷ codes) short = (omega (arith, short.0), short_lengths_fit codes short.1)

-- ---- what is read is spelled so

pub guarded : {K : Type 0} (b : Bool) (k : K) (more : Option K) → cond b (Some k) more ≡ None → (b ≡ false) × (more ≡ None)
guarded true k more e = absurd cc
guarded false k more e = (refl, e)

-- the head of an image that has no fault there
record SoundHead (bytes : List ℕ) : Type 0 where
  pub seven : 7 ≤ length bytes
  pub begins : take 4 bytes ≡ magic
  pub counts : are_counts (threads_in bytes) (words_in bytes) ≡ true

head_sound : (bytes : List ℕ) → counts_fault bytes ≡ None → SoundHead bytes
unfolding counts_fault
head_sound bytes e =
    let a = guarded (ltb (length bytes) 7) kind.Short _ e in
    let b = guarded (not (starts_with eqb bytes magic)) kind.Magic _ a.1 in
    let c = guarded (not (are_counts (threads_in bytes) (words_in bytes))) kind.Counts _ b.1 in
    record {
      seven = ltb-false (length bytes) 7 a.0;
      begins = sym ((bytes_eq-Decides magic (take 4 bytes)).0 (not-false _ b.0));
      counts = not-false _ c.0;
    }

record SoundLengths (bytes : List ℕ) : Type 0 where
  pub there : words_place bytes ≤ length bytes
  pub short : list_all is_short_length (lengths_in bytes) ≡ true
  pub all_there : image_len bytes ≤ length bytes

lengths_sound : (bytes : List ℕ) → lengths_fault bytes ≡ None → SoundLengths bytes
unfolding lengths_fault
lengths_sound bytes e =
    let a = guarded (ltb (length bytes) (words_place bytes)) kind.Short _ e in
    let b = guarded (not (list_all is_short_length (lengths_in bytes))) kind.Counts _ a.1 in
    let c = guarded (ltb (length bytes) (image_len bytes)) kind.Short _ b.1 in
    record { there = ltb-false (length bytes) (words_place bytes) a.0; short = not-false _ b.0; all_there = ltb-false (length bytes) (image_len bytes) c.0 }

not_long : (b : Bool) (x p : ProgramValue) → cond b (Err (whole_fault kind.Long)) (Ok x) ≡ Ok p → (b ≡ false) × (x ≡ p)
not_long true x p e = absurd cc
not_long false x p e = (refl, cc)

body_ok : (bytes : List ℕ) (p : ProgramValue) → body_of bytes ≡ Ok p
    → (codes : List (List Instr)) × (codes_at 0 (lengths_in bytes) (drop (codes_place bytes) bytes) ≡ Ok codes) × (length bytes ≤ image_len bytes) × (p ≡ record { words = numbers_at w32 (words_in bytes) (drop (words_place bytes) bytes); threads = codes })
unfolding body_of
body_ok bytes p e =
    let a = bind_ok (codes_at 0 (lengths_in bytes) (drop (codes_place bytes) bytes)) (λ threads. cond (ltb (image_len bytes) (length bytes)) (Err (whole_fault kind.Long)) (Ok (record { words = numbers_at w32 (words_in bytes) (drop (words_place bytes) bytes); threads = threads }))) p e in
    let b = not_long (ltb (image_len bytes) (length bytes)) (record { words = numbers_at w32 (words_in bytes) (drop (words_place bytes) bytes); threads = a.0 }) p a.2 in
    (a.0, a.1, ltb-false (image_len bytes) (length bytes) b.0, sym b.1)

lengths_take : (bytes : List ℕ) → IsBytes bytes → 7 + 2 * threads_in bytes ≤ length bytes
    → (drop 7 bytes ≡ flat_map (to_be_bytes w16) (lengths_in bytes) ++ drop (words_place bytes) bytes) × (length (lengths_in bytes) ≡ threads_in bytes)
unfolding lengths_in
lengths_take bytes fits long =
    let t = threads_in bytes in
    let takes = numbers_take w16 (2 ^ 16) wide16 t (drop 7 bytes) (IsBytes-drop 7 bytes fits) (omega (arith, length-drop 7 bytes)) in
    let place : 7 + t * 2 ≡ 7 + 2 * t = omega arith in
    let rest : drop (t * 2) (drop 7 bytes) ≡ drop (7 + 2 * t) bytes = drop-drop (t * 2) 7 bytes ∙ ap (λ (k : ℕ). drop k bytes) place in
    (takes.parts ∙ ap (λ (xs : List ℕ). flat_map (to_be_bytes w16) (numbers_at w16 t (drop 7 bytes)) ++ xs) rest, takes.len)

words_take : (bytes : List ℕ) → IsBytes bytes → codes_place bytes ≤ length bytes
    → (drop (words_place bytes) bytes ≡ flat_map (to_be_bytes w32) (numbers_at w32 (words_in bytes) (drop (words_place bytes) bytes)) ++ drop (codes_place bytes) bytes)
    × TakesNumbers w32 (2 ^ 32) (words_in bytes) (drop (words_place bytes) bytes)
words_take bytes fits long =
    let w = words_in bytes in
    let at = words_place bytes in
    let takes = numbers_take w32 (2 ^ 32) wide32 w (drop at bytes) (IsBytes-drop at bytes fits) (omega (arith, length-drop at bytes)) in
    let place : at + w * 4 ≡ codes_place bytes = omega arith in
    let rest : drop (w * 4) (drop at bytes) ≡ drop (codes_place bytes) bytes = drop-drop (w * 4) at bytes ∙ ap (λ (k : ℕ). drop k bytes) place in
    (takes.parts ∙ ap (λ (xs : List ℕ). flat_map (to_be_bytes w32) (numbers_at w32 w (drop at bytes)) ++ xs) rest, takes)

counts_take : (bytes : List ℕ) → IsBytes bytes → SoundHead bytes → bytes ≡ magic ++ (threads_in bytes ∷ (to_be_bytes w16 (words_in bytes) ++ drop 7 bytes))
unfolding words_in
counts_take bytes fits head =
    let five : drop 4 bytes ≡ threads_in bytes ∷ drop 5 bytes = drop_more bytes 4 0 (omega (arith, head.seven)) in
    let two : drop 5 bytes ≡ to_be_bytes w16 (from_be_bytes w16 (take 2 (drop 5 bytes))) ++ drop 2 (drop 5 bytes) = front_number w16 (2 ^ 16) wide16 (drop 5 bytes) (IsBytes-drop 5 bytes fits) (omega (arith, length-drop 5 bytes, head.seven)) in
    let rest : drop 2 (drop 5 bytes) ≡ drop 7 bytes = drop-drop 2 5 bytes in
    sym (take-append-drop 4 bytes) ∙ ap (λ (xs : List ℕ). xs ++ drop 4 bytes) head.begins
    ∙ ap (λ (xs : List ℕ). magic ++ xs) (five ∙ ap (λ (xs : List ℕ). threads_in bytes ∷ xs) (two ∙ ap (λ (xs : List ℕ). to_be_bytes w16 (from_be_bytes w16 (take 2 (drop 5 bytes))) ++ xs) rest))

imms_fit : (codes : List (List Instr)) → AllByRecursion (AllByRecursion FitsImm) codes → All (All FitsImm) codes
imms_fit codes fit = λ k d lt. All-from_recursion FitsImm (get_or codes k d) (All-from_recursion (AllByRecursion FitsImm) codes fit k d lt)

imms_fit_each : (codes : List (List Instr)) → All (All FitsImm) codes → AllByRecursion (AllByRecursion FitsImm) codes
imms_fit_each codes fit = recursion_from_All (AllByRecursion FitsImm) codes (λ k d lt. recursion_from_All FitsImm (get_or codes k d) (fit k d lt))

-- the parts of the bytes behind the counts, put together
tail_spelled : (bytes : List ℕ) (codes : List (List Instr)) (words : List ℕ) → drop 7 bytes ≡ flat_map (to_be_bytes w16) (lengths_in bytes) ++ drop (words_place bytes) bytes
    → map length codes ≡ lengths_in bytes → drop (words_place bytes) bytes ≡ flat_map (to_be_bytes w32) words ++ drop (codes_place bytes) bytes → drop (codes_place bytes) bytes ≡ flat_map code_image codes
    → drop 7 bytes ≡ flat_map length_image codes ++ (flat_map (to_be_bytes w32) words ++ flat_map code_image codes)
tail_spelled bytes codes words lengths counts values rest =
    let lens : flat_map (to_be_bytes w16) (lengths_in bytes) ≡ flat_map length_image codes = ap (flat_map (to_be_bytes w16)) (sym counts) ∙ sym (lengths_spelled codes) in
    lengths ∙ ap (λ (xs : List ℕ). xs ++ drop (words_place bytes) bytes) lens ∙ ap (λ (xs : List ℕ). flat_map length_image codes ++ xs) (values ∙ ap (λ (xs : List ℕ). flat_map (to_be_bytes w32) words ++ xs) rest)

program_read : (bytes : List ℕ) (codes : List (List Instr)) → SoundHead bytes → SoundLengths bytes → TakesCodes (lengths_in bytes) (drop (codes_place bytes) bytes) codes
    → length codes ≡ threads_in bytes → TakesNumbers w32 (2 ^ 32) (words_in bytes) (drop (words_place bytes) bytes) → IsProgram (record { words = numbers_at w32 (words_in bytes) (drop (words_place bytes) bytes); threads = codes })
program_read bytes codes head lengths takes count words =
    let both = and_parts (is_count 15 (threads_in bytes)) (is_count 4096 (words_in bytes)) head.counts in
    let t = count_holds 15 (threads_in bytes) both.0 in
    let w = count_holds 4096 (words_in bytes) both.1 in
    let short : list_all is_short_code codes ≡ true = sym (lengths_are_small codes) ∙ ap (list_all is_short_length) takes.counts ∙ lengths.short in
    record {
      some_words = omega (arith, w.0, words.len);
      most_words = omega (arith, w.1, words.len);
      some_threads = omega (arith, t.0, count);
      most_threads = omega (arith, t.1, count);
      each = codes_are codes short takes.rules;
    }

pub image_takes : (bytes : List ℕ) (p : ProgramValue) → IsBytes bytes → image_read bytes ≡ Ok p → IsImage bytes p
unfolding image_read
image_takes bytes p fits e =
    let a = after_ok whole_fault (counts_fault bytes) (after whole_fault (lengths_fault bytes) (body_of bytes)) p e in
    let b = after_ok whole_fault (lengths_fault bytes) (body_of bytes) p a.1 in
    let body = body_ok bytes p b.1 in
    let codes = body.0 in
    let head = head_sound bytes a.0 in
    let lengths = lengths_sound bytes b.0 in
    let lens = lengths_take bytes fits lengths.there in
    let words = words_take bytes fits (omega (arith, lengths.all_there)) in
    let at = codes_place bytes in
    let takes = codes_take 0 (lengths_in bytes) (drop at bytes) codes (IsBytes-drop at bytes fits) (omega (arith, length-drop at bytes, lengths.all_there)) body.1 in
    let values = numbers_at w32 (words_in bytes) (drop (words_place bytes) bytes) in
    let none_left : drop (8 * sum (lengths_in bytes)) (drop at bytes) ≡ [] = drop_all (8 * sum (lengths_in bytes)) (drop at bytes) (omega (arith, length-drop at bytes, body.2)) in
    let rest : drop at bytes ≡ flat_map code_image codes = takes.parts ∙ ap (λ (xs : List ℕ). flat_map code_image codes ++ xs) none_left ∙ append-nil (flat_map code_image codes) in
    let count : length codes ≡ threads_in bytes = sym (length-map codes (length {A = Instr})) ∙ ap length takes.counts ∙ lens.1 in
    let tail = tail_spelled bytes codes values lens.0 takes.counts words.0 rest in
    let whole : bytes ≡ image_of (record { words = values; threads = codes }) =
    counts_take bytes fits head ∙ ap (λ (t : ℕ). magic ++ (t ∷ (to_be_bytes w16 (words_in bytes) ++ drop 7 bytes))) (sym count)
    ∙ ap (λ (w : ℕ). magic ++ (length codes ∷ (to_be_bytes w16 w ++ drop 7 bytes))) (sym words.1.len) ∙ ap (λ (xs : List ℕ). magic ++ (length codes ∷ (to_be_bytes w16 (length values) ++ xs))) tail in
    let P : ProgramValue → Type 0 = λ q. IsImage bytes q in
    subst P (sym body.3) (record { rules = program_read bytes codes head lengths takes count words.1; numbers = record { words = All-from_recursion (λ w. w < 2 ^ 32) values words.1.below; imms = imms_fit codes takes.imms }; spelled = whole })

-- ---- the image of a program is read

words_in_again : (p : ProgramValue) → length p.words ≤ 4096 → words_in (image_of p) ≡ length p.words
unfolding words_in
words_in_again p most = from_be_bytes-to_be_bytes_2 (length p.words) (omega (arith, most))

-- the lengths, the words and the codes of an image
abbrev codes_part : ProgramValue → List ℕ
codes_part p = flat_map code_image p.threads

abbrev words_part : ProgramValue → List ℕ
words_part p = flat_map (to_be_bytes w32) p.words ++ codes_part p

abbrev lengths_part : ProgramValue → List ℕ
lengths_part p = flat_map length_image p.threads ++ words_part p

from_seven : (p : ProgramValue) → drop 7 (image_of p) ≡ lengths_part p
from_seven p = refl

from_words : (p : ProgramValue) → drop (7 + 2 * length p.threads) (image_of p) ≡ words_part p
from_words p =
    sym (drop-drop (2 * length p.threads) 7 (image_of p)) ∙ ap (drop (2 * length p.threads)) (from_seven p) ∙ drop_at (flat_map length_image p.threads) (words_part p) (2 * length p.threads) (length-lengths_image p.threads)

from_codes : (p : ProgramValue) → drop (7 + 2 * length p.threads + 4 * length p.words) (image_of p) ≡ codes_part p
from_codes p =
    let at = 7 + 2 * length p.threads in
    sym (drop-drop (4 * length p.words) at (image_of p)) ∙ ap (drop (4 * length p.words)) (from_words p) ∙ drop_at (flat_map (to_be_bytes w32) p.words) (codes_part p) (4 * length p.words) (length-words_image p.words)

length-image_of : (p : ProgramValue) → length (image_of p) ≡ 7 + 2 * length p.threads + 4 * length p.words + 8 * sum (map length p.threads)
length-image_of p =
    let four : length magic ≡ 4 = refl in
    let three : length (counts_image p) ≡ 3 = refl in
    omega (
      arith,
      four,
      three,
      length-append magic (counts_image p ++ lengths_part p),
      length-append (counts_image p) (lengths_part p),
      length-append (flat_map length_image p.threads) (words_part p),
      length-append (flat_map (to_be_bytes w32) p.words) (codes_part p),
      length-lengths_image p.threads,
      length-words_image p.words,
      length-codes_image p.threads,
    )

head_again : (p : ProgramValue) → IsProgram p → IsHead (image_of p) (length p.threads) (length p.words)
head_again p rules =
    let words = words_in_again p rules.most_words in
    let counts : are_counts (length p.threads) (words_in (image_of p)) ≡ true = rw words (and_from (is_count 15 (length p.threads)) (is_count 4096 (length p.words)) (is_count_from 15 (length p.threads) rules.some_threads rules.most_threads) (is_count_from 4096 (length p.words) rules.some_words rules.most_words)) in
    record { fault = counts_none (image_of p) (omega (arith, length-image_of p)) refl counts; threads_are = refl; words_are = words }

lengths_again : (p : ProgramValue) → IsProgram p → map length p.threads ≡ numbers_at w16 (length p.threads) (drop 7 (image_of p))
lengths_again p rules =
    let short = short_lengths_fit p.threads (recursion_from_All (λ (code : List Instr). length code ≤ 4096) p.threads (λ k d lt. (rules.each k d lt).short)) in
    let spelled : drop 7 (image_of p) ≡ flat_map (to_be_bytes w16) (map length p.threads) ++ words_part p = from_seven p ∙ ap (λ (xs : List ℕ). xs ++ words_part p) (lengths_spelled p.threads) in
    sym (ap (numbers_at w16 (length p.threads)) spelled ∙ ap (λ (n : ℕ). numbers_at w16 n (flat_map (to_be_bytes w16) (map length p.threads) ++ words_part p)) (sym (length-map p.threads (length {A = Instr}))) ∙ numbers_again w16 (2 ^ 16) wide16 (map length p.threads) (words_part p) short)

pub image_again : (p : ProgramValue) → IsProgram p → HasNumbers p → image_read (image_of p) ≡ Ok p
image_again p rules numbers =
    let bytes = image_of p in
    let t = length p.threads in
    let w = length p.words in
    let lens = map length p.threads in
    let head = head_again p rules in
    let total = length-image_of p in
    let lengths : HasLengths bytes t w lens = record { head = head; there = omega (arith, total); lengths_are = lengths_in_are bytes t lens head.threads_are (lengths_again p rules) } in
    let short : list_all is_short_length lens ≡ true = lengths_are_small p.threads ∙ codes_short p.threads rules.each in
    let has : HasCodes bytes t w lens = record { lengths = lengths; short = short; codes_there = omega (arith, total) } in
    let codes : codes_at 0 lens (drop (7 + 2 * t + 4 * w) bytes) ≡ Ok p.threads =
    ap (codes_at 0 lens) (from_codes p ∙ sym (append-nil (codes_part p))) ∙ codes_again 0 p.threads [] (codes_rules p.threads rules.each) (imms_fit_each p.threads numbers.imms) in
    let values : p.words ≡ numbers_at w32 w (drop (7 + 2 * t) bytes) =
    sym (ap (numbers_at w32 w) (from_words p) ∙ numbers_again w32 (2 ^ 32) wide32 p.words (codes_part p) (recursion_from_All (λ n. n < 2 ^ 32) p.words numbers.words)) in
    image_is bytes t w lens p.threads p.words has codes (omega (arith, total)) values

-- two programs with the same image are equal
pub image_of_injective : (p q : ProgramValue) → IsProgram p → HasNumbers p → IsProgram q → HasNumbers q → image_of p ≡ image_of q → p ≡ q
image_of_injective p q p_rules p_numbers q_rules q_numbers e = ok_is p q (sym (image_again p p_rules p_numbers) ∙ ap image_read e ∙ image_again q q_rules q_numbers)

-- ---- what the reader answers

abbrev at_place : ℕ → ℕ → ImageFault
at_place thread at = record { kind = kind.Memory; thread = thread; at = at }

abbrev failed : ImageFault → Result ProgramValue ImageFault
failed e = Err e

never_both : (e : ImageFault) (p : ProgramValue) → failed e ≡ Ok p → ⊥
never_both e p h = cc

abbrev fault_of : ImageKind → ℕ → ℕ → ImageFault
fault_of k thread at = record { kind = k; thread = thread; at = at }

memory_or : (k : ImageKind) (thread at : ℕ) → (fault_of k thread at ≡ out_of_memory) ⊎ (fault_of k thread at ≢ out_of_memory)
memory_or kind.Short thread at = inr (λ h. let e : kind.Short ≡ kind.Memory = ap (λ (f : ImageFault). f.kind) h in cc)
memory_or kind.Magic thread at = inr (λ h. let e : kind.Magic ≡ kind.Memory = ap (λ (f : ImageFault). f.kind) h in cc)
memory_or kind.Counts thread at = inr (λ h. let e : kind.Counts ≡ kind.Memory = ap (λ (f : ImageFault). f.kind) h in cc)
memory_or kind.Opcode thread at = inr (λ h. let e : kind.Opcode ≡ kind.Memory = ap (λ (f : ImageFault). f.kind) h in cc)
memory_or kind.Register thread at = inr (λ h. let e : kind.Register ≡ kind.Memory = ap (λ (f : ImageFault). f.kind) h in cc)
memory_or kind.Unused thread at = inr (λ h. let e : kind.Unused ≡ kind.Memory = ap (λ (f : ImageFault). f.kind) h in cc)
memory_or kind.Target thread at = inr (λ h. let e : kind.Target ≡ kind.Memory = ap (λ (f : ImageFault). f.kind) h in cc)
memory_or kind.Long thread at = inr (λ h. let e : kind.Long ≡ kind.Memory = ap (λ (f : ImageFault). f.kind) h in cc)
memory_or kind.Memory thread at =
    elim (cases_eq thread 0) [
      | inl no_thread ↦ elim (cases_eq at 0) [
        | inl no_place ↦ inl (ap (λ (n : ℕ). at_place n at) no_thread ∙ ap (λ (n : ℕ). at_place 0 n) no_place)
        | inr other ↦ inr (λ h. other (ap (λ (f : ImageFault). f.at) h))
      ]
      | inr other ↦ inr (λ h. other (ap (λ (f : ImageFault). f.thread) h))
    ]

pub only_is : (bytes : List ℕ) (r : Result ProgramValue ImageFault) (p : ProgramValue) → Gives (λ q. q) r (image_read bytes) → IsImage bytes p → MatchResult r (λ q. q ≡ p) (λ e. e ≡ out_of_memory)
only_is bytes (Ok q) p given image = ok_is q p (sym given ∙ ap image_read image.spelled ∙ image_again p image.rules image.numbers)
only_is bytes (Err e) p given image =
    elim (memory_or e.kind e.thread e.at) [
      | inl same ↦ same
      | inr other ↦ absurd (never_both e p (sym (given other) ∙ ap image_read image.spelled ∙ image_again p image.rules image.numbers))
    ]

pub refused_is : (bytes : List ℕ) (r : Result ProgramValue ImageFault) → Gives (λ q. q) r (image_read bytes) → IfErr r (λ e. e.kind ≢ kind.Memory → (p : ProgramValue) → ¬ IsImage bytes p)
refused_is bytes (Ok q) given = tt
refused_is bytes (Err e) given = λ other p image. never_both e p (sym (given (λ h. other (ap (λ (f : ImageFault). f.kind) h))) ∙ ap image_read image.spelled ∙ image_again p image.rules image.numbers)
