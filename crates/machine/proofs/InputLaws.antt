-- The laws of inputs: what is read is spelled so, and what stands for inputs is read as these.
use Rattle.std.proofs.Common.{◌≡◌, ◌≢◌, ◌⊎◌, ℕ, ◌+◌, ◌*◌, ◌^◌, ◌<◌, ◌≤◌, true, eqb, ltb, not, List, [], ◌∷◌, ◌++◌, length, take, drop, sum, map, All, None, Result, Ok, Err, refl, sym, ap, subst, ◌∙◌, append_assoc, append-nil, arith, inl, inr}
use Rattle.std.specs.Prelude.{IfErr, MatchResult}
use Rattle.std.specs.List.{flat_map, AllByRecursion, list_all, starts_with}
use Rattle.std.specs.Int.{w32, to_be_bytes}
use Rattle.std.proofs.lemmas.Bool.{ltb-false, le-ltb, not-false}
use Rattle.std.proofs.lemmas.Slice.Eq.{bytes_eq-Decides}
use Rattle.std.proofs.lemmas.List.{drop_at, take-append-drop, length-append, length-drop, length-map, drop-drop, drop_more, drop_all}
use Rattle.std.proofs.lemmas.List.Elements.{All-from_recursion, recursion_from_All}
use Rattle.std.proofs.lemmas.List.Folds.{list_all-map}
use Rattle.light_base.specs.Numbers.{IsBytes}
use Rattle.machine.specs.Faults.{is_count}
use Rattle.machine.specs.Inputs.{InputsValue, AreInputs, is_short_count, is_short_list, most_inputs}
use Rattle.machine.specs.Reading.{numbers_at, after}
use Rattle.machine.specs.InputTexts.{InputFault, InputKind, Gives, out_of_memory, fault_of, magic, count_text, list_text, inputs_text, IsInputsText, lists_in, counts_in, numbers_place, text_len, lists_at, head_fault, counts_fault, inputs_read}
use Rattle.machine.specs.declared.input_fault.InputKind.TheVariants as kind
use Rattle.machine.proofs.Rules.{count_holds, is_count_from}
use Rattle.machine.proofs.ImageSteps.{sum-cons}
use Rattle.machine.proofs.ImageNumbers.{IsBytes-drop, join, wide32, numbers_take, numbers_again}
use Rattle.machine.proofs.ImageInstrs.{ok_is}
use Rattle.machine.proofs.ImageHead.{after_ok}
use Rattle.machine.proofs.ImageLaws.{guarded, length-words_image}
use Rattle.machine.proofs.InputLists.{short_from, short_test}
use Rattle.machine.proofs.InputHead.{IsHead, HasCounts, text_is}

-- numbers of 32 bits
abbrev AreWide : List ℕ → Type 0
AreWide list = AllByRecursion (λ n. n < 2 ^ 32) list

-- ---- lists

record TakesLists (counts bytes : List ℕ) : Type 0 where
  parts : bytes ≡ flat_map list_text (lists_at counts bytes) ++ drop (4 * sum counts) bytes
  counts_are : map length (lists_at counts bytes) ≡ counts
  below : AllByRecursion AreWide (lists_at counts bytes)

lists_take : (counts bytes : List ℕ) → IsBytes bytes → 4 * sum counts ≤ length bytes → TakesLists counts bytes
unfolding lists_at
lists_take [] bytes fits long = record { parts = refl; counts_are = refl; below = tt }
lists_take (count ∷ counts) bytes fits long =
    let total = sum-cons count counts in
    let first = numbers_take w32 (2 ^ 32) wide32 count bytes fits (omega (arith, total, long)) in
    let behind = drop (4 * count) bytes in
    let others = lists_take counts behind (IsBytes-drop (4 * count) bytes fits) (omega (arith, total, long, length-drop (4 * count) bytes)) in
    let list = numbers_at w32 count bytes in
    let here : count * 4 ≡ 4 * count = omega arith in
    let parts : bytes ≡ list_text list ++ behind = first.parts ∙ ap (λ (k : ℕ). list_text list ++ drop k bytes) here in
    let place : 4 * count + 4 * sum counts ≡ 4 * sum (count ∷ counts) = omega (arith, total) in
    let rest : drop (4 * sum counts) behind ≡ drop (4 * sum (count ∷ counts)) bytes = drop-drop (4 * sum counts) (4 * count) bytes ∙ ap (λ (k : ℕ). drop k bytes) place in
    let both = join bytes (list_text list) (flat_map list_text (lists_at counts behind)) (drop (4 * sum counts) behind) (4 * count) parts others.parts in
    record {
      parts = both ∙ ap (λ (xs : List ℕ). (list_text list ++ flat_map list_text (lists_at counts behind)) ++ xs) rest;
      counts_are = ap (λ (k : ℕ). k ∷ map length (lists_at counts behind)) first.len ∙ ap (λ (ks : List ℕ). count ∷ ks) others.counts_are;
      below = (first.below, others.below);
    }

lists_again : (lists : List (List ℕ)) (rest : List ℕ) → AllByRecursion AreWide lists → lists_at (map length lists) (flat_map list_text lists ++ rest) ≡ lists
unfolding lists_at
lists_again [] rest below = refl
lists_again (list ∷ lists) rest below =
    let others : List ℕ = flat_map list_text lists ++ rest in
    let whole : flat_map list_text (list ∷ lists) ++ rest ≡ list_text list ++ others = append_assoc (list_text list) (flat_map list_text lists) rest in
    let first : numbers_at w32 (length list) (list_text list ++ others) ≡ list = numbers_again w32 (2 ^ 32) wide32 list others below.0 in
    let next : drop (4 * length list) (list_text list ++ others) ≡ others = drop_at (list_text list) others (4 * length list) (length-words_image list) in
    ap (lists_at (length list ∷ map length lists)) whole ∙ ap (λ (l : List ℕ). l ∷ lists_at (map length lists) (drop (4 * length list) (list_text list ++ others))) first ∙
    ap (λ (xs : List ℕ). list ∷ lists_at (map length lists) xs) next ∙ ap (λ (ls : List (List ℕ)). list ∷ ls) (lists_again lists rest below.1)

length-counts_text : (lists : List (List ℕ)) → length (flat_map count_text lists) ≡ 4 * length lists
length-counts_text [] = refl
length-counts_text (list ∷ lists) = omega (arith, length-append (count_text list) (flat_map count_text lists), length-counts_text lists)

length-lists_text : (lists : List (List ℕ)) → length (flat_map list_text lists) ≡ 4 * sum (map length lists)
length-lists_text [] = refl
length-lists_text (list ∷ lists) = omega (arith, length-append (list_text list) (flat_map list_text lists), length-words_image list, length-lists_text lists, sum-cons (length list) (map length lists))

counts_spelled : (lists : List (List ℕ)) → flat_map count_text lists ≡ flat_map (to_be_bytes w32) (map length lists)
counts_spelled [] = refl
counts_spelled (list ∷ lists) = ap (λ (xs : List ℕ). count_text list ++ xs) (counts_spelled lists)

counts_tested : (lists : List (List ℕ)) → list_all is_short_count (map length lists) ≡ list_all is_short_list lists
counts_tested lists = list_all-map is_short_count length lists

short_counts_fit : (lists : List (List ℕ)) → AllByRecursion (λ list. length list ≤ most_inputs) lists → AllByRecursion (λ n. n < 2 ^ 32) (map length lists)
short_counts_fit [] short = tt
short_counts_fit (list ∷ lists) short = (omega (arith, short.0), short_counts_fit lists short.1)

-- ---- what is read is spelled so

record SoundHead (bytes : List ℕ) : Type 0 where
  five : 5 ≤ length bytes
  begins : take 4 bytes ≡ magic
  count : is_count 15 (lists_in bytes) ≡ true

head_sound : (bytes : List ℕ) → head_fault bytes ≡ None → SoundHead bytes
unfolding head_fault
head_sound bytes e =
    let a = guarded (ltb (length bytes) 5) kind.Short _ e in
    let b = guarded (not (starts_with eqb bytes magic)) kind.Magic _ a.1 in
    let c = guarded (not (is_count 15 (lists_in bytes))) kind.Counts _ b.1 in
    record { five = ltb-false (length bytes) 5 a.0; begins = sym ((bytes_eq-Decides magic (take 4 bytes)).0 (not-false _ b.0)); count = not-false _ c.0 }

record SoundCounts (bytes : List ℕ) : Type 0 where
  there : numbers_place bytes ≤ length bytes
  short : list_all is_short_count (counts_in bytes) ≡ true
  all_there : text_len bytes ≤ length bytes
  no_more : length bytes ≤ text_len bytes

counts_sound : (bytes : List ℕ) → counts_fault bytes ≡ None → SoundCounts bytes
unfolding counts_fault
counts_sound bytes e =
    let a = guarded (ltb (length bytes) (numbers_place bytes)) kind.Short _ e in
    let b = guarded (not (list_all is_short_count (counts_in bytes))) kind.Counts _ a.1 in
    let c = guarded (ltb (length bytes) (text_len bytes)) kind.Short _ b.1 in
    let d = guarded (ltb (text_len bytes) (length bytes)) kind.Long _ c.1 in
    record { there = ltb-false (length bytes) (numbers_place bytes) a.0; short = not-false _ b.0; all_there = ltb-false (length bytes) (text_len bytes) c.0; no_more = ltb-false (text_len bytes) (length bytes) d.0 }

counts_take : (bytes : List ℕ) → IsBytes bytes → numbers_place bytes ≤ length bytes
    → (drop 5 bytes ≡ flat_map (to_be_bytes w32) (counts_in bytes) ++ drop (numbers_place bytes) bytes) × (length (counts_in bytes) ≡ lists_in bytes)
unfolding counts_in
counts_take bytes fits long =
    let t = lists_in bytes in
    let takes = numbers_take w32 (2 ^ 32) wide32 t (drop 5 bytes) (IsBytes-drop 5 bytes fits) (omega (arith, length-drop 5 bytes, long)) in
    let place : 5 + t * 4 ≡ 5 + 4 * t = omega arith in
    let rest : drop (t * 4) (drop 5 bytes) ≡ drop (5 + 4 * t) bytes = drop-drop (t * 4) 5 bytes ∙ ap (λ (k : ℕ). drop k bytes) place in
    (takes.parts ∙ ap (λ (xs : List ℕ). flat_map (to_be_bytes w32) (numbers_at w32 t (drop 5 bytes)) ++ xs) rest, takes.len)

head_take : (bytes : List ℕ) → SoundHead bytes → bytes ≡ magic ++ (lists_in bytes ∷ drop 5 bytes)
head_take bytes head =
    let fifth : drop 4 bytes ≡ lists_in bytes ∷ drop 5 bytes = drop_more bytes 4 0 (omega (arith, head.five)) in
    sym (take-append-drop 4 bytes) ∙ ap (λ (xs : List ℕ). xs ++ drop 4 bytes) head.begins ∙ ap (λ (xs : List ℕ). magic ++ xs) fifth

pub inputs_take : (bytes : List ℕ) (inputs : InputsValue) → IsBytes bytes → inputs_read bytes ≡ Ok inputs → IsInputsText bytes inputs
unfolding inputs_read
inputs_take bytes inputs fits e =
    let at = numbers_place bytes in
    let lists = lists_at (counts_in bytes) (drop at bytes) in
    let a = after_ok fault_of (head_fault bytes) (after fault_of (counts_fault bytes) (Ok lists)) inputs e in
    let b = after_ok fault_of (counts_fault bytes) (Ok lists) inputs a.1 in
    let head = head_sound bytes a.0 in
    let sound = counts_sound bytes b.0 in
    let counts = counts_take bytes fits sound.there in
    let takes = lists_take (counts_in bytes) (drop at bytes) (IsBytes-drop at bytes fits) (omega (arith, length-drop at bytes, sound.all_there)) in
    let none_left : drop (4 * sum (counts_in bytes)) (drop at bytes) ≡ [] = drop_all (4 * sum (counts_in bytes)) (drop at bytes) (omega (arith, length-drop at bytes, sound.no_more)) in
    let numbers : drop at bytes ≡ flat_map list_text lists = takes.parts ∙ ap (λ (xs : List ℕ). flat_map list_text lists ++ xs) none_left ∙ append-nil (flat_map list_text lists) in
    let count : length lists ≡ lists_in bytes = sym (length-map lists (length {A = ℕ})) ∙ ap length takes.counts_are ∙ counts.1 in
    let spelled : flat_map (to_be_bytes w32) (counts_in bytes) ≡ flat_map count_text lists = ap (flat_map (to_be_bytes w32)) (sym takes.counts_are) ∙ sym (counts_spelled lists) in
    let tail : drop 5 bytes ≡ flat_map count_text lists ++ flat_map list_text lists = counts.0 ∙ ap (λ (xs : List ℕ). xs ++ drop at bytes) spelled ∙ ap (λ (xs : List ℕ). flat_map count_text lists ++ xs) numbers in
    let whole : bytes ≡ inputs_text lists = head_take bytes head ∙ ap (λ (n : ℕ). magic ++ (n ∷ drop 5 bytes)) (sym count) ∙ ap (λ (xs : List ℕ). magic ++ (length lists ∷ xs)) tail in
    let tested : list_all is_short_list lists ≡ true = sym (counts_tested lists) ∙ ap (list_all is_short_count) takes.counts_are ∙ sound.short in
    let held = count_holds 15 (lists_in bytes) head.count in
    let rules : AreInputs lists = record { some_threads = omega (arith, held.0, count); most_threads = omega (arith, held.1, count); short = short_from lists tested } in
    let wide : All (All (λ n. n < 2 ^ 32)) lists = λ t d lt. All-from_recursion (λ n. n < 2 ^ 32) _ (All-from_recursion AreWide lists takes.below t d lt) in
    let P : InputsValue → Type 0 = λ q. IsInputsText bytes q in
    subst P (ok_is lists inputs b.1) (record { rules = rules; numbers = wide; spelled = whole })

-- ---- what stands for inputs is read

counts_again : (inputs : InputsValue) → AreInputs inputs → map length inputs ≡ counts_in (inputs_text inputs)
unfolding counts_in
counts_again inputs rules =
    let fit = short_counts_fit inputs (recursion_from_All (λ (list : List ℕ). length list ≤ most_inputs) inputs rules.short) in
    let numbers = flat_map list_text inputs in
    let spelled : drop 5 (inputs_text inputs) ≡ flat_map (to_be_bytes w32) (map length inputs) ++ numbers = ap (λ (xs : List ℕ). xs ++ numbers) (counts_spelled inputs) in
    sym (ap (numbers_at w32 (length inputs)) spelled ∙ ap (λ (n : ℕ). numbers_at w32 n (flat_map (to_be_bytes w32) (map length inputs) ++ numbers)) (sym (length-map inputs (length {A = ℕ}))) ∙ numbers_again w32 (2 ^ 32) wide32 (map length inputs) numbers fit)

length-inputs_text : (inputs : InputsValue) → length (inputs_text inputs) ≡ 5 + 4 * length inputs + 4 * sum (map length inputs)
length-inputs_text inputs =
    let four : length magic ≡ 4 = refl in
    omega (
      arith,
      four,
      length-append magic (length inputs ∷ (flat_map count_text inputs ++ flat_map list_text inputs)),
      length-append (flat_map count_text inputs) (flat_map list_text inputs),
      length-counts_text inputs,
      length-lists_text inputs,
    )

head_again : (inputs : InputsValue) → AreInputs inputs → head_fault (inputs_text inputs) ≡ None
unfolding head_fault
head_again inputs rules = rw (le-ltb (length (inputs_text inputs)) 5 (omega (arith, length-inputs_text inputs)), is_count_from 15 (length inputs) rules.some_threads rules.most_threads) refl

from_numbers : (inputs : InputsValue) → drop (5 + 4 * length inputs) (inputs_text inputs) ≡ flat_map list_text inputs
from_numbers inputs =
    let start : drop 5 (inputs_text inputs) ≡ flat_map count_text inputs ++ flat_map list_text inputs = refl in
    sym (drop-drop (4 * length inputs) 5 (inputs_text inputs)) ∙ ap (drop (4 * length inputs)) start ∙ drop_at (flat_map count_text inputs) (flat_map list_text inputs) (4 * length inputs) (length-counts_text inputs)

pub inputs_again : (inputs : InputsValue) → AreInputs inputs → All (All (λ n. n < 2 ^ 32)) inputs → inputs_read (inputs_text inputs) ≡ Ok inputs
inputs_again inputs rules numbers =
    let bytes = inputs_text inputs in
    let len = length-inputs_text inputs in
    let head : IsHead bytes (length inputs) = record { fault = head_again inputs rules; lists_are = refl } in
    let has : HasCounts bytes (length inputs) (map length inputs) = record { head = head; there = omega (arith, len); counts_are = counts_again inputs rules } in
    let short : list_all is_short_count (map length inputs) ≡ true = counts_tested inputs ∙ short_test inputs rules.short in
    let wide : AllByRecursion AreWide inputs = recursion_from_All AreWide inputs (λ t d lt. recursion_from_All (λ n. n < 2 ^ 32) _ (numbers t d lt)) in
    let read : inputs ≡ lists_at (map length inputs) (drop (5 + 4 * length inputs) bytes) = sym (ap (lists_at (map length inputs)) (from_numbers inputs ∙ sym (append-nil (flat_map list_text inputs))) ∙ lists_again inputs [] wide) in
    text_is bytes (length inputs) (map length inputs) has short (sym len) inputs read

-- ---- what the reader answers

abbrev failed : InputFault → Result InputsValue InputFault
failed e = Err e

never_both : (e : InputFault) (inputs : InputsValue) → failed e ≡ Ok inputs → ⊥
never_both e inputs h = cc

memory_or : (k : InputKind) → (fault_of k ≡ out_of_memory) ⊎ (fault_of k ≢ out_of_memory)
memory_or kind.Short = inr (λ h. let e : kind.Short ≡ kind.Memory = ap (λ (f : InputFault). f.kind) h in cc)
memory_or kind.Magic = inr (λ h. let e : kind.Magic ≡ kind.Memory = ap (λ (f : InputFault). f.kind) h in cc)
memory_or kind.Counts = inr (λ h. let e : kind.Counts ≡ kind.Memory = ap (λ (f : InputFault). f.kind) h in cc)
memory_or kind.Long = inr (λ h. let e : kind.Long ≡ kind.Memory = ap (λ (f : InputFault). f.kind) h in cc)
memory_or kind.Memory = inl refl

read_again : (bytes : List ℕ) (inputs : InputsValue) → IsInputsText bytes inputs → inputs_read bytes ≡ Ok inputs
read_again bytes inputs is = ap inputs_read is.spelled ∙ inputs_again inputs is.rules is.numbers

pub only_is : (bytes : List ℕ) (r : Result InputsValue InputFault) (inputs : InputsValue) → Gives (λ q. q) r (inputs_read bytes) → IsInputsText bytes inputs → MatchResult r (λ q. q ≡ inputs) (λ e. e ≡ out_of_memory)
only_is bytes (Ok q) inputs given is = ok_is q inputs (sym given ∙ read_again bytes inputs is)
only_is bytes (Err e) inputs given is =
    elim (memory_or e.kind) [
      | inl same ↦ same
      | inr other ↦ absurd (never_both e inputs (sym (given other) ∙ read_again bytes inputs is))
    ]

pub refused_is : (bytes : List ℕ) (r : Result InputsValue InputFault) → Gives (λ q. q) r (inputs_read bytes) → IfErr r (λ e. e.kind ≢ kind.Memory → (inputs : InputsValue) → ¬ IsInputsText bytes inputs)
refused_is bytes (Ok q) given = tt
refused_is bytes (Err e) given = λ other inputs is. never_both e inputs (sym (given (λ h. other (ap (λ (f : InputFault). f.kind) h))) ∙ read_again bytes inputs is)
