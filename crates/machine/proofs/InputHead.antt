-- Reading inputs: the first fault, and the lists, as the reader finds them.
use Rattle.std.proofs.Common.{◌≡◌, ℕ, zero, suc, ◌+◌, ◌-◌, ◌*◌, ◌<◌, ◌≤◌, true, false, List, [], ◌∷◌, ◌++◌, length, take, drop, get_or, sum, None, Result, Ok, Err, refl, sym, ap, ◌∙◌, append_assoc, append-nil, arith}
use Rattle.std.specs.List.{list_all}
use Rattle.std.specs.Int.{Width, w32, byte_len}
use Rattle.std.specs.Global.{Vec}
use Rattle.std.proofs.lemmas.Bool.{lt-ltb, le-ltb}
use Rattle.std.proofs.lemmas.List.{take_rest, map_push, drop_more, drop_all}
use Rattle.machine.specs.Inputs.{input_lists, is_short_count}
use Rattle.machine.specs.Reading.{numbers_at, after}
use Rattle.machine.specs.InputTexts.{InputFault, fault_of, lists_in, counts_in, numbers_place, text_len, lists_at, head_fault, counts_fault, inputs_read}
use Rattle.machine.specs.declared.input_fault.InputKind.TheVariants as kind
use Rattle.machine.proofs.ImageHead.{after_err, after_ok}

-- ---- the head

-- a head whose number of lists is in range
pub record IsHead (bytes : List ℕ) (count : ℕ) : Type 0 where
  pub fault : head_fault bytes ≡ None
  pub lists_are : lists_in bytes ≡ count

abbrev counted : ℕ → Result ℕ InputFault
counted count = Ok count

abbrev refused : {A : Type 0} → InputFault → Result A InputFault
refused e = Err e

pub head_refused : (bytes : List ℕ) (e : InputFault) → refused e ≡ after fault_of (head_fault bytes) (Ok (lists_in bytes)) → inputs_read bytes ≡ Err e
unfolding inputs_read
head_refused bytes e h = after_err fault_of (head_fault bytes) (lists_in bytes) (after fault_of (counts_fault bytes) (Ok (lists_at (counts_in bytes) (drop (numbers_place bytes) bytes)))) e h

pub head_is : (bytes : List ℕ) (count : ℕ) → counted count ≡ after fault_of (head_fault bytes) (Ok (lists_in bytes)) → IsHead bytes count
head_is bytes count h =
    let both = after_ok fault_of (head_fault bytes) (Ok (lists_in bytes)) count (sym h) in
    record { fault = both.0; lists_are = cc both.1 }

pub text_short : (bytes : List ℕ) (count : ℕ) → IsHead bytes count → length bytes < 5 + 4 * count → inputs_read bytes ≡ Err (fault_of kind.Short)
unfolding inputs_read counts_fault
text_short bytes count head h = rw (head.fault, lt-ltb (length bytes) (numbers_place bytes) (omega (arith, head.lists_are, h))) refl

-- ---- the counts

pub length-numbers_at : (w : Width) (n : ℕ) (bytes : List ℕ) → length (numbers_at w n bytes) ≡ n
unfolding numbers_at
length-numbers_at w zero bytes = refl
length-numbers_at w (suc n) bytes = ap suc (length-numbers_at w n (drop (byte_len w) bytes))

-- a head whose counts are there
pub record HasCounts (bytes : List ℕ) (count : ℕ) (counts : List ℕ) : Type 0 where
  pub head : IsHead bytes count
  pub there : 5 + 4 * count ≤ length bytes
  pub counts_are : counts ≡ counts_in bytes

pub has_counts : (bytes : List ℕ) (count : ℕ) (counts : List ℕ) → counted count ≡ after fault_of (head_fault bytes) (Ok (lists_in bytes)) → 5 + 4 * count ≤ length bytes → counts ≡ numbers_at w32 count (take (length bytes - 5) (drop 5 bytes))
    → HasCounts bytes count counts
unfolding counts_in
has_counts bytes count counts h there read =
    let head = head_is bytes count h in
    record { head = head; there = there; counts_are = read ∙ ap (numbers_at w32 count) (take_rest bytes 5) ∙ ap (λ (n : ℕ). numbers_at w32 n (drop 5 bytes)) (sym head.lists_are) }

module _ (bytes : List ℕ) (count : ℕ) (counts : List ℕ) (has : HasCounts bytes count counts) where
  begun : numbers_place bytes ≡ 5 + 4 * count
  begun = omega (arith, has.head.lists_are)

  ended : text_len bytes ≡ 5 + 4 * count + 4 * sum counts
  ended = let total = ap sum has.counts_are in omega (arith, has.head.lists_are, total)

  pub text_counts : list_all is_short_count counts ≡ false → inputs_read bytes ≡ Err (fault_of kind.Counts)
  unfolding inputs_read counts_fault
  text_counts e =
      let long : list_all is_short_count (counts_in bytes) ≡ false = rw (← has.counts_are) e in
      rw (has.head.fault, le-ltb (length bytes) (numbers_place bytes) (omega (arith, begun, has.there)), long) refl

  pub text_cut : list_all is_short_count counts ≡ true → length bytes < 5 + 4 * count + 4 * sum counts → inputs_read bytes ≡ Err (fault_of kind.Short)
  unfolding inputs_read counts_fault
  text_cut e cut =
      let short : list_all is_short_count (counts_in bytes) ≡ true = rw (← has.counts_are) e in
      rw (has.head.fault, le-ltb (length bytes) (numbers_place bytes) (omega (arith, begun, has.there)), short, lt-ltb (length bytes) (text_len bytes) (omega (arith, ended, cut))) refl

  pub text_long : list_all is_short_count counts ≡ true → 5 + 4 * count + 4 * sum counts < length bytes → inputs_read bytes ≡ Err (fault_of kind.Long)
  unfolding inputs_read counts_fault
  text_long e long =
      let short : list_all is_short_count (counts_in bytes) ≡ true = rw (← has.counts_are) e in
      rw (
        has.head.fault,
        le-ltb (length bytes) (numbers_place bytes) (omega (arith, begun, has.there)),
        short,
        le-ltb (length bytes) (text_len bytes) (omega (arith, ended, long)),
        lt-ltb (text_len bytes) (length bytes) (omega (arith, ended, long)),
      ) refl

  -- no fault is found
  pub text_none : list_all is_short_count counts ≡ true → 5 + 4 * count + 4 * sum counts ≡ length bytes → counts_fault bytes ≡ None
  unfolding counts_fault
  text_none e len =
      let short : list_all is_short_count (counts_in bytes) ≡ true = rw (← has.counts_are) e in
      rw (
        le-ltb (length bytes) (numbers_place bytes) (omega (arith, begun, has.there)),
        short,
        le-ltb (length bytes) (text_len bytes) (omega (arith, ended, len)),
        le-ltb (text_len bytes) (length bytes) (omega (arith, ended, len)),
      ) refl

  pub text_is : list_all is_short_count counts ≡ true → 5 + 4 * count + 4 * sum counts ≡ length bytes → (lists : List (List ℕ)) → lists ≡ lists_at counts (drop (5 + 4 * count) bytes) → inputs_read bytes ≡ Ok lists
  unfolding inputs_read
  text_is e len lists read =
      let same : lists_at (counts_in bytes) (drop (numbers_place bytes) bytes) ≡ lists = ap (λ (n : ℕ). lists_at (counts_in bytes) (drop n bytes)) begun ∙ ap (λ (ns : List ℕ). lists_at ns (drop (5 + 4 * count) bytes)) (sym has.counts_are) ∙ sym read in
      rw (has.head.fault, text_none e len) (ap Ok same)

-- ---- the lists, one after the other

pub lists_go_on : (counts : List ℕ) (t : ℕ) (front : List (List ℕ)) (bytes : List ℕ) (total : List (List ℕ)) (list : List ℕ) → t < length counts → list ≡ numbers_at w32 (get_or counts t 0) bytes
    → front ++ lists_at (drop t counts) bytes ≡ total → (front ++ list ∷ []) ++ lists_at (drop (t + 1) counts) (drop (4 * get_or counts t 0) bytes) ≡ total
unfolding lists_at
lists_go_on counts t front bytes total list lt is so_far =
    let count = get_or counts t 0 in
    let rest = lists_at (drop (t + 1) counts) (drop (4 * count) bytes) in
    append_assoc front (list ∷ []) rest ∙ ap (λ (l : List ℕ). front ++ l ∷ rest) is ∙ ap (λ (ns : List ℕ). front ++ lists_at ns bytes) (sym (drop_more counts t 0 lt)) ∙ so_far

pub lists_end : (counts : List ℕ) (t : ℕ) (front : List (List ℕ)) (bytes : List ℕ) (total : List (List ℕ)) → length counts ≤ t → front ++ lists_at (drop t counts) bytes ≡ total → front ≡ total
unfolding lists_at
lists_end counts t front bytes total le so_far = sym (append-nil front) ∙ ap (λ (ns : List ℕ). front ++ lists_at ns bytes) (sym (drop_all t counts le)) ∙ so_far

-- one more vector
pub input_lists_push : (lists : List (Vec ℕ)) (list : Vec ℕ) → input_lists (lists ++ list ∷ []) ≡ input_lists lists ++ list.items ∷ []
input_lists_push lists list = map_push (λ (v : Vec ℕ). v.items) lists list
