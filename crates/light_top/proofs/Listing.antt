-- One more line of a list.
use Rattle.std.proofs.Common.{◌≡◌, ℕ, ◌+◌, Bool, true, false, ◌≤◌, ◌<◌, List, [], ◌∷◌, ◌++◌, length, get_or, zero, suc, Option, None, Some, Result, Ok, Err, refl, sym, ap, ◌∙◌, append_assoc, cond, arith}
use Rattle.std.specs.Prelude.{nat_lt, nat_le, slice_index}
use Rattle.std.specs.List.{list_all}
use Rattle.std.specs.Str.{IsAscii, IsUtf8}
use Rattle.std.proofs.lemmas.Bool.{and_parts, leb-true}
use Rattle.std.proofs.lemmas.Bool.Decides.{nat_tests}
use Rattle.std.proofs.lemmas.Str.{IsUtf8-from_ascii}
use Rattle.machine.specs.Reading.{◌>>=◌}
use Rattle.batch.specs.Jobs.{most_jobs}
use Rattle.light_top.specs.Pairs.{is_visible, listed_name, pair_of}
use Rattle.light_top.specs.Words.{name_of}
use Rattle.light_top.specs.Lists.{or_refused, pairs_from}
use Rattle.light_top.specs.declared.list.Pair.{Pair}
use Rattle.light_top.specs.declared.status.Status.{Status}
use Rattle.light_top.specs.declared.status.Status.TheVariants as status

-- these pairs, and then those of the lines from this number on
abbrev pub and_those : List Pair → Result (List Pair) Status → Result (List Pair) Status
and_those front r = r >>= λ more. Ok (front ++ more)

onto : (front : List Pair) (pair : Pair) (r : Result (List Pair) Status) → and_those front (r >>= λ pairs. Ok (pair ∷ pairs)) ≡ and_those (front ++ pair ∷ []) r
onto front pair (Ok pairs) = let ok : List Pair → Result (List Pair) Status = λ ps. Ok ps in ap ok (sym (append_assoc front (pair ∷ []) pairs))
onto front pair (Err s) = refl

abbrev tested : ℕ → Bool → Option Pair → List (List ℕ) → Result (List Pair) Status
tested number over pair lines =
    cond over (Err (status.ListRefused number)) (or_refused number pair) >>= λ pair. pairs_from (number + 1) lines >>= λ pairs. Ok (pair ∷ pairs)

module _ (number : ℕ) (line : List ℕ) (lines : List (List ℕ)) where
  pub next_pair : (front : List Pair) (pair : Pair) → nat_lt most_jobs number ≡ false → pair_of line ≡ Some pair →
      and_those front (pairs_from number (line ∷ lines)) ≡ and_those (front ++ pair ∷ []) (pairs_from (number + 1) lines)
  next_pair front pair few is =
      ap (λ (b : Bool). and_those front (tested number b (pair_of line) lines)) few ∙ ap (λ (p : Option Pair). and_those front (tested number false p lines)) is
      ∙ onto front pair (pairs_from (number + 1) lines)

  pub too_many : (front : List Pair) → nat_lt most_jobs number ≡ true → and_those front (pairs_from number (line ∷ lines)) ≡ Err (status.ListRefused number)
  too_many front over = ap (λ (b : Bool). and_those front (tested number b (pair_of line) lines)) over

  pub no_pair : (front : List Pair) → nat_lt most_jobs number ≡ false → pair_of line ≡ None → and_those front (pairs_from number (line ∷ lines)) ≡ Err (status.ListRefused number)
  no_pair front few is =
      ap (λ (b : Bool). and_those front (tested number b (pair_of line) lines)) few ∙ ap (λ (p : Option Pair). and_those front (tested number false p lines)) is

is_ascii : (b : ℕ) → is_visible b ≡ true → b < 128
is_ascii b seen = let bounds = and_parts (nat_le 33 b) (nat_le b 126) seen in omega (arith, leb-true b 126 bounds.1)

are_ascii : (bytes : List ℕ) → list_all is_visible bytes ≡ true → IsAscii bytes
are_ascii [] seen i = omega arith
are_ascii (b ∷ bytes) seen zero = is_ascii b (and_parts (is_visible b) (list_all is_visible bytes) seen).0
are_ascii (b ∷ bytes) seen (suc i) = are_ascii bytes (and_parts (is_visible b) (list_all is_visible bytes) seen).1 i

-- bytes that can all be seen are text
pub visible_text : (bytes : List ℕ) → list_all is_visible bytes ≡ true → IsUtf8 bytes
visible_text bytes seen = IsUtf8-from_ascii bytes (are_ascii bytes seen)

pub named : (bytes : List ℕ) → list_all is_visible bytes ≡ true → name_of bytes ≡ listed_name bytes
named bytes seen = sym (ap (λ (b : Bool). cond b (name_of bytes) None) seen)

pub not_named : (bytes : List ℕ) → list_all is_visible bytes ≡ false → None ≡ listed_name bytes
not_named bytes unseen = sym (ap (λ (b : Bool). cond b (name_of bytes) None) unseen)

pub few_so_far : (number : ℕ) → number ≤ 64 → nat_lt most_jobs number ≡ false
few_so_far number low = grind (arith, nat_tests)
