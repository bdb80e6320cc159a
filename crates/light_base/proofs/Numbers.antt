-- Numbers at a place of a list of bytes: when there is one, and which bytes spell it.
use Rattle.std.proofs.Common.{◌≡◌, ◌↔◌, ℕ, ◌+◌, ◌-◌, ◌^◌, ◌<◌, ◌≤◌, List, length, take, drop, slice_range, Some, None, sym, ap, ◌∙◌, arith, inl, inr}
use Rattle.std.specs.Int.{Width, w16, w32, byte_len, from_be_bytes, to_be_bytes}
use Rattle.std.proofs.lemmas.Bool.{le-leb, lt-leb, leb-true, cond-true, cond-false, cases_lt}
use Rattle.std.proofs.lemmas.List.{length-take, length-take-le, length-drop, get_or-take, get_or-drop, get_or_past}
use Rattle.std.proofs.lemmas.Nat.{be_bytes_4, from_be_bytes-to_be_bytes_4}
use Rattle.std.proofs.lemmas.Option.{cond_some}
use Rattle.byteorder.specs.Endian.{big_number}
use Rattle.light_base.specs.Numbers.{IsBytes, big_endian_at}

-- a number that is there
pub big_endian_at-there : (w : Width) (bytes : List ℕ) (at : ℕ) → at + byte_len w ≤ length bytes → big_endian_at w bytes at ≡ Some (from_be_bytes w (slice_range bytes at (at + byte_len w)))
unfolding big_endian_at
big_endian_at-there w bytes at h = cond-true _ _ _ (le-leb _ _ h)

-- no number, where the bytes end before
pub big_endian_at-short : (w : Width) (bytes : List ℕ) (at : ℕ) → length bytes < at + byte_len w → big_endian_at w bytes at ≡ None
unfolding big_endian_at
big_endian_at-short w bytes at h = cond-false _ _ _ (lt-leb _ _ h)

-- a number that is read is there
pub big_endian_at-within : (w : Width) (bytes : List ℕ) (at n : ℕ) → big_endian_at w bytes at ≡ Some n → (at + byte_len w ≤ length bytes) × (from_be_bytes w (slice_range bytes at (at + byte_len w)) ≡ n)
unfolding big_endian_at
big_endian_at-within w bytes at n e = let h = cond_some _ _ _ e in (leb-true _ _ h.0, h.1)

-- a part of the bytes that is there has its length
pub length-slice_range : (bytes : List ℕ) (at n : ℕ) → at + n ≤ length bytes → length (slice_range bytes at (at + n)) ≡ n
length-slice_range bytes at n h =
    let there : n ≤ length (drop at bytes) = omega (arith, length-drop at bytes) in
    let same : at + n - at ≡ n = omega arith in
    ap (λ k. length (take k (drop at bytes))) same ∙ length-take-le n (drop at bytes) there

-- a part of bytes is bytes
pub IsBytes-slice_range : (bytes : List ℕ) (from to : ℕ) → IsBytes bytes → IsBytes (slice_range bytes from to)
IsBytes-slice_range bytes from to h i =
    elim (cases_lt i (to - from)) [
      | inl k ↦ omega (arith, get_or-take (to - from) (drop from bytes) i 0 k, get_or-drop from bytes i 0, h (from + i))
      | inr k ↦ omega (arith, get_or_past (slice_range bytes from to) i 0 (omega (arith, length-take (to - from) (drop from bytes))))
    ]

-- what byteorder reads of as many bytes as the number has
pub big_number_2 : (bytes : List ℕ) → big_number 2 bytes ≡ from_be_bytes w16 bytes
big_number_2 bytes = omega arith

pub big_number_4 : (bytes : List ℕ) → big_number 4 bytes ≡ from_be_bytes w32 bytes
big_number_4 bytes = omega arith

-- a part that is as long as it should be is there
there_by_length : (bytes : List ℕ) (at n : ℕ) → 0 < n → length (slice_range bytes at (at + n)) ≡ n → at + n ≤ length bytes
there_by_length bytes at n h e = omega (arith, length-take (at + n - at) (drop at bytes), length-drop at bytes)

-- a number of 32 bits is read exactly where its bytes stand
pub big_endian_at-spelled_4 : (bytes : List ℕ) (at n : ℕ) → IsBytes bytes → n < 2 ^ 32 → (big_endian_at w32 bytes at ≡ Some n) ↔ (slice_range bytes at (at + 4) ≡ to_be_bytes w32 n)
big_endian_at-spelled_4 bytes at n h k = (
  λ e. let found = big_endian_at-within w32 bytes at n e in
      sym (be_bytes_4 (slice_range bytes at (at + 4)) n (length-slice_range bytes at 4 found.0) (IsBytes-slice_range bytes at (at + 4) h) (sym found.1)),
  λ e. big_endian_at-there w32 bytes at (there_by_length bytes at 4 (omega arith) (ap length e)) ∙ ap (λ bs. Some (from_be_bytes w32 bs)) e ∙ ap Some (from_be_bytes-to_be_bytes_4 n k),
)
