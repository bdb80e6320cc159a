-- A number whose bytes were appended is read at that place.
use Rattle.std.proofs.Common.{◌≡◌, ℕ, ◌+◌, ◌-◌, ◌^◌, ◌<◌, ◌≤◌, List, [], ◌++◌, length, take, drop, slice_range, Some, sym, ap, ◌∙◌, arith, length-append}
use Rattle.std.specs.Int.{Width, w16, w32, byte_len, from_be_bytes, to_be_bytes}
use Rattle.std.proofs.Math.Seq.{drop-append_seam, take-append_seam}
use Rattle.std.proofs.lemmas.List.{append-nil}
use Rattle.std.proofs.lemmas.Nat.{from_be_bytes-to_be_bytes_2, from_be_bytes-to_be_bytes_4}
use Rattle.light_base.specs.Numbers.{big_endian_at}
use Rattle.light_base.proofs.Numbers.{big_endian_at-there}

-- the part of bytes that stands between what comes before and after it
pub slice_range-between : (front text rest : List ℕ) (n : ℕ) → length text ≡ n → slice_range (front ++ (text ++ rest)) (length front) (length front + n) ≡ text
slice_range-between front text rest n e =
    let same : length front + n - length front ≡ length text = omega (arith, e) in
    ap (λ k. take k (drop (length front) (front ++ (text ++ rest)))) same ∙ ap (take (length text)) (drop-append_seam front (text ++ rest)) ∙ take-append_seam text rest

-- the number that bytes of its width give
pub big_endian_at-between : (w : Width) (front text rest : List ℕ) (n : ℕ) → length text ≡ byte_len w → from_be_bytes w text ≡ n → big_endian_at w (front ++ (text ++ rest)) (length front) ≡ Some n
big_endian_at-between w front text rest n e h =
    let there : length front + byte_len w ≤ length (front ++ (text ++ rest)) = omega (arith, e, length-append front (text ++ rest), length-append text rest) in
    big_endian_at-there w (front ++ (text ++ rest)) (length front) there ∙ ap (λ bytes. Some (from_be_bytes w bytes)) (slice_range-between front text rest (byte_len w) e) ∙ ap Some h

-- a number of 16 bits is read where its bytes were appended
pub big_endian_at-appended_2 : (front : List ℕ) (n : ℕ) → n < 2 ^ 16 → big_endian_at w16 (front ++ to_be_bytes w16 n) (length front) ≡ Some n
big_endian_at-appended_2 front n h =
    ap (λ bytes. big_endian_at w16 (front ++ bytes) (length front)) (sym (append-nil (to_be_bytes w16 n)))
    ∙ big_endian_at-between w16 front (to_be_bytes w16 n) [] n (omega arith) (from_be_bytes-to_be_bytes_2 n h)

-- a number of 32 bits is read where its bytes were appended
pub big_endian_at-appended_4 : (front : List ℕ) (n : ℕ) → n < 2 ^ 32 → big_endian_at w32 (front ++ to_be_bytes w32 n) (length front) ≡ Some n
big_endian_at-appended_4 front n h =
    ap (λ bytes. big_endian_at w32 (front ++ bytes) (length front)) (sym (append-nil (to_be_bytes w32 n)))
    ∙ big_endian_at-between w32 front (to_be_bytes w32 n) [] n (omega arith) (from_be_bytes-to_be_bytes_4 n h)
