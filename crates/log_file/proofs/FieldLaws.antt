-- Numbers at places: what is read stands there, and what stands there is read.
use Rattle.std.proofs.Common.{◌≡◌, ℕ, ◌+◌, ◌-◌, ◌^◌, ◌<◌, ◌≤◌, List, ◌∷◌, ◌++◌, length, take, drop, get_or, refl, sym, ap, ◌∙◌, append_assoc, arith}
use Rattle.std.specs.Int.{w16, w32, from_be_bytes, to_be_bytes}
use Rattle.std.proofs.lemmas.List.{take_at, drop_at, drop-drop, length-drop, get_or-drop}
use Rattle.light_base.specs.Numbers.{IsBytes}
use Rattle.machine.proofs.ImageNumbers.{wide16, wide32, front_number, IsBytes-drop, IsBytes-take}
use Rattle.log_file.specs.LogReading.{half_at, number_at}

-- a field, and the one behind it
pub joined : (all one more two rest : List ℕ) → all ≡ one ++ more → more ≡ two ++ rest → all ≡ (one ++ two) ++ rest
joined all one more two rest p q = p ∙ ap (λ (xs : List ℕ). one ++ xs) q ∙ sym (append_assoc one two rest)

-- the last of some fields counts to what is behind
pub parted : (all one two rest : List ℕ) → all ≡ (one ++ two) ++ rest → all ≡ one ++ (two ++ rest)
parted all one two rest e = e ∙ append_assoc one two rest

-- what stands behind some fields
pub behind : (bytes : List ℕ) (at k : ℕ) (front rest : List ℕ) → drop at bytes ≡ front ++ rest → length front ≡ k → drop (at + k) bytes ≡ rest
behind bytes at k front rest e len = sym (drop-drop k at bytes) ∙ ap (drop k) e ∙ drop_at front rest k len

-- the bytes from a place on that are as many as a number has
abbrev part : ℕ → List ℕ → ℕ → List ℕ
part n bytes at = take (at + n - at) (drop at bytes)

part-is : (n : ℕ) (bytes : List ℕ) (at : ℕ) → part n bytes at ≡ take n (drop at bytes)
part-is n bytes at = let k : at + n - at ≡ n = omega arith in ap (λ (m : ℕ). take m (drop at bytes)) k

module _ (bytes : List ℕ) (fits : IsBytes bytes) (at : ℕ) where
  -- the field at a place, and what stands at the next
  pub number_take : (next : ℕ) → next ≡ at + 4 → next ≤ length bytes → drop at bytes ≡ to_be_bytes w32 (number_at bytes at) ++ drop next bytes
  number_take next same there =
      let stands = front_number w32 (2 ^ 32) wide32 (drop at bytes) (IsBytes-drop at bytes fits) (omega (arith, length-drop at bytes)) in
      stands ∙ ap (λ (xs : List ℕ). to_be_bytes w32 (from_be_bytes w32 xs) ++ drop 4 (drop at bytes)) (sym (part-is 4 bytes at)) ∙
      ap (λ (xs : List ℕ). to_be_bytes w32 (number_at bytes at) ++ xs) (drop-drop 4 at bytes ∙ ap (λ (k : ℕ). drop k bytes) (sym same))

  pub half_take : (next : ℕ) → next ≡ at + 2 → next ≤ length bytes → drop at bytes ≡ to_be_bytes w16 (half_at bytes at) ++ drop next bytes
  half_take next same there =
      let stands = front_number w16 (2 ^ 16) wide16 (drop at bytes) (IsBytes-drop at bytes fits) (omega (arith, length-drop at bytes)) in
      stands ∙ ap (λ (xs : List ℕ). to_be_bytes w16 (from_be_bytes w16 xs) ++ drop 2 (drop at bytes)) (sym (part-is 2 bytes at)) ∙
      ap (λ (xs : List ℕ). to_be_bytes w16 (half_at bytes at) ++ xs) (drop-drop 2 at bytes ∙ ap (λ (k : ℕ). drop k bytes) (sym same))

  pub number_fits : number_at bytes at < 2 ^ 32
  number_fits = wide32.below (part 4 bytes at) (IsBytes-take (at + 4 - at) (drop at bytes) (IsBytes-drop at bytes fits))

module _ (bytes : List ℕ) (at : ℕ) (n : ℕ) (rest : List ℕ) where
  pub number_again : n < 2 ^ 32 → drop at bytes ≡ to_be_bytes w32 n ++ rest → number_at bytes at ≡ n
  number_again fits e =
      ap (from_be_bytes w32) (part-is 4 bytes at ∙ ap (take 4) e ∙ take_at (to_be_bytes w32 n) rest 4 refl) ∙ wide32.again n fits

  pub half_again : n < 2 ^ 16 → drop at bytes ≡ to_be_bytes w16 n ++ rest → half_at bytes at ≡ n
  half_again fits e =
      ap (from_be_bytes w16) (part-is 2 bytes at ∙ ap (take 2) e ∙ take_at (to_be_bytes w16 n) rest 2 refl) ∙ wide16.again n fits

  pub byte_again : drop at bytes ≡ n ∷ rest → get_or bytes at 0 ≡ n
  byte_again e =
      let here : at + 0 ≡ at = omega arith in
      ap (λ (k : ℕ). get_or bytes k 0) (sym here) ∙ sym (get_or-drop at bytes 0 0) ∙ ap (λ (xs : List ℕ). get_or xs 0 0) e
