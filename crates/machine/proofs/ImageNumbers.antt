-- Numbers in a row: what is read is spelled so, and what is spelled so is read.
use Rattle.std.proofs.Common.{◌≡◌, ℕ, zero, suc, ◌+◌, ◌*◌, ◌^◌, ◌<◌, ◌≤◌, List, [], ◌∷◌, ◌++◌, length, take, drop, refl, sym, ap, ◌∙◌, append_assoc, arith, inl, inr}
use Rattle.std.specs.List.{flat_map, AllByRecursion}
use Rattle.std.specs.Int.{Width, w16, w32, byte_len, from_be_bytes, to_be_bytes}
use Rattle.std.proofs.lemmas.Bool.{cases_lt}
use Rattle.std.proofs.lemmas.List.{take_at, drop_at, take-append-drop, length-take, length-take-le, length-drop, get_or-drop, get_or-take, get_or_past, drop-drop}
use Rattle.std.proofs.lemmas.Nat.{be_bytes_2, be_bytes_4, from_be_bytes-to_be_bytes_2, from_be_bytes-to_be_bytes_4}
use Rattle.light_base.specs.Numbers.{IsBytes}
use Rattle.machine.specs.Reading.{numbers_at}

-- ---- bytes

pub IsBytes-drop : (n : ℕ) (bytes : List ℕ) → IsBytes bytes → IsBytes (drop n bytes)
IsBytes-drop n bytes h i = rw get_or-drop (h (n + i))

pub IsBytes-take : (n : ℕ) (bytes : List ℕ) → IsBytes bytes → IsBytes (take n bytes)
IsBytes-take n bytes h i =
    elim (cases_lt i n) [
      | inl lt ↦ rw (get_or-take n bytes i 0 lt) (h i)
      | inr le ↦ rw (get_or_past (take n bytes) i 0 (omega (arith, length-take n bytes))) (omega arith)
    ]

-- two parts of a front, one after the other
pub join : (bytes first second rest : List ℕ) (n : ℕ) → bytes ≡ first ++ drop n bytes → drop n bytes ≡ second ++ rest → bytes ≡ (first ++ second) ++ rest
join bytes first second rest n p q = p ∙ ap (λ (xs : List ℕ). first ++ xs) q ∙ sym (append_assoc first second rest)

-- ---- numbers

-- a width whose numbers are spelled and read back
pub record IsWide (w : Width) (limit : ℕ) : Type 0 where
  pub len : (n : ℕ) → length (to_be_bytes w n) ≡ byte_len w
  pub back : (bytes : List ℕ) → length bytes ≡ byte_len w → IsBytes bytes → to_be_bytes w (from_be_bytes w bytes) ≡ bytes
  pub again : (n : ℕ) → n < limit → from_be_bytes w (to_be_bytes w n) ≡ n
  pub below : (bytes : List ℕ) → IsBytes bytes → from_be_bytes w bytes < limit

pub wide16 : IsWide w16 (2 ^ 16)
wide16 = record {
  len = λ n. refl;
  back = λ bytes len fits. be_bytes_2 bytes _ len fits refl;
  again = λ n lt. from_be_bytes-to_be_bytes_2 n lt;
  below = λ bytes fits. omega (arith, fits 0, fits 1);
}

pub wide32 : IsWide w32 (2 ^ 32)
wide32 = record {
  len = λ n. refl;
  back = λ bytes len fits. be_bytes_4 bytes _ len fits refl;
  again = λ n lt. from_be_bytes-to_be_bytes_4 n lt;
  below = λ bytes fits. omega (arith, fits 0, fits 1, fits 2, fits 3);
}

-- the number at the front is spelled there
pub front_number : (w : Width) (limit : ℕ) (wide : IsWide w limit) (bytes : List ℕ) → IsBytes bytes → byte_len w ≤ length bytes → bytes ≡ to_be_bytes w (from_be_bytes w (take (byte_len w) bytes)) ++ drop (byte_len w) bytes
front_number w limit wide bytes fits long =
    let spelled = wide.back (take (byte_len w) bytes) (length-take-le (byte_len w) bytes long) (IsBytes-take (byte_len w) bytes fits) in
    sym (ap (λ (xs : List ℕ). xs ++ drop (byte_len w) bytes) spelled ∙ take-append-drop (byte_len w) bytes)

pub record TakesNumbers (w : Width) (limit n : ℕ) (bytes : List ℕ) : Type 0 where
  pub parts : bytes ≡ flat_map (to_be_bytes w) (numbers_at w n bytes) ++ drop (n * byte_len w) bytes
  pub len : length (numbers_at w n bytes) ≡ n
  pub below : AllByRecursion (λ x. x < limit) (numbers_at w n bytes)

pub numbers_take : (w : Width) (limit : ℕ) (wide : IsWide w limit) (n : ℕ) (bytes : List ℕ) → IsBytes bytes → n * byte_len w ≤ length bytes → TakesNumbers w limit n bytes
unfolding numbers_at
numbers_take w limit wide zero bytes fits long =
    let z : 0 * byte_len w ≡ 0 = omega arith in
    record { parts = rw z refl; len = refl; below = tt }
numbers_take w limit wide (suc n) bytes fits long =
    let k = byte_len w in
    let there : k ≤ length bytes = omega arith in
    let place : k + n * k ≡ suc n * k = omega arith in
    let others = numbers_take w limit wide n (drop k bytes) (IsBytes-drop k bytes fits) (omega (arith, length-drop k bytes)) in
    let rest : drop (n * k) (drop k bytes) ≡ drop (suc n * k) bytes = drop-drop (n * k) k bytes ∙ ap (λ (m : ℕ). drop m bytes) place in
    let x = from_be_bytes w (take k bytes) in
    let tail = numbers_at w n (drop k bytes) in
    let both = join bytes (to_be_bytes w x) (flat_map (to_be_bytes w) tail) (drop (n * k) (drop k bytes)) k (front_number w limit wide bytes fits there) others.parts in
    record {
      parts = both ∙ ap (λ (xs : List ℕ). (to_be_bytes w x ++ flat_map (to_be_bytes w) tail) ++ xs) rest;
      len = ap suc others.len;
      below = (wide.below (take k bytes) (IsBytes-take k bytes fits), others.below);
    }

pub numbers_again : (w : Width) (limit : ℕ) (wide : IsWide w limit) (ns : List ℕ) (rest : List ℕ) → AllByRecursion (λ x. x < limit) ns → numbers_at w (length ns) (flat_map (to_be_bytes w) ns ++ rest) ≡ ns
unfolding numbers_at
numbers_again w limit wide [] rest below = refl
numbers_again w limit wide (n ∷ ns) rest below =
    let spelled = to_be_bytes w n in
    let others = flat_map (to_be_bytes w) ns ++ rest in
    let whole : flat_map (to_be_bytes w) (n ∷ ns) ++ rest ≡ spelled ++ others = append_assoc spelled (flat_map (to_be_bytes w) ns) rest in
    let first : from_be_bytes w (take (byte_len w) (spelled ++ others)) ≡ n = ap (from_be_bytes w) (take_at spelled others (byte_len w) (wide.len n)) ∙ wide.again n below.0 in
    let next : numbers_at w (length ns) (drop (byte_len w) (spelled ++ others)) ≡ ns = ap (numbers_at w (length ns)) (drop_at spelled others (byte_len w) (wide.len n)) ∙ numbers_again w limit wide ns rest below.1 in
    ap (numbers_at w (suc (length ns))) whole ∙ ap (λ (x : ℕ). x ∷ numbers_at w (length ns) (drop (byte_len w) (spelled ++ others))) first ∙ ap (λ (xs : List ℕ). n ∷ xs) next
