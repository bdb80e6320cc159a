-- What is made of the first numbers, and what one number more adds.
use Rattle.std.proofs.Common.{◌≡◌, ◌∙◌, ℕ, zero, suc, ◌+◌, List, [], ◌∷◌, ◌++◌, ap, arith}
use Rattle.std.specs.List.{flat_map, range_with_len, sum_by}
use Rattle.std.proofs.lemmas.Grind.{flat_map-append, common_steps}
use Rattle.std.proofs.lemmas.List.Sums.{sum_by-append}

range_with_len_more : (a n : ℕ) → range_with_len a (suc n) ≡ range_with_len a n ++ (a + n) ∷ []
range_with_len_more a zero = grind arith
range_with_len_more a (suc n) =
    let later : range_with_len (a + 1) (suc n) ≡ range_with_len (a + 1) n ++ (a + 1 + n) ∷ [] = range_with_len_more (a + 1) n in
    let place : a + 1 + n ≡ a + suc n = omega arith in
    cc

numbers_more : (n : ℕ) → range_with_len 0 (suc n) ≡ range_with_len 0 n ++ n ∷ []
numbers_more n =
    let place : 0 + n ≡ n = omega arith in
    range_with_len_more 0 n ∙ ap (λ k. range_with_len 0 n ++ k ∷ []) place

pub flat_map-numbers : {X : Type 0} (f : ℕ → List X) (n : ℕ) → flat_map f (range_with_len 0 (suc n)) ≡ flat_map f (range_with_len 0 n) ++ f n
flat_map-numbers f n = ap (flat_map f) (numbers_more n) ∙ flat_map-append f (range_with_len 0 n) (n ∷ []) ∙ grind (arith, common_steps)

sum_by-numbers : (f : ℕ → ℕ) (n : ℕ) → sum_by f (range_with_len 0 (suc n)) ≡ sum_by f (range_with_len 0 n) + f n
sum_by-numbers f n = ap (sum_by f) (numbers_more n) ∙ sum_by-append f (range_with_len 0 n) (n ∷ []) ∙ grind (arith, common_steps)

-- the same with one more as a loop counts it
pub flat_map_more : {X : Type 0} (f : ℕ → List X) (n : ℕ) → flat_map f (range_with_len 0 (n + 1)) ≡ flat_map f (range_with_len 0 n) ++ f n
flat_map_more f n =
    let next : n + 1 ≡ suc n = omega arith in
    ap (λ k. flat_map f (range_with_len 0 k)) next ∙ flat_map-numbers f n

pub sum_by_more : (f : ℕ → ℕ) (n : ℕ) → sum_by f (range_with_len 0 (n + 1)) ≡ sum_by f (range_with_len 0 n) + f n
sum_by_more f n =
    let next : n + 1 ≡ suc n = omega arith in
    ap (λ k. sum_by f (range_with_len 0 k)) next ∙ sum_by-numbers f n
