-- Of a list along which a number does not fall, those with a number below some one stand first.
use Rattle.std.proofs.Common.{◌≡◌, ℕ, zero, suc, ◌+◌, ◌<◌, ◌≤◌, cond, List, [], ◌∷◌, length, get_or, refl, ◌∙◌, arith, inl, inr, ◌⊎◌}
use Rattle.std.specs.Prelude.{nat_lt}
use Rattle.std.specs.List.{count_by}
use Rattle.std.proofs.lemmas.Bool.{cases_lt, lt-ltb, le-ltb}
use Rattle.std.proofs.lemmas.List.Sums.{sum_by-cons}

abbrev pub IsBelow : (ℕ → ℕ) → ℕ → ℕ → ℕ
IsBelow f t p = cond (nat_lt (f p) t) 1 0

pub count-yes : (f : ℕ → ℕ) (t x : ℕ) (xs : List ℕ) → f x < t → count_by (λ p. nat_lt (f p) t) (x ∷ xs) ≡ 1 + count_by (λ p. nat_lt (f p) t) xs
count-yes f t x xs l = sum_by-cons (IsBelow f t) x xs ∙ rw (lt-ltb (f x) t l) refl

pub count-no : (f : ℕ → ℕ) (t x : ℕ) (xs : List ℕ) → t ≤ f x → count_by (λ p. nat_lt (f p) t) (x ∷ xs) ≡ count_by (λ p. nat_lt (f p) t) xs
count-no f t x xs l = sum_by-cons (IsBelow f t) x xs ∙ rw (le-ltb (f x) t l) (omega arith)

pub count-none : (f : ℕ → ℕ) (t : ℕ) (xs : List ℕ) → ((i : ℕ) → i < length xs → t ≤ f (get_or xs i 0)) → count_by (λ p. nat_lt (f p) t) xs ≡ 0
count-none f t [] h = refl
count-none f t (x ∷ xs) h = count-no f t x xs (h 0 (omega arith)) ∙ count-none f t xs (λ i l. h (suc i) (omega (arith, l)))

pub count-all : (f : ℕ → ℕ) (t : ℕ) (xs : List ℕ) → ((i : ℕ) → i < length xs → f (get_or xs i 0) < t) → count_by (λ p. nat_lt (f p) t) xs ≡ length xs
count-all f t [] h = refl
count-all f t (x ∷ xs) h =
    let a = count-yes f t x xs (h 0 (omega arith)) in
    let b = count-all f t xs (λ i l. h (suc i) (omega (arith, l))) in
    omega (arith, a, b)

pub count-more : (f : ℕ → ℕ) (t : ℕ) (xs : List ℕ) → count_by (λ p. nat_lt (f p) t) xs ≤ count_by (λ p. nat_lt (f p) (t + 1)) xs
count-more f t [] = omega arith
count-more f t (x ∷ xs) = go (count-more f t xs) (cases_lt (f x) t) (cases_lt (f x) (t + 1))
  where
    go : count_by (λ p. nat_lt (f p) t) xs ≤ count_by (λ p. nat_lt (f p) (t + 1)) xs → (f x < t) ⊎ (t ≤ f x) → (f x < t + 1) ⊎ (t + 1 ≤ f x) →
        count_by (λ p. nat_lt (f p) t) (x ∷ xs) ≤ count_by (λ p. nat_lt (f p) (t + 1)) (x ∷ xs)
    go ih (inl l) (inl m) = let a = count-yes f t x xs l in let b = count-yes f (t + 1) x xs m in omega (arith, a, b, ih)
    go ih (inl l) (inr m) = absurd (omega (arith, l, m))
    go ih (inr l) (inl m) = let a = count-no f t x xs l in let b = count-yes f (t + 1) x xs m in omega (arith, a, b, ih)
    go ih (inr l) (inr m) = let a = count-no f t x xs l in let b = count-no f (t + 1) x xs m in omega (arith, a, b, ih)

-- along the list the number does not fall
pub record NeverFalls (f : ℕ → ℕ) (xs : List ℕ) : Type 0 where
  pub along : (i j : ℕ) → i < j → j < length xs → f (get_or xs i 0) ≤ f (get_or xs j 0)

never-next : (f : ℕ → ℕ) (x : ℕ) (xs : List ℕ) → NeverFalls f (x ∷ xs) → NeverFalls f xs
never-next f x xs n = record { along = λ i j l m. n.along (suc i) (suc j) (omega (arith, l)) (omega (arith, m)) }

-- so those counted stand first, and no others
pub count-low : (f : ℕ → ℕ) (t : ℕ) (xs : List ℕ) (i : ℕ) → NeverFalls f xs → i < length xs → i < count_by (λ p. nat_lt (f p) t) xs → f (get_or xs i 0) < t
count-low f t [] i n l m = absurd (omega (arith, l))
count-low f t (x ∷ xs) i n l m = go i l m (cases_lt (f x) t) (λ j a b. count-low f t xs j (never-next f x xs n) a b)
  where
    go : (j : ℕ) → j < length (x ∷ xs) → j < count_by (λ p. nat_lt (f p) t) (x ∷ xs) → (f x < t) ⊎ (t ≤ f x) →
        ((k : ℕ) → k < length xs → k < count_by (λ p. nat_lt (f p) t) xs → f (get_or xs k 0) < t) → f (get_or (x ∷ xs) j 0) < t
    go zero a b (inl h) ih = h
    go (suc j) a b (inl h) ih = let e = count-yes f t x xs h in ih j (omega (arith, a)) (omega (arith, b, e))
    go j a b (inr h) ih =
        let e = count-no f t x xs h in
        let z = count-none f t xs (λ k l. let q = n.along 0 (suc k) (omega arith) (omega (arith, l)) in omega (arith, q, h)) in
        absurd (omega (arith, b, e, z))

pub count-high : (f : ℕ → ℕ) (t : ℕ) (xs : List ℕ) (i : ℕ) → NeverFalls f xs → i < length xs → count_by (λ p. nat_lt (f p) t) xs ≤ i → t ≤ f (get_or xs i 0)
count-high f t [] i n l m = absurd (omega (arith, l))
count-high f t (x ∷ xs) i n l m = go i l m (cases_lt (f x) t) (λ j a b. count-high f t xs j (never-next f x xs n) a b)
  where
    go : (j : ℕ) → j < length (x ∷ xs) → count_by (λ p. nat_lt (f p) t) (x ∷ xs) ≤ j → (f x < t) ⊎ (t ≤ f x) →
        ((k : ℕ) → k < length xs → count_by (λ p. nat_lt (f p) t) xs ≤ k → t ≤ f (get_or xs k 0)) → t ≤ f (get_or (x ∷ xs) j 0)
    go zero a b (inl h) ih = let e = count-yes f t x xs h in absurd (omega (arith, b, e))
    go (suc j) a b (inl h) ih = let e = count-yes f t x xs h in ih j (omega (arith, a)) (omega (arith, b, e))
    go zero a b (inr h) ih = h
    go (suc j) a b (inr h) ih = let q = n.along 0 (suc j) (omega arith) a in omega (arith, q, h)
