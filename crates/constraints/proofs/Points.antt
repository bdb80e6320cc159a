-- What a partition point says: how many elements pass.
use Rattle.std.proofs.Common.{◌≡◌, ℕ, zero, suc, ◌+◌, ◌<◌, ◌≤◌, Bool, true, false, cond, ltb, List, [], ◌∷◌, length, get_or, refl, sym, ◌∙◌, ap, subst, arith, inl, inr, ◌⊎◌}
use Rattle.std.specs.Prelude.{Contains}
use Rattle.std.specs.List.{count_by}
use Rattle.std.specs.List.Sorted.{IsPartitionPoint, IsPartitionedBy}
use Rattle.std.proofs.lemmas.Bool.{cases_Bool, false_from_ne_true, cases_lt, ltb-true, lt-ltb, both_ways}
use Rattle.std.proofs.lemmas.List.Sums.{sum_by-cons, sum_by-le-sum_by}
use Rattle.std.proofs.lemmas.List.Elements.{Contains-get_or}
use Rattle.light_base.specs.declared.tag.Event.{Event}
use Rattle.constraints.specs.Positions.{IsListed}
use Rattle.constraints.specs.Building.{started_before}
use Rattle.constraints.proofs.Members.{contains_next, contains_here}
use Rattle.constraints.proofs.Listed.{Before}
use Rattle.constraints.proofs.Listing.{before-is}

pub count-yes : {X : Type 0} (p : X → Bool) (x : X) (xs : List X) → p x ≡ true → count_by p (x ∷ xs) ≡ suc (count_by p xs)
count-yes p x xs t =
    let P : Bool → Type 0 = λ b. count_by p (x ∷ xs) ≡ cond {A = ℕ} b 1 0 + count_by p xs in
    let e = subst P t (sum_by-cons (λ y. cond (p y) 1 0) x xs) in omega (arith, e)

pub count-no : {X : Type 0} (p : X → Bool) (x : X) (xs : List X) → p x ≡ false → count_by p (x ∷ xs) ≡ count_by p xs
count-no p x xs t =
    let P : Bool → Type 0 = λ b. count_by p (x ∷ xs) ≡ cond {A = ℕ} b 1 0 + count_by p xs in
    let e = subst P t (sum_by-cons (λ y. cond (p y) 1 0) x xs) in omega (arith, e)

-- the number of elements that pass is the partition point
pub point-count : {X : Type 0} (p : X → Bool) (xs : List X) (i : ℕ) → i ≤ length xs → IsPartitionPoint (λ x. p x ≡ true) (λ x. p x ≡ false) xs i → i ≡ count_by p xs
point-count p [] i l h = omega arith
point-count p (x ∷ xs) zero l (low, high) =
    let ih : 0 ≡ count_by p xs = point-count p xs 0 (omega arith) ((λ k d a b. absurd (omega (arith, b))), (λ k d a b. high (suc k) d (omega arith) (omega (arith, b)))) in
    let e = count-no p x xs (high 0 x (omega arith) (omega arith)) in
    omega (arith, ih, e)
point-count p (x ∷ xs) (suc i) l (low, high) =
    let ih : i ≡ count_by p xs = point-count p xs i (omega (arith, l)) ((λ k d a b. low (suc k) d (omega arith) (omega (arith, b))), (λ k d a b. high (suc k) d (omega (arith, a)) (omega (arith, b)))) in
    let e = count-yes p x xs (low 0 x (omega arith) (omega arith)) in
    omega (arith, ih, e)

-- events that go by thread pass the test to be of an earlier one
pub thread-partitioned : (events : List Event) (t : ℕ) → IsListed events → IsPartitionedBy (λ (e : Event). ltb e.thread t) events
thread-partitioned events t h i j d l m s = go (cases_lt i j)
  where
    u : (get_or events j d).thread < t
    u = ltb-true (get_or events j d).thread t s

    up : Before (get_or events i d) (get_or events j d) → (get_or events i d).thread < t
    up (inl k) = let v = u in omega (arith, k, v)
    up (inr (q, k)) = let v = u in omega (arith, q, v)

    go : (i < j) ⊎ (j ≤ i) → ltb (get_or events i d).thread t ≡ true
    go (inl k) = lt-ltb (get_or events i d).thread t (up (before-is (get_or events i d) (get_or events j d) (h i j d k m)))
    go (inr k) = let q : j ≡ i = omega (arith, l, k) in let P : ℕ → Type 0 = λ n. ltb (get_or events n d).thread t ≡ true in subst P q s

-- no element of a list passes, or none does past the first that fails
none-count : {X : Type 0} (p : X → Bool) (xs : List X) → ((k : ℕ) (d : X) → k < length xs → p (get_or xs k d) ≡ false) → count_by p xs ≡ 0
none-count p [] h = refl
none-count p (x ∷ xs) h = count-no p x xs (h 0 x (omega arith)) ∙ none-count p xs (λ k d l. h (suc k) d (omega (arith, l)))

-- where elements that pass come first, the number of them is a partition point
pub count-point : {X : Type 0} (p : X → Bool) (xs : List X) → IsPartitionedBy p xs → IsPartitionPoint (λ x. p x ≡ true) (λ x. p x ≡ false) xs (count_by p xs)
count-point p [] h = ((λ k d a b. absurd (omega arith)), (λ k d a b. absurd (omega (arith, b))))
count-point {X} p (x ∷ xs) h = go (cases_Bool (p x)) (count-point p xs (λ i j d l m t. h (suc i) (suc j) d (omega (arith, l)) (omega (arith, m)) t))
  where
    go : (p x ≡ true) ⊎ (p x ≡ false) → IsPartitionPoint (λ y. p y ≡ true) (λ y. p y ≡ false) xs (count_by p xs) → IsPartitionPoint (λ y. p y ≡ true) (λ y. p y ≡ false) (x ∷ xs) (count_by p (x ∷ xs))
    go (inl t) (low, high) =
        let e : suc (count_by p xs) ≡ count_by p (x ∷ xs) = sym (count-yes p x xs t) in
        let P : ℕ → Type 0 = λ n. IsPartitionPoint (λ y. p y ≡ true) (λ y. p y ≡ false) (x ∷ xs) n in
        subst P e (before, after)
      where
        before : (k : ℕ) (d : X) → 0 ≤ k → k < suc (count_by p xs) → p (get_or (x ∷ xs) k d) ≡ true
        before zero d a b = t
        before (suc k) d a b = low k d (omega arith) (omega (arith, b))

        after : (k : ℕ) (d : X) → suc (count_by p xs) ≤ k → k < length {A = X} (x ∷ xs) → p (get_or (x ∷ xs) k d) ≡ false
        after zero d a b = absurd (omega (arith, a))
        after (suc k) d a b = high k d (omega (arith, a)) (omega (arith, b))
    go (inr f) (low, high) =
        let z : count_by p xs ≡ 0 = none-count p xs (λ k d l. all (suc k) d (omega (arith, l))) in
        let e : 0 ≡ count_by p (x ∷ xs) = sym (count-no p x xs f ∙ z) in
        let P : ℕ → Type 0 = λ n. IsPartitionPoint (λ y. p y ≡ true) (λ y. p y ≡ false) (x ∷ xs) n in
        subst P e ((λ k d a b. absurd (omega (arith, b))), λ k d a b. all k d b)
      where
        all : (k : ℕ) (d : X) → k < length {A = X} (x ∷ xs) → p (get_or (x ∷ xs) k d) ≡ false
        all zero d l = f
        all (suc k) d l = false_from_ne_true (p (get_or (x ∷ xs) (suc k) d)) (λ t. both_ways (p x) f (h 0 (suc k) d (omega arith) l t))

-- a test that passes more counts more
pub count-more : {X : Type 0} (p q : X → Bool) (xs : List X) → ((x : X) → p x ≡ true → q x ≡ true) → count_by p xs ≤ count_by q xs
count-more {X} p q xs h = sum_by-le-sum_by (λ x. cond (p x) 1 0) (λ x. cond (q x) 1 0) xs (λ x. step x (cases_Bool (p x)))
  where
    step : (x : X) → (p x ≡ true) ⊎ (p x ≡ false) → cond (p x) 1 0 ≤ cond {A = ℕ} (q x) 1 0
    step x (inl t) = rw (t, h x t) (omega arith)
    step x (inr t) = rw t (omega arith)

-- a test that fails everywhere counts nothing, and one that passes everywhere counts all
pub count-none : {X : Type 0} (p : X → Bool) (xs : List X) → ((x : X) → Contains xs x → p x ≡ false) → count_by p xs ≡ 0
count-none p xs h = none-count p xs (λ k d l. h (get_or xs k d) (Contains-get_or xs k d l))

pub count-all : {X : Type 0} (p : X → Bool) (xs : List X) → ((x : X) → Contains xs x → p x ≡ true) → count_by p xs ≡ length xs
count-all p [] h = refl
count-all p (x ∷ xs) h = count-yes p x xs (h x (contains_here x xs)) ∙ ap suc (count-all p xs (λ y c. h y (contains_next x xs y c)))

pub starts_rise : (events : List Event) (t : ℕ) → started_before events t ≤ started_before events (t + 1)
starts_rise events t = count-more (λ (e : Event). ltb e.thread t) (λ (e : Event). ltb e.thread (t + 1)) events
    (λ e h. let l = ltb-true e.thread t h in lt-ltb e.thread (t + 1) (omega (arith, l)))
