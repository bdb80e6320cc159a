-- What lists contain that are made of others, and lists of numbers that rise.
use Rattle.std.proofs.Common.{◌≡◌, ℕ, zero, suc, ◌+◌, ◌<◌, ◌≤◌, Bool, true, false, cond, List, [], ◌∷◌, ◌++◌, length, get_or, map, refl, sym, ap, subst, arith, inl, inr, ◌⊎◌}
use Rattle.std.specs.Prelude.{Contains, filter}
use Rattle.std.specs.List.{flat_map, range_with_len, AllPairs, All}
use Rattle.std.proofs.lemmas.Bool.{cases_Bool, cases_lt}
use Rattle.std.proofs.lemmas.List.{get_or-map, length-map}
use Rattle.std.proofs.lemmas.List.Elements.{Contains-get_or, Contains-append_left, Contains-append_right, Contains-append_cases, All-contains}
use Rattle.std.proofs.lemmas.List.FromFn.{length-range_with_len, get_or-range_with_len}
use Rattle.std.proofs.lemmas.List.Kept.{AllPairs-cons}

pub contains_none : {X : Type 0} (x : X) → Contains [] x → ⊥
contains_none x (k, l, h) = absurd (omega (arith, l))

pub contains_here : {X : Type 0} (x : X) (xs : List X) → Contains (x ∷ xs) x
contains_here x xs = (0, omega arith, refl)

pub contains_next : {X : Type 0} (y : X) (xs : List X) (x : X) → Contains xs x → Contains (y ∷ xs) x
contains_next y xs x (k, l, h) = (suc k, omega arith, h)

pub contains_cases : {X : Type 0} (y : X) (xs : List X) (x : X) → Contains (y ∷ xs) x → (y ≡ x) ⊎ Contains xs x
contains_cases y xs x (zero, l, h) = inl h
contains_cases y xs x (suc k, l, h) = inr (k, omega arith, h)

-- an element of a filtered list passes and is one of the list
pub of_filter : {X : Type 0} (p : X → Bool) (xs : List X) (x : X) → Contains (filter p xs) x → Contains xs x × (p x ≡ true)
of_filter p [] x c = absurd (contains_none x c)
of_filter {X} p (y ∷ xs) x c = go (of_filter p xs x) (cases_Bool (p y))
  where
    go : (Contains (filter p xs) x → Contains xs x × (p x ≡ true)) → (p y ≡ true) ⊎ (p y ≡ false) → Contains (y ∷ xs) x × (p x ≡ true)
    go ih (inl t) =
        let P : Bool → Type 0 = λ b. Contains (cond b (y ∷ filter p xs) (filter p xs)) x in
        at ih (contains_cases y (filter p xs) x (subst P t c))
      where
        at : (Contains (filter p xs) x → Contains xs x × (p x ≡ true)) → (y ≡ x) ⊎ Contains (filter p xs) x → Contains (y ∷ xs) x × (p x ≡ true)
        at ih (inl e) = ((0, omega arith, e), let Q : X → Type 0 = λ z. p z ≡ true in subst Q e t)
        at ih (inr d) = let (m, s) = ih d in (contains_next y xs x m, s)
    go ih (inr t) =
        let P : Bool → Type 0 = λ b. Contains (cond b (y ∷ filter p xs) (filter p xs)) x in
        let (m, s) = ih (subst P t c) in (contains_next y xs x m, s)

pub in_filter : {X : Type 0} (p : X → Bool) (xs : List X) (x : X) → Contains xs x → p x ≡ true → Contains (filter p xs) x
in_filter p [] x c t = absurd (contains_none x c)
in_filter {X} p (y ∷ xs) x c t = go (in_filter p xs x) (contains_cases y xs x c)
  where
    go : (Contains xs x → p x ≡ true → Contains (filter p xs) x) → (y ≡ x) ⊎ Contains xs x → Contains (filter p (y ∷ xs)) x
    go ih (inl e) =
        let P : X → Type 0 = λ z. p z ≡ true in
        let s : p y ≡ true = subst P (sym e) t in
        rw s (0, omega arith, e)
    go ih (inr d) = at (ih d t) (cases_Bool (p y))
      where
        at : Contains (filter p xs) x → (p y ≡ true) ⊎ (p y ≡ false) → Contains (filter p (y ∷ xs)) x
        at m (inl s) = rw s (contains_next y (filter p xs) x m)
        at m (inr s) = rw s m

pub of_map : {X Y : Type 0} (f : X → Y) (xs : List X) (y : Y) → Contains (map f xs) y → (x : X) × Contains xs x × (f x ≡ y)
of_map f [] y c = absurd (contains_none y c)
of_map {X} {Y} f (x ∷ xs) y c = go (of_map f xs y) (contains_cases (f x) (map f xs) y c)
  where
    go : (Contains (map f xs) y → (z : X) × Contains xs z × (f z ≡ y)) → (f x ≡ y) ⊎ Contains (map f xs) y → (z : X) × Contains (x ∷ xs) z × (f z ≡ y)
    go ih (inl e) = (x, contains_here x xs, e)
    go ih (inr d) = let (z, m, e) = ih d in (z, contains_next x xs z m, e)

pub in_map : {X Y : Type 0} (f : X → Y) (xs : List X) (x : X) → Contains xs x → Contains (map f xs) (f x)
in_map f [] x c = absurd (contains_none x c)
in_map {X} {Y} f (z ∷ xs) x c = go (in_map f xs x) (contains_cases z xs x c)
  where
    go : (Contains xs x → Contains (map f xs) (f x)) → (z ≡ x) ⊎ Contains xs x → Contains (f z ∷ map f xs) (f x)
    go ih (inl e) = (0, omega arith, ap f e)
    go ih (inr d) = contains_next (f z) (map f xs) (f x) (ih d)

pub of_flat_map : {X Y : Type 0} (f : X → List Y) (xs : List X) (y : Y) → Contains (flat_map f xs) y → (x : X) × Contains xs x × Contains (f x) y
of_flat_map f [] y c = absurd (contains_none y c)
of_flat_map {X} {Y} f (x ∷ xs) y c = go (of_flat_map f xs y) (Contains-append_cases (f x) (flat_map f xs) y c)
  where
    go : (Contains (flat_map f xs) y → (z : X) × Contains xs z × Contains (f z) y) → Contains (f x) y ⊎ Contains (flat_map f xs) y → (z : X) × Contains (x ∷ xs) z × Contains (f z) y
    go ih (inl d) = (x, contains_here x xs, d)
    go ih (inr d) = let (z, m, e) = ih d in (z, contains_next x xs z m, e)

pub in_flat_map : {X Y : Type 0} (f : X → List Y) (xs : List X) (x : X) (y : Y) → Contains xs x → Contains (f x) y → Contains (flat_map f xs) y
in_flat_map f [] x y c d = absurd (contains_none x c)
in_flat_map {X} {Y} f (z ∷ xs) x y c d = go (in_flat_map f xs x y) (contains_cases z xs x c)
  where
    go : (Contains xs x → Contains (f x) y → Contains (flat_map f xs) y) → (z ≡ x) ⊎ Contains xs x → Contains (f z ++ flat_map f xs) y
    go ih (inl e) = Contains-append_left (f z) (flat_map f xs) y (let P : X → Type 0 = λ w. Contains (f w) y in subst P (sym e) d)
    go ih (inr m) = Contains-append_right (f z) (flat_map f xs) y (ih m d)

pub of_range : (a n k : ℕ) → Contains (range_with_len a n) k → (a ≤ k) × (k < a + n)
of_range a n k (i, l, h) =
    let m : i < n = omega (arith, l, length-range_with_len a n) in
    let e : get_or (range_with_len a n) i k ≡ a + i = get_or-range_with_len a n i k m in
    (omega (arith, h, e), omega (arith, h, e, m))

pub in_range : (a n k : ℕ) → a ≤ k → k < a + n → Contains (range_with_len a n) k
in_range a zero k l m = absurd (omega arith)
in_range a (suc n) k l m = go (in_range (a + 1) n k) (cases_lt a k)
  where
    go : (a + 1 ≤ k → k < (a + 1) + n → Contains (range_with_len (a + 1) n) k) → (a < k) ⊎ (k ≤ a) → Contains (a ∷ range_with_len (a + 1) n) k
    go ih (inl s) = contains_next a (range_with_len (a + 1) n) k (ih (omega arith) (omega arith))
    go ih (inr s) = (0, omega arith, omega arith)

-- each number is below all later ones
abbrev pub Rising : List ℕ → Type 0
Rising xs = AllPairs (λ x y. x < y) xs

pub AllPairs-nil : {X : Type 0} (R : X → X → Type 0) → AllPairs R []
AllPairs-nil R i j d l m = absurd (omega (arith, m))

pub AllPairs-head : {X : Type 0} (R : X → X → Type 0) (x : X) (xs : List X) → AllPairs R (x ∷ xs) → All (R x) xs
AllPairs-head R x xs h k d l = h 0 (suc k) d (omega arith) (omega (arith, l))

pub AllPairs-tail : {X : Type 0} (R : X → X → Type 0) (x : X) (xs : List X) → AllPairs R (x ∷ xs) → AllPairs R xs
AllPairs-tail R x xs h i j d l m = h (suc i) (suc j) d (omega (arith, l)) (omega (arith, m))

pub AllPairs-map : {X Y : Type 0} (f : X → Y) (R : X → X → Type 0) (S : Y → Y → Type 0) → ((x y : X) → R x y → S (f x) (f y)) → (xs : List X) → AllPairs R xs → AllPairs S (map f xs)
AllPairs-map f R S step [] h = AllPairs-nil S
AllPairs-map {X} {Y} f R S step (x ∷ xs) h = AllPairs-cons S (f x) (map f xs) first (AllPairs-map f R S step xs (AllPairs-tail R x xs h))
  where
    first : All (S (f x)) (map f xs)
    first k d l =
        let m : k < length xs = omega (arith, l, length-map xs f) in
        let e : get_or (map f xs) k d ≡ f (get_or xs k x) = get_or-map f xs k x d m in
        let P : Y → Type 0 = S (f x) in
        subst P (sym e) (step x (get_or xs k x) (AllPairs-head R x xs h k x m))

pub AllPairs-append : {X : Type 0} (R : X → X → Type 0) (xs ys : List X) → AllPairs R xs → AllPairs R ys → ((x y : X) → Contains xs x → Contains ys y → R x y) → AllPairs R (xs ++ ys)
AllPairs-append R [] ys h g cross = g
AllPairs-append {X} R (x ∷ xs) ys h g cross = AllPairs-cons R x (xs ++ ys) first
    (AllPairs-append R xs ys (AllPairs-tail R x xs h) g (λ a b c d. cross a b (contains_next x xs a c) d))
  where
    first : All (R x) (xs ++ ys)
    first k d l = go (Contains-append_cases xs ys (get_or (xs ++ ys) k d) (Contains-get_or (xs ++ ys) k d l))
      where
        go : Contains xs (get_or (xs ++ ys) k d) ⊎ Contains ys (get_or (xs ++ ys) k d) → R x (get_or (xs ++ ys) k d)
        go (inl c) = All-contains (R x) xs (get_or (xs ++ ys) k d) (AllPairs-head R x xs h) c
        go (inr c) = cross x (get_or (xs ++ ys) k d) (contains_here x xs) c

-- lists joined end to end are in order where each is, and where what is in one comes before what is in a later one
pub AllPairs-flat_map : {X Y : Type 0} (f : X → List Y) (R : Y → Y → Type 0) (S : X → X → Type 0) → ((x : X) → AllPairs R (f x)) →
    ((a b : X) (x y : Y) → S a b → Contains (f a) x → Contains (f b) y → R x y) → (xs : List X) → AllPairs S xs → AllPairs R (flat_map f xs)
AllPairs-flat_map f R S each cross [] h = AllPairs-nil R
AllPairs-flat_map {X} {Y} f R S each cross (a ∷ xs) h = AllPairs-append R (f a) (flat_map f xs) (each a) (AllPairs-flat_map f R S each cross xs (AllPairs-tail S a xs h))
    (λ x y c d. let (b, m, e) = of_flat_map f xs y d in cross a b x y (All-contains (S a) xs b (AllPairs-head S a xs h) m) c e)

pub range-rising : (a n : ℕ) → Rising (range_with_len a n)
range-rising a n i j d l m =
    let k : j < n = omega (arith, m, length-range_with_len a n) in
    let p = get_or-range_with_len a n i d (let q : i < n = omega (arith, l, k) in q) in
    let q = get_or-range_with_len a n j d k in
    omega (arith, p, q, l)

-- two rising lists of the same numbers are one list
pub same_rising : (xs ys : List ℕ) → Rising xs → Rising ys → ((n : ℕ) → Contains xs n → Contains ys n) → ((n : ℕ) → Contains ys n → Contains xs n) → xs ≡ ys
same_rising [] [] h g there back = refl
same_rising [] (y ∷ ys) h g there back = absurd (contains_none y (back y (contains_here y ys)))
same_rising (x ∷ xs) [] h g there back = absurd (contains_none x (there x (contains_here x xs)))
same_rising (x ∷ xs) (y ∷ ys) h g there back = join (same_rising xs ys (AllPairs-tail (λ a b. a < b) x xs h) (AllPairs-tail (λ a b. a < b) y ys g))
  where
    least : (z : ℕ) (zs : List ℕ) → Rising (z ∷ zs) → (n : ℕ) → Contains (z ∷ zs) n → z ≤ n
    least z zs r n c = go (contains_cases z zs n c)
      where
        go : (z ≡ n) ⊎ Contains zs n → z ≤ n
        go (inl e) = omega arith
        go (inr m) = let l : z < n = All-contains (λ k. z < k) zs n (AllPairs-head (λ a b. a < b) z zs r) m in omega arith

    above : (z : ℕ) (zs : List ℕ) → Rising (z ∷ zs) → (n : ℕ) → Contains zs n → z < n
    above z zs r n c = All-contains (λ k. z < k) zs n (AllPairs-head (λ a b. a < b) z zs r) c

    one : x ≡ y
    one =
        let l : y ≤ x = least y ys g x (there x (contains_here x xs)) in
        let m : x ≤ y = least x xs h y (back y (contains_here y ys)) in
        omega (arith, l, m)

    drop_there : (n : ℕ) → Contains xs n → Contains ys n
    drop_there n c = go (contains_cases y ys n (there n (contains_next x xs n c)))
      where
        go : (y ≡ n) ⊎ Contains ys n → Contains ys n
        go (inl e) = let l = above x xs h n c in absurd (omega (arith, l, e, one))
        go (inr m) = m

    drop_back : (n : ℕ) → Contains ys n → Contains xs n
    drop_back n c = go (contains_cases x xs n (back n (contains_next y ys n c)))
      where
        go : (x ≡ n) ⊎ Contains xs n → Contains xs n
        go (inl e) = let l = above y ys g n c in absurd (omega (arith, l, e, one))
        go (inr m) = m

    join : (((n : ℕ) → Contains xs n → Contains ys n) → ((n : ℕ) → Contains ys n → Contains xs n) → xs ≡ ys) → x ∷ xs ≡ y ∷ ys
    join ih = let t : xs ≡ ys = ih drop_there drop_back in let o = one in cc
