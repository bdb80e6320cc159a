-- What a problem of a log asks of a ranking, told of events.
use Rattle.std.proofs.Common.{◌≡◌, ℕ, suc, ◌+◌, ◌-◌, ◌<◌, ◌≤◌, true, eqb, List, [], ◌∷◌, ◌++◌, length, get_or, map, sym, ◌∙◌, ap, subst, arith, inl, inr, ◌⊎◌}
use Rattle.std.specs.Prelude.{Contains, filter, not}
use Rattle.std.specs.List.{flat_map, AllPairs, All}
use Rattle.std.proofs.lemmas.Bool.{cases_eq, cases_lt, not-true, not_from_false, eqb-false, ne_eqb}
use Rattle.std.proofs.lemmas.List.{get_or_append_left, get_or-append-add, length-append}
use Rattle.std.proofs.lemmas.List.Elements.{Contains-get_or, Contains-append_left, Contains-append_right, All-nil, All-cons, All-head, All-tail, All-append, All-contains}
use Rattle.std.proofs.lemmas.List.Kept.{AllPairs-cons}
use Rattle.plain_search.specs.declared.Edge.{Edge}
use Rattle.plain_search.specs.Edges.{Holds}
use Rattle.plain_search.specs.Chains.{arrow, links, chains_from}
use Rattle.constraints.specs.Constraints.{edges_to, edges_from}
use Rattle.constraints.proofs.Members.{contains_none, contains_here, contains_next, contains_cases, of_filter, in_filter, of_map, in_map, AllPairs-nil, AllPairs-head, AllPairs-tail}

abbrev pub Rises : (ℕ → ℕ) → Edge → Type 0
Rises rank e = rank e.from < rank e.to

-- p is q, or ranks below it
abbrev pub NotAfter : (ℕ → ℕ) → ℕ → ℕ → Type 0
NotAfter rank p q = (p ≡ q) ⊎ (rank p < rank q)

pub All-from : {X : Type 0} (P : X → Type 0) (xs : List X) → ((x : X) → Contains xs x → P x) → All P xs
All-from P xs h k d l = h (get_or xs k d) (Contains-get_or xs k d l)

pub Holds-split : (rank : ℕ → ℕ) (xs ys : List Edge) → Holds rank (xs ++ ys) → Holds rank xs × Holds rank ys
Holds-split rank xs ys h = (
  All-from (Rises rank) xs (λ e c. All-contains (Rises rank) (xs ++ ys) e h (Contains-append_left xs ys e c)),
  All-from (Rises rank) ys (λ e c. All-contains (Rises rank) (xs ++ ys) e h (Contains-append_right xs ys e c)),
)

-- edges to one position hold exactly where each of the others is not after it
pub edges_to-hold : (rank : ℕ → ℕ) (froms : List ℕ) (to : ℕ) → ((p : ℕ) → Contains froms p → NotAfter rank p to) → Holds rank (edges_to froms to)
edges_to-hold rank froms to h = All-from (Rises rank) (edges_to froms to) each
  where
    each : (e : Edge) → Contains (edges_to froms to) e → Rises rank e
    each e c =
        let (p, m, q) = of_map (λ from. arrow from to) (filter (λ from. not (eqb from to)) froms) e c in
        let (d, t) = of_filter (λ from. not (eqb from to)) froms p m in
        go p (h p d) t q
      where
        go : (p : ℕ) → NotAfter rank p to → not (eqb p to) ≡ true → arrow p to ≡ e → Rises rank e
        go p (inl s) t q = absurd (eqb-false p to (not-true (eqb p to) t) s)
        go p (inr l) t q = subst (Rises rank) q l

pub hold-edges_to : (rank : ℕ → ℕ) (froms : List ℕ) (to p : ℕ) → Holds rank (edges_to froms to) → Contains froms p → NotAfter rank p to
hold-edges_to rank froms to p h c = go (cases_eq p to)
  where
    go : (p ≡ to) ⊎ (p ≡ to → ⊥) → NotAfter rank p to
    go (inl e) = inl e
    go (inr n) =
        let m = in_filter (λ from. not (eqb from to)) froms p c (not_from_false (eqb p to) (ne_eqb p to n)) in
        let d = in_map (λ from. arrow from to) (filter (λ from. not (eqb from to)) froms) p m in
        inr (All-contains (Rises rank) (edges_to froms to) (arrow p to) h d)

-- so do edges from one position
pub edges_from-hold : (rank : ℕ → ℕ) (from : ℕ) (tos : List ℕ) → ((p : ℕ) → Contains tos p → NotAfter rank from p) → Holds rank (edges_from from tos)
edges_from-hold rank from tos h = All-from (Rises rank) (edges_from from tos) each
  where
    each : (e : Edge) → Contains (edges_from from tos) e → Rises rank e
    each e c =
        let (p, m, q) = of_map (arrow from) (filter (λ to. not (eqb from to)) tos) e c in
        let (d, t) = of_filter (λ to. not (eqb from to)) tos p m in
        go p (h p d) t q
      where
        go : (p : ℕ) → NotAfter rank from p → not (eqb from p) ≡ true → arrow from p ≡ e → Rises rank e
        go p (inl s) t q = absurd (eqb-false from p (not-true (eqb from p) t) s)
        go p (inr l) t q = subst (Rises rank) q l

pub hold-edges_from : (rank : ℕ → ℕ) (from : ℕ) (tos : List ℕ) (p : ℕ) → Holds rank (edges_from from tos) → Contains tos p → NotAfter rank from p
hold-edges_from rank from tos p h c = go (cases_eq from p)
  where
    go : (from ≡ p) ⊎ (from ≡ p → ⊥) → NotAfter rank from p
    go (inl e) = inl e
    go (inr n) =
        let m = in_filter (λ to. not (eqb from to)) tos p c (not_from_false (eqb from p) (ne_eqb from p n)) in
        let d = in_map (arrow from) (filter (λ to. not (eqb from to)) tos) p m in
        inr (All-contains (Rises rank) (edges_from from tos) (arrow from p) h d)

-- all of these are not after the one, or one of them is
pub none_after : (rank : ℕ → ℕ) (froms : List ℕ) (to : ℕ) → ((p : ℕ) → Contains froms p → NotAfter rank p to) ⊎ ((p : ℕ) × Contains froms p × (NotAfter rank p to → ⊥))
none_after rank [] to = inl (λ p c. absurd (contains_none p c))
none_after rank (x ∷ froms) to = go (none_after rank froms to) (cases_eq x to) (cases_lt (rank x) (rank to))
  where
    both : NotAfter rank x to → ((p : ℕ) → Contains froms p → NotAfter rank p to) → (p : ℕ) → Contains (x ∷ froms) p → NotAfter rank p to
    both n h p c = at (contains_cases x froms p c)
      where
        at : (x ≡ p) ⊎ Contains froms p → NotAfter rank p to
        at (inl e) = subst (λ (q : ℕ). NotAfter rank q to) e n
        at (inr m) = h p m

    add : NotAfter rank x to → ((p : ℕ) → Contains froms p → NotAfter rank p to) ⊎ ((p : ℕ) × Contains froms p × (NotAfter rank p to → ⊥)) →
        ((p : ℕ) → Contains (x ∷ froms) p → NotAfter rank p to) ⊎ ((p : ℕ) × Contains (x ∷ froms) p × (NotAfter rank p to → ⊥))
    add n (inl h) = inl (both n h)
    add n (inr (p, c, m)) = inr (p, contains_next x froms p c, m)

    go : ((p : ℕ) → Contains froms p → NotAfter rank p to) ⊎ ((p : ℕ) × Contains froms p × (NotAfter rank p to → ⊥)) → (x ≡ to) ⊎ (x ≡ to → ⊥) → (rank x < rank to) ⊎ (rank to ≤ rank x) →
        ((p : ℕ) → Contains (x ∷ froms) p → NotAfter rank p to) ⊎ ((p : ℕ) × Contains (x ∷ froms) p × (NotAfter rank p to → ⊥))
    go ih (inl e) c = add (inl e) ih
    go ih (inr n) (inl l) = add (inr l) ih
    go ih (inr n) (inr l) = inr (x, contains_here x froms, no)
      where
        no : NotAfter rank x to → ⊥
        no (inl e) = n e
        no (inr m) = absurd (omega (arith, l, m))

-- along the links of a chain ranks rise, and where they rise the links hold. The rank of position n + k is that of the k-th
-- element
abbrev pub RankedAt : {X : Type 0} → (ℕ → ℕ) → (X → ℕ) → ℕ → List X → Type 0
RankedAt {X} rank f n xs = (k : ℕ) (d : X) → k < length xs → rank (n + k) ≡ f (get_or xs k d)

ranked-next : {X : Type 0} (rank : ℕ → ℕ) (f : X → ℕ) (n : ℕ) (x : X) (xs : List X) → RankedAt rank f n (x ∷ xs) → RankedAt rank f (n + 1) xs
ranked-next rank f n x xs at k d l = ap rank (let q : (n + 1) + k ≡ n + suc k = omega arith in q) ∙ at (suc k) d (omega (arith, l))

-- the ranks at the two ends of the first link
ranked-first : {X : Type 0} (rank : ℕ → ℕ) (f : X → ℕ) (n : ℕ) (x y : X) (xs : List X) → RankedAt rank f n (x ∷ y ∷ xs) → (rank n ≡ f x) × (rank (n + 1) ≡ f y)
ranked-first rank f n x y xs at =
    let p : rank (n + 0) ≡ f x = at 0 x (omega arith) in
    let r : rank n ≡ rank (n + 0) = ap rank (omega arith) in
    (r ∙ p, at 1 x (omega arith))

links-hold : {X : Type 0} (rank : ℕ → ℕ) (f : X → ℕ) (n : ℕ) (x : X) (xs : List X) → RankedAt rank f n (x ∷ xs) → AllPairs (λ x y. f x < f y) (x ∷ xs) → Holds rank (links n (length xs))
links-hold rank f n x [] at h = All-nil (Rises rank)
links-hold {X} rank f n x (y ∷ xs) at h = All-cons (Rises rank) (arrow n (n + 1)) (links (n + 1) (length xs)) first
    (links-hold rank f (n + 1) y xs (ranked-next rank f n x (y ∷ xs) at) (AllPairs-tail (λ a b. f a < f b) x (y ∷ xs) h))
  where
    first : rank n < rank (n + 1)
    first =
        let e = ranked-first rank f n x y xs at in
        let l : f x < f y = h 0 1 x (omega arith) (omega arith) in
        omega (arith, e, l)

hold-links : {X : Type 0} (rank : ℕ → ℕ) (f : X → ℕ) (n : ℕ) (x : X) (xs : List X) → RankedAt rank f n (x ∷ xs) → Holds rank (links n (length xs)) → AllPairs (λ x y. f x < f y) (x ∷ xs)
hold-links {X} rank f n x [] at h = AllPairs-cons (λ (x y : X). f x < f y) x [] (All-nil (λ (y : X). f x < f y)) (AllPairs-nil (λ (x y : X). f x < f y))
hold-links {X} rank f n x (y ∷ xs) at h = join (hold-links rank f (n + 1) y xs (ranked-next rank f n x (y ∷ xs) at) (All-tail (Rises rank) (arrow n (n + 1)) (links (n + 1) (length xs)) h))
  where
    step : f x < f y
    step =
        let e = ranked-first rank f n x y xs at in
        let l : rank n < rank (n + 1) = All-head (Rises rank) (arrow n (n + 1)) (links (n + 1) (length xs)) h in
        omega (arith, e, l)

    join : AllPairs (λ (a b : X). f a < f b) (y ∷ xs) → AllPairs (λ (a b : X). f a < f b) (x ∷ y ∷ xs)
    join rest = AllPairs-cons (λ (a b : X). f a < f b) x (y ∷ xs)
        (All-cons (λ (b : X). f x < f b) y xs step (λ k d l. let m : f y < f (get_or xs k d) = AllPairs-head (λ (a b : X). f a < f b) y xs rest k d l in let s = step in omega (arith, m, s))) rest

-- the same past the first list
pub rest-at : {X : Type 0} (rank : ℕ → ℕ) (f : X → ℕ) (n : ℕ) (xs ys : List X) → RankedAt rank f n (xs ++ ys) → RankedAt rank f (n + length xs) ys
rest-at rank f n xs ys at k d l =
    ap rank (let q : (n + length xs) + k ≡ n + (length xs + k) = omega arith in q) ∙ at (length xs + k) d (let m = length-append xs ys in omega (arith, m, l)) ∙ ap f (get_or-append-add xs ys k d)

-- the chains of lists joined end to end hold exactly where ranks rise in each
pub chains-hold : {X T : Type 0} (rank : ℕ → ℕ) (f : X → ℕ) (g : T → List X) (n : ℕ) (ts : List T) → RankedAt rank f n (flat_map g ts) →
    ((t : T) → Contains ts t → AllPairs (λ x y. f x < f y) (g t)) → Holds rank (chains_from n (map (λ t. length (g t)) ts))
chains-hold rank f g n [] at h = All-nil (Rises rank)
chains-hold {X} {T} rank f g n (t ∷ ts) at h = All-append (Rises rank) (links n (length (g t) - 1)) (chains_from (n + length (g t)) (map (λ t. length (g t)) ts))
    (one (g t) (λ k d l. at k d (let m = length-append (g t) (flat_map g ts) in omega (arith, m, l)) ∙ ap f (get_or_append_left (g t) (flat_map g ts) d k l)) (h t (contains_here t ts)))
    (chains-hold rank f g (n + length (g t)) ts (rest-at rank f n (g t) (flat_map g ts) at) (λ u c. h u (contains_next t ts u c)))
  where
    one : (xs : List X) → RankedAt rank f n xs → AllPairs (λ x y. f x < f y) xs → Holds rank (links n (length xs - 1))
    one [] at h = All-nil (Rises rank)
    one (x ∷ xs) at h =
        let q : length {A = X} (x ∷ xs) - 1 ≡ length xs = omega arith in
        let P : ℕ → Type 0 = λ m. Holds rank (links n m) in
        subst P (sym q) (links-hold rank f n x xs at h)

pub hold-chains : {X T : Type 0} (rank : ℕ → ℕ) (f : X → ℕ) (g : T → List X) (n : ℕ) (ts : List T) → RankedAt rank f n (flat_map g ts) →
    Holds rank (chains_from n (map (λ t. length (g t)) ts)) → (t : T) → Contains ts t → AllPairs (λ x y. f x < f y) (g t)
hold-chains rank f g n [] at h t c = absurd (contains_none t c)
hold-chains {X} {T} rank f g n (u ∷ ts) at h t c = go (contains_cases u ts t c)
    (hold-chains rank f g (n + length (g u)) ts (rest-at rank f n (g u) (flat_map g ts) at) second t)
  where
    parts : Holds rank (links n (length (g u) - 1)) × Holds rank (chains_from (n + length (g u)) (map (λ t. length (g t)) ts))
    parts = Holds-split rank (links n (length (g u) - 1)) (chains_from (n + length (g u)) (map (λ t. length (g t)) ts)) h

    second : Holds rank (chains_from (n + length (g u)) (map (λ t. length (g t)) ts))
    second = parts.1

    one : (xs : List X) → RankedAt rank f n xs → Holds rank (links n (length xs - 1)) → AllPairs (λ x y. f x < f y) xs
    one [] at h = AllPairs-nil (λ (x y : X). f x < f y)
    one (x ∷ xs) at h =
        let q : length {A = X} (x ∷ xs) - 1 ≡ length xs = omega arith in
        let P : ℕ → Type 0 = λ m. Holds rank (links n m) in
        hold-links rank f n x xs at (subst P q h)

    go : (u ≡ t) ⊎ Contains ts t → (Contains ts t → AllPairs (λ x y. f x < f y) (g t)) → AllPairs (λ x y. f x < f y) (g t)
    go (inl e) ih =
        let P : T → Type 0 = λ v. AllPairs (λ x y. f x < f y) (g v) in
        subst P e (one (g u) (λ k d l. at k d (let m = length-append (g u) (flat_map g ts) in omega (arith, m, l)) ∙ ap f (get_or_append_left (g u) (flat_map g ts) d k l)) parts.0)
    go (inr m) ih = ih m
