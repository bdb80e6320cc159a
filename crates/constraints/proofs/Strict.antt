-- Lists in strict order: what a sort and `dedup` leave, and that such a list is known by what it holds.
use Rattle.std.proofs.Common.{◌≡◌, ℕ, ◌<◌, Bool, eqb, Some, None, Option, Ordering, nat_cmp, List, [], ◌∷◌, refl, sym, ◌∙◌, ap, subst, arith, inl, inr, ◌⊎◌}
use Rattle.std.specs.Prelude.{Contains}
use Rattle.std.specs.Cmp.{IsTotalOrder}
use Rattle.std.specs.Ordering.{eq_by_cmp, is_eq}
use Rattle.std.specs.List.{dedup, cons_option, filter_map, AllPairs}
use Rattle.std.specs.List.Sorted.{IsSorted, IsStrictlySortedBy}
use Rattle.std.specs.declared.cmp.Ordering.TheVariants.{Less}
use Rattle.std.proofs.lemmas.Cmp.{ranked, by_ranked}
use Rattle.std.proofs.lemmas.Bool.{eq-eqb, ne_eqb}
use Rattle.std.proofs.lemmas.List.Elements.{All-contains, All-from_recursion}
use Rattle.std.proofs.lemmas.List.Kept.{AllPairs-cons, IsStrictlySortedBy-dedup}
use Rattle.constraints.proofs.Members.{contains_none, contains_here, contains_next, contains_cases, AllPairs-nil, AllPairs-head, AllPairs-tail}
use Rattle.constraints.proofs.Ranked.{All-from}

-- two lists in one strict order that hold the same are one list
pub same_ordered : {X : Type 0} (S : X → X → Type 0) → ((x y : X) → S x y → S y x → ⊥) → (xs ys : List X) → AllPairs S xs → AllPairs S ys →
    ((x : X) → Contains xs x → Contains ys x) → ((x : X) → Contains ys x → Contains xs x) → xs ≡ ys
same_ordered S asym [] [] h g there back = refl
same_ordered S asym [] (y ∷ ys) h g there back = absurd (contains_none y (back y (contains_here y ys)))
same_ordered S asym (x ∷ xs) [] h g there back = absurd (contains_none x (there x (contains_here x xs)))
same_ordered {X} S asym (x ∷ xs) (y ∷ ys) h g there back = join (same_ordered S asym xs ys (AllPairs-tail S x xs h) (AllPairs-tail S y ys g))
  where
    before : (z : X) (zs : List X) → AllPairs S (z ∷ zs) → (n : X) → Contains zs n → S z n
    before z zs r n c = All-contains (S z) zs n (AllPairs-head S z zs r) c

    one : x ≡ y
    one = go (contains_cases y ys x (there x (contains_here x xs))) (contains_cases x xs y (back y (contains_here y ys)))
      where
        go : (y ≡ x) ⊎ Contains ys x → (x ≡ y) ⊎ Contains xs y → x ≡ y
        go (inl e) d = sym e
        go (inr c) (inl e) = e
        go (inr c) (inr d) = absurd (asym y x (before y ys g x c) (before x xs h y d))

    not_self : (z : X) (zs : List X) → AllPairs S (z ∷ zs) → Contains zs z → ⊥
    not_self z zs r c = let s = before z zs r z c in asym z z s s

    drop_there : (n : X) → Contains xs n → Contains ys n
    drop_there n c = go (contains_cases y ys n (there n (contains_next x xs n c)))
      where
        go : (y ≡ n) ⊎ Contains ys n → Contains ys n
        go (inl e) = absurd (not_self x xs h (let P : X → Type 0 = λ z. Contains xs z in subst P (sym (one ∙ e)) c))
        go (inr m) = m

    drop_back : (n : X) → Contains ys n → Contains xs n
    drop_back n c = go (contains_cases x xs n (back n (contains_next y ys n c)))
      where
        go : (x ≡ n) ⊎ Contains xs n → Contains xs n
        go (inl e) = absurd (not_self y ys g (let P : X → Type 0 = λ z. Contains ys z in subst P (sym (sym one ∙ e)) c))
        go (inr m) = m

    join : (((n : X) → Contains xs n → Contains ys n) → ((n : X) → Contains ys n → Contains xs n) → xs ≡ ys) → x ∷ xs ≡ y ∷ ys
    join ih = let t : xs ≡ ys = ih drop_there drop_back in let o = one in cc

-- a list that std calls strictly sorted
pub pairs-strict : {X : Type 0} (R : X → X → Ordering) (xs : List X) → IsStrictlySortedBy R xs → AllPairs (λ x y. R x y ≡ Less) xs
unfolding IsStrictlySortedBy
pairs-strict R [] h = AllPairs-nil (λ x y. R x y ≡ Less)
pairs-strict R (x ∷ xs) (a, h) = AllPairs-cons (λ x y. R x y ≡ Less) x xs (All-from_recursion (λ y. R x y ≡ Less) xs a) (pairs-strict R xs h)

-- what `dedup` leaves of a sorted list
pub deduped : {X : Type 0} {R : X → X → Ordering} (o : IsTotalOrder R) {E : X → X → Bool} (ties : (x y : X) → E x y ≡ eq_by_cmp R x y) (xs : List X) → IsSorted R xs → AllPairs (λ x y. R x y ≡ Less) (dedup E xs)
deduped {X} {R} o {E} ties xs h = pairs-strict R (dedup E xs) (IsStrictlySortedBy-dedup o ties xs h)

pub nat_ties : (m n : ℕ) → eqb m n ≡ eq_by_cmp nat_cmp m n
nat_ties m n = by_ranked (m < n) (m ≡ n) (n < m) (nat_cmp m n) (ranked m n (nat_cmp m n) refl)
    (λ e l. ne_eqb m n (λ q. absurd (omega (arith, l, q))) ∙ sym (ap is_eq e))
    (λ e q. eq-eqb m n q ∙ sym (ap is_eq e))
    (λ e l. ne_eqb m n (λ q. absurd (omega (arith, l, q))) ∙ sym (ap is_eq e))

pub nat-less : (m n : ℕ) → nat_cmp m n ≡ Less → m < n
nat-less m n h = by_ranked (m < n) (m ≡ n) (n < m) (nat_cmp m n) (ranked m n (nat_cmp m n) refl) (λ e l. l) (λ e q. cc (e, h)) (λ e l. cc (e, h))

-- what a filter by an option gives
pub of_filter_map : {X Y : Type 0} (f : X → Option Y) (xs : List X) (y : Y) → Contains (filter_map f xs) y → (x : X) × Contains xs x × (f x ≡ Some y)
of_filter_map f [] y c = absurd (contains_none y c)
of_filter_map {X} {Y} f (x ∷ xs) y c = go (f x) refl (of_filter_map f xs y)
  where
    go : (o : Option Y) → f x ≡ o → (Contains (filter_map f xs) y → (z : X) × Contains xs z × (f z ≡ Some y)) → (z : X) × Contains (x ∷ xs) z × (f z ≡ Some y)
    go None e ih =
        let P : Option Y → Type 0 = λ o. Contains (cons_option o (filter_map f xs)) y in
        let (z, m, q) = ih (subst P e c) in (z, contains_next x xs z m, q)
    go (Some w) e ih =
        let P : Option Y → Type 0 = λ o. Contains (cons_option o (filter_map f xs)) y in
        at (contains_cases w (filter_map f xs) y (subst P e c)) ih
      where
        at : (w ≡ y) ⊎ Contains (filter_map f xs) y → (Contains (filter_map f xs) y → (z : X) × Contains xs z × (f z ≡ Some y)) → (z : X) × Contains (x ∷ xs) z × (f z ≡ Some y)
        at (inl q) ih = (x, contains_here x xs, e ∙ ap Some q)
        at (inr d) ih = let (z, m, q) = ih d in (z, contains_next x xs z m, q)

pub in_filter_map : {X Y : Type 0} (f : X → Option Y) (xs : List X) (x : X) (y : Y) → Contains xs x → f x ≡ Some y → Contains (filter_map f xs) y
in_filter_map f [] x y c e = absurd (contains_none x c)
in_filter_map {X} {Y} f (z ∷ xs) x y c e = go (contains_cases z xs x c) (in_filter_map f xs x y)
  where
    go : (z ≡ x) ⊎ Contains xs x → (Contains xs x → f x ≡ Some y → Contains (filter_map f xs) y) → Contains (filter_map f (z ∷ xs)) y
    go (inl q) ih =
        let P : Option Y → Type 0 = λ o. Contains (cons_option o (filter_map f xs)) y in
        subst P (sym (ap f q ∙ e)) (contains_here y (filter_map f xs))
    go (inr m) ih = at (f z) refl (ih m e)
      where
        at : (o : Option Y) → f z ≡ o → Contains (filter_map f xs) y → Contains (filter_map f (z ∷ xs)) y
        at None q d = let P : Option Y → Type 0 = λ o. Contains (cons_option o (filter_map f xs)) y in subst P (sym q) d
        at (Some w) q d = let P : Option Y → Type 0 = λ o. Contains (cons_option o (filter_map f xs)) y in subst P (sym q) (contains_next w (filter_map f xs) y d)

pub AllPairs-filter_map : {X Y : Type 0} (f : X → Option Y) (R : X → X → Type 0) (S : Y → Y → Type 0) → (xs : List X) →
    ((x y : X) (a b : Y) → Contains xs x → Contains xs y → f x ≡ Some a → f y ≡ Some b → R x y → S a b) → AllPairs R xs → AllPairs S (filter_map f xs)
AllPairs-filter_map f R S [] step h = AllPairs-nil S
AllPairs-filter_map {X} {Y} f R S (x ∷ xs) step h = go (f x) refl (AllPairs-filter_map f R S xs (λ p q a b c d. step p q a b (contains_next x xs p c) (contains_next x xs q d)) (AllPairs-tail R x xs h))
  where
    go : (o : Option Y) → f x ≡ o → AllPairs S (filter_map f xs) → AllPairs S (filter_map f (x ∷ xs))
    go None e ih = let P : Option Y → Type 0 = λ o. AllPairs S (cons_option o (filter_map f xs)) in subst P (sym e) ih
    go (Some w) e ih =
        let P : Option Y → Type 0 = λ o. AllPairs S (cons_option o (filter_map f xs)) in
        subst P (sym e) (AllPairs-cons S w (filter_map f xs) (All-from (S w) (filter_map f xs) (λ b c.
        let (z, m, q) = of_filter_map f xs b c in
        step x z w b (contains_here x xs) (contains_next x xs z m) e q (All-contains (R x) xs z (AllPairs-head R x xs h) m))) ih)
