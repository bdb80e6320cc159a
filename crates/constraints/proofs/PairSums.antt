-- Sums over each two of a list, and what two rising lists share.
use Rattle.std.proofs.Common.{◌≡◌, ℕ, zero, suc, ◌+◌, ◌-◌, ◌*◌, ◌/◌, ◌^◌, ◌<◌, ◌≤◌, Bool, true, false, cond, ◌&&◌, ◌||◌, eqb, ltb, leb, List, [], ◌∷◌, length, map, refl, sym, ◌∙◌, ap, subst, arith, inl, inr, ◌⊎◌}
use Rattle.std.specs.Prelude.{Contains, max, min, filter, not}
use Rattle.std.specs.List.{sum_by, count_by, list_any}
use Rattle.std.proofs.lemmas.Bool.{cases_Bool, cases_lt, cases_eq, cases_order, ltb-true, lt-ltb, le-ltb, leb-true, le-leb, lt-leb, eqb-true, eq-eqb, ne_eqb}
use Rattle.std.proofs.lemmas.List.{length-map}
use Rattle.std.proofs.lemmas.List.Sums.{sum_by-cons, length-filter}
use Rattle.std.proofs.lemmas.List.Elements.{All-contains}
use Rattle.std.proofs.Math.Nat.{mul-le-mul, mul_comm, suc-mul, mul-suc, add-mul-div_right, max-eq_left, max-eq_right, min-eq_left, min-eq_right}
use Rattle.replay_model.proofs.Tags.{any-element}
use Rattle.constraints.specs.SideEdges.{pair_count, sum_pairs, has, count_up_to, more_reads, shortens, shortening}
use Rattle.plain_search.specs.Chains.{arrow}
use Rattle.constraints.specs.Constraints.{edges_to}
use Rattle.constraints.proofs.Members.{Rising, contains_none, contains_here, contains_next, AllPairs-head, AllPairs-tail}
use Rattle.constraints.proofs.Points.{count-yes, count-no, count-none}

sum-add : {X : Type 0} (f g : X → ℕ) (xs : List X) → sum_by (λ x. f x + g x) xs ≡ sum_by f xs + sum_by g xs
sum-add f g [] = refl
sum-add f g (x ∷ xs) =
    let a = sum_by-cons (λ y. f y + g y) x xs in
    let b = sum_by-cons f x xs in
    let c = sum_by-cons g x xs in
    let ih = sum-add f g xs in
    omega (arith, a, b, c, ih)

pub sum-agree : {X : Type 0} (f g : X → ℕ) (xs : List X) → ((x : X) → Contains xs x → f x ≡ g x) → sum_by f xs ≡ sum_by g xs
sum-agree f g [] h = refl
sum-agree f g (x ∷ xs) h =
    let a = sum_by-cons f x xs in
    let b = sum_by-cons g x xs in
    let c = h x (contains_here x xs) in
    let ih = sum-agree f g xs (λ y d. h y (contains_next x xs y d)) in
    omega (arith, a, b, c, ih)

pairs-add : (f g : ℕ → ℕ → ℕ) (xs : List ℕ) → sum_pairs (λ s t. f s t + g s t) xs ≡ sum_pairs f xs + sum_pairs g xs
pairs-add f g [] = refl
pairs-add f g (x ∷ xs) =
    let a = sum-add (f x) (g x) xs in
    let ih = pairs-add f g xs in
    omega (arith, a, ih)

-- of rising numbers only the pairs count whose first is the lesser
pub pairs-agree : (f g : ℕ → ℕ → ℕ) (xs : List ℕ) → Rising xs → ((s t : ℕ) → s < t → f s t ≡ g s t) → sum_pairs f xs ≡ sum_pairs g xs
pairs-agree f g [] r h = refl
pairs-agree f g (x ∷ xs) r h =
    let a = sum-agree (f x) (g x) xs (λ t c. h x t (All-contains (λ b. x < b) xs t (AllPairs-head (λ a b. a < b) x xs r) c)) in
    let ih = pairs-agree f g xs (AllPairs-tail (λ a b. a < b) x xs r) h in
    omega (arith, a, ih)

-- over each two in both directions: over each with each
pairs-both : (f : ℕ → ℕ → ℕ) → ((s : ℕ) → f s s ≡ 0) → (xs : List ℕ) → sum_pairs (λ s t. f s t + f t s) xs ≡ sum_by (λ s. sum_by (f s) xs) xs
pairs-both f none [] = refl
pairs-both f none (x ∷ xs) =
    let a = sum-add (f x) (λ t. f t x) xs in
    let b = sum_by-cons (λ s. sum_by (f s) (x ∷ xs)) x xs in
    let c = sum_by-cons (f x) x xs in
    let d = sum-agree (λ s. sum_by (f s) (x ∷ xs)) (λ s. f s x + sum_by (f s) xs) xs (λ s m. sum_by-cons (f s) x xs) in
    let e = sum-add (λ s. f s x) (λ s. sum_by (f s) xs) xs in
    let n = none x in
    let ih = pairs-both f none xs in
    omega (arith, a, b, c, d, e, n, ih)

pair_count-suc : (n : ℕ) → pair_count (suc n) ≡ pair_count n + n
pair_count-suc zero = refl
pair_count-suc (suc m) =
    let a : suc (suc m) * suc m ≡ suc m * suc m + suc m = suc-mul (suc m) (suc m) in
    let b : suc m * suc m ≡ suc m * m + suc m = mul-suc (suc m) m in
    let d : suc (suc m) - 1 ≡ suc m = omega arith in
    let e : suc m - 1 ≡ m = omega arith in
    let p : suc (suc m) * (suc (suc m) - 1) ≡ suc (suc m) * suc m = ap (λ k. suc (suc m) * k) d in
    let q : suc m * (suc m - 1) ≡ suc m * m = ap (λ k. suc m * k) e in
    let s : suc (suc m) * (suc (suc m) - 1) ≡ suc m * (suc m - 1) + suc m * 2 = omega (arith, a, b, p, q) in
    ap (λ k. k / 2) s ∙ add-mul-div_right (suc m * (suc m - 1)) (suc m) {z = 2} (omega arith)

pub pair_count-small : (n : ℕ) → n < 2 ^ 20 → (n * (n - 1) < 2 ^ 64) × (pair_count n < 2 ^ 39)
pair_count-small n l =
    let a : n * (n - 1) ≤ 1048575 * 1048574 = mul-le-mul {n₂ = 1048575} {m₂ = 1048574} (omega (arith, l)) (omega (arith, l)) in
    (omega (arith, a), omega (arith, a))

-- the pairs with one at least that fails the test, and those of the others, are all
pub pairs-short : (p : ℕ → Bool) (xs : List ℕ) → sum_pairs (λ s t. cond (p s && p t) 0 1) xs + pair_count (count_by p xs) ≡ pair_count (length xs)
pairs-short p [] = refl
pairs-short p (x ∷ xs) = go (cases_Bool (p x)) (pairs-short p xs)
  where
    rest : ℕ
    rest = sum_pairs (λ s t. cond (p s && p t) 0 1) xs

    ones : (ys : List ℕ) → sum_by (λ t. 1) ys ≡ length ys
    ones [] = refl
    ones (y ∷ ys) = let a = sum_by-cons (λ (t : ℕ). 1) y ys in let ih = ones ys in omega (arith, a, ih)

    others : (ys : List ℕ) → sum_by (λ t. cond (p t) 0 1) ys + count_by p ys ≡ length ys
    others [] = refl
    others (y ∷ ys) = step (cases_Bool (p y)) (others ys)
      where
        step : (p y ≡ true) ⊎ (p y ≡ false) → sum_by (λ t. cond (p t) 0 1) ys + count_by p ys ≡ length ys → sum_by (λ t. cond (p t) 0 1) (y ∷ ys) + count_by p (y ∷ ys) ≡ length (y ∷ ys)
        step (inl h) ih =
            let a = sum_by-cons (λ t. cond (p t) 0 1) y ys in
            let b = count-yes p y ys h in
            let c : cond (p y) 0 1 ≡ 0 = ap (λ (v : Bool). cond {A = ℕ} v 0 1) h in
            omega (arith, a, b, c, ih)
        step (inr h) ih =
            let a = sum_by-cons (λ t. cond (p t) 0 1) y ys in
            let b = count-no p y ys h in
            let c : cond (p y) 0 1 ≡ 1 = ap (λ (v : Bool). cond {A = ℕ} v 0 1) h in
            omega (arith, a, b, c, ih)

    go : (p x ≡ true) ⊎ (p x ≡ false) → sum_pairs (λ s t. cond (p s && p t) 0 1) xs + pair_count (count_by p xs) ≡ pair_count (length xs) →
        sum_pairs (λ s t. cond (p s && p t) 0 1) (x ∷ xs) + pair_count (count_by p (x ∷ xs)) ≡ pair_count (length (x ∷ xs))
    go (inl h) ih =
        let a = sum-agree (λ t. cond (p x && p t) 0 1) (λ t. cond {A = ℕ} (p t) 0 1) xs (λ t c. ap (λ (v : Bool). cond {A = ℕ} (v && p t) 0 1) h) in
        let b = ap pair_count (count-yes p x xs h) in
        let c = pair_count-suc (count_by p xs) in
        let d = pair_count-suc (length xs) in
        let e = others xs in
        omega (arith, a, b, c, d, e, ih)
    go (inr h) ih =
        let a = sum-agree (λ t. cond (p x && p t) 0 1) (λ (t : ℕ). 1) xs (λ t c. ap (λ (v : Bool). cond {A = ℕ} (v && p t) 0 1) h) in
        let b = ap pair_count (count-no p x xs h) in
        let d = pair_count-suc (length xs) in
        let e = ones xs in
        omega (arith, a, b, d, e, ih)

-- the greater of two numbers, up to a bound, and up to the next one
capped : (a b k : ℕ) → min (max a b) (k + 1) ≡ min (max a b) k + cond (leb a k && leb b k) 0 1
capped a b k = go (cases_lt k a) (cases_lt k b) (cases_lt a b)
  where
    low : (m : ℕ) → max a b ≡ m → m ≤ k → leb a k ≡ true → leb b k ≡ true → min (max a b) (k + 1) ≡ min (max a b) k + cond (leb a k && leb b k) 0 1
    low m e l p q =
        let x : min (max a b) (k + 1) ≡ m = ap (λ n. min n (k + 1)) e ∙ min-eq_left (omega (arith, l)) in
        let y : min (max a b) k ≡ m = ap (λ n. min n k) e ∙ min-eq_left l in
        let z : cond {A = ℕ} (leb a k && leb b k) 0 1 ≡ 0 = ap (λ (v : Bool). cond {A = ℕ} (v && leb b k) 0 1) p ∙ ap (λ (v : Bool). cond {A = ℕ} v 0 1) q in
        omega (arith, x, y, z)

    high : (m : ℕ) → max a b ≡ m → k < m → cond {A = ℕ} (leb a k && leb b k) 0 1 ≡ 1 → min (max a b) (k + 1) ≡ min (max a b) k + cond (leb a k && leb b k) 0 1
    high m e l z =
        let x : min (max a b) (k + 1) ≡ k + 1 = ap (λ n. min n (k + 1)) e ∙ min-eq_right (omega (arith, l)) in
        let y : min (max a b) k ≡ k = ap (λ n. min n k) e ∙ min-eq_right (omega (arith, l)) in
        omega (arith, x, y, z)

    first : k < a → cond {A = ℕ} (leb a k && leb b k) 0 1 ≡ 1
    first l = ap (λ (v : Bool). cond {A = ℕ} (v && leb b k) 0 1) (lt-leb a k l)

    second : leb a k ≡ true → k < b → cond {A = ℕ} (leb a k && leb b k) 0 1 ≡ 1
    second p l = ap (λ (v : Bool). cond {A = ℕ} (v && leb b k) 0 1) p ∙ ap (λ (v : Bool). cond {A = ℕ} v 0 1) (lt-leb b k l)

    go : (k < a) ⊎ (a ≤ k) → (k < b) ⊎ (b ≤ k) → (a < b) ⊎ (b ≤ a) → min (max a b) (k + 1) ≡ min (max a b) k + cond (leb a k && leb b k) 0 1
    go (inl l) m (inl o) = high b (max-eq_right (omega (arith, o))) (omega (arith, l, o)) (first l)
    go (inl l) m (inr o) = high a (max-eq_left o) l (first l)
    go (inr l) (inl m) (inl o) = high b (max-eq_right (omega (arith, o))) m (second (le-leb a k l) m)
    go (inr l) (inl m) (inr o) = absurd (omega (arith, l, m, o))
    go (inr l) (inr m) (inl o) = low b (max-eq_right (omega (arith, o))) m (le-leb a k l) (le-leb b k m)
    go (inr l) (inr m) (inr o) = low a (max-eq_left o) l (le-leb a k l) (le-leb b k m)

-- the sum of the greater numbers, each up to a bound
abbrev pub capped_reads : (ℕ → List ℕ) → ℕ → ℕ → ℕ → ℕ
capped_reads last_reads k s t = min (more_reads last_reads s t) k

pub capped-none : (last_reads : ℕ → List ℕ) (xs : List ℕ) → sum_pairs (capped_reads last_reads 0) xs ≡ 0
capped-none last_reads [] = refl
capped-none last_reads (x ∷ xs) = let a = sum-agree (capped_reads last_reads 0 x) (λ (t : ℕ). 0) xs (λ t c. min-eq_right (omega arith)) in let z = zeros xs in let ih = capped-none last_reads xs in omega (arith, a, z, ih)
  where
    zeros : (ys : List ℕ) → sum_by (λ (t : ℕ). 0) ys ≡ 0
    zeros [] = refl
    zeros (y ∷ ys) = let a = sum_by-cons (λ (t : ℕ). 0) y ys in let ih = zeros ys in omega (arith, a, ih)

-- the next bound lets one more of each pair count in which one source has more last reads
pub capped-next : (last_reads : ℕ → List ℕ) (xs : List ℕ) (k : ℕ) →
    sum_pairs (capped_reads last_reads (k + 1)) xs + pair_count (count_up_to last_reads xs k) ≡ sum_pairs (capped_reads last_reads k) xs + pair_count (length xs)
capped-next last_reads xs k =
    let step = λ (s t : ℕ). cond {A = ℕ} (leb (length (last_reads s)) k && leb (length (last_reads t)) k) 0 1 in
    let a = same xs in
    let b = pairs-add (capped_reads last_reads k) (λ s t. cond {A = ℕ} (leb (length (last_reads s)) k && leb (length (last_reads t)) k) 0 1) xs in
    let c = pairs-short (λ s. leb (length (last_reads s)) k) xs in
    omega (arith, a, b, c)
  where
    same : (ys : List ℕ) → sum_pairs (capped_reads last_reads (k + 1)) ys ≡ sum_pairs (λ s t. capped_reads last_reads k s t + cond {A = ℕ} (leb (length (last_reads s)) k && leb (length (last_reads t)) k) 0 1) ys
    same [] = refl
    same (y ∷ ys) =
        let a = sum-agree (capped_reads last_reads (k + 1) y) (λ t. capped_reads last_reads k y t + cond {A = ℕ} (leb (length (last_reads y)) k && leb (length (last_reads t)) k) 0 1) ys
        (λ t c. capped (length (last_reads y)) (length (last_reads t)) k) in
        let ih = same ys in
        omega (arith, a, ih)

-- a bound that no source passes takes nothing
pub capped-all : (last_reads : ℕ → List ℕ) (xs : List ℕ) (k : ℕ) → ((s : ℕ) → Contains xs s → length (last_reads s) ≤ k) → sum_pairs (capped_reads last_reads k) xs ≡ sum_pairs (more_reads last_reads) xs
capped-all last_reads [] k h = refl
capped-all last_reads (x ∷ xs) k h =
    let a = sum-agree (capped_reads last_reads k x) (more_reads last_reads x) xs (λ t c. min-eq_left (both (length (last_reads x)) (length (last_reads t)) (h x (contains_here x xs)) (h t (contains_next x xs t c)))) in
    let ih = capped-all last_reads xs k (λ s c. h s (contains_next x xs s c)) in
    omega (arith, a, ih)
  where
    both : (a b : ℕ) → a ≤ k → b ≤ k → max a b ≤ k
    both a b l m = go (cases_lt a b)
      where
        go : (a < b) ⊎ (b ≤ a) → max a b ≤ k
        go (inl o) = let e : max a b ≡ b = max-eq_right (omega (arith, o)) in omega (arith, e, m)
        go (inr o) = let e : max a b ≡ a = max-eq_left o in omega (arith, e, l)

-- a number stands in a rising list once at most
one-count : (q : ℕ → Bool) (x : ℕ) (ys : List ℕ) → Rising ys → count_by (λ y. eqb y x && q y) ys ≡ cond (has ys x && q x) 1 0
one-count q x [] r = refl
one-count q x (y ∷ ys) r = go (cases_eq y x) (cases_Bool (q x)) (one-count q x ys (AllPairs-tail (λ a b. a < b) y ys r))
  where
    test : ℕ → Bool
    test z = eqb z x && q z

    later : (z : ℕ) → Contains ys z → y < z
    later z c = All-contains (λ b. y < b) ys z (AllPairs-head (λ a b. a < b) y ys r) c

    go : (y ≡ x) ⊎ (y ≡ x → ⊥) → (q x ≡ true) ⊎ (q x ≡ false) → count_by (λ z. eqb z x && q z) ys ≡ cond (has ys x && q x) 1 0 → count_by (λ z. eqb z x && q z) (y ∷ ys) ≡ cond (has (y ∷ ys) x && q x) 1 0
    go (inl e) (inl t) ih =
        let h : eqb y x ≡ true = eq-eqb y x e in
        let a : (eqb y x && q y) ≡ true = ap (λ (v : Bool). v && q y) h ∙ ap q e ∙ t in
        let b = count-yes (λ z. eqb z x && q z) y ys a in
        let c = count-none (λ z. eqb z x && q z) ys (λ z m. let l = later z m in ap (λ (v : Bool). v && q z) (ne_eqb z x (λ w. absurd (omega (arith, l, e, w))))) in
        let d : cond (has (y ∷ ys) x && q x) 1 0 ≡ 1 = ap (λ (v : Bool). cond {A = ℕ} ((v || has ys x) && q x) 1 0) h ∙ ap (λ (v : Bool). cond {A = ℕ} v 1 0) t in
        omega (arith, b, c, d)
    go (inl e) (inr t) ih =
        let h : eqb y x ≡ true = eq-eqb y x e in
        let a : (eqb y x && q y) ≡ false = ap (λ (v : Bool). v && q y) h ∙ ap q e ∙ t in
        let b = count-no (λ z. eqb z x && q z) y ys a in
        let c = count-none (λ z. eqb z x && q z) ys (λ z m. let l = later z m in ap (λ (v : Bool). v && q z) (ne_eqb z x (λ w. absurd (omega (arith, l, e, w))))) in
        let d : cond (has (y ∷ ys) x && q x) 1 0 ≡ 0 = ap (λ (v : Bool). cond {A = ℕ} ((v || has ys x) && q x) 1 0) h ∙ ap (λ (v : Bool). cond {A = ℕ} v 1 0) t in
        omega (arith, b, c, d)
    go (inr n) t ih =
        let h : eqb y x ≡ false = ne_eqb y x n in
        let a : (eqb y x && q y) ≡ false = ap (λ (v : Bool). v && q y) h in
        let b = count-no (λ z. eqb z x && q z) y ys a in
        let d : cond (has (y ∷ ys) x && q x) 1 0 ≡ cond (has ys x && q x) 1 0 = ap (λ (v : Bool). cond {A = ℕ} ((v || has ys x) && q x) 1 0) h in
        b ∙ ih ∙ sym d

-- what two rising lists share can be counted along either
shared : (q : ℕ → Bool) (xs ys : List ℕ) → Rising xs → Rising ys → count_by (λ x. has ys x && q x) xs ≡ count_by (λ y. has xs y && q y) ys
shared q [] ys r s = sym (count-none (λ y. has [] y && q y) ys (λ y c. refl))
shared q (x ∷ xs) ys r s =
    let a = sum_by-cons (λ z. cond {A = ℕ} (has ys z && q z) 1 0) x xs in
    let b = one-count q x ys s in
    let ih = shared q xs ys (AllPairs-tail (λ a b. a < b) x xs r) s in
    let c = split ys in
    omega (arith, a, b, ih, c)
  where
    apart : (y : ℕ) → cond ((eqb x y || has xs y) && q y) 1 0 ≡ cond (eqb y x && q y) 1 0 + cond {A = ℕ} (has xs y && q y) 1 0
    apart y = go (cases_eq y x) (cases_Bool (has xs y))
      where
        go : (y ≡ x) ⊎ (y ≡ x → ⊥) → (has xs y ≡ true) ⊎ (has xs y ≡ false) → cond ((eqb x y || has xs y) && q y) 1 0 ≡ cond (eqb y x && q y) 1 0 + cond {A = ℕ} (has xs y && q y) 1 0
        go (inl e) (inl t) = absurd (twice e t)
          where
            twice : y ≡ x → has xs y ≡ true → ⊥
            twice e t =
                let (z, c, h) = any-element (λ z. eqb z y) xs t in
                let w = eqb-true z y h in
                let l = All-contains (λ b. x < b) xs z (AllPairs-head (λ a b. a < b) x xs r) c in
                omega (arith, e, w, l)
        go (inl e) (inr t) = rw (eq-eqb x y (sym e), eq-eqb y x e, t) (omega arith)
        go (inr n) t = rw (ne_eqb x y (λ w. n (sym w)), ne_eqb y x n) (omega arith)

    split : (zs : List ℕ) → count_by (λ y. has (x ∷ xs) y && q y) zs ≡ count_by (λ y. eqb y x && q y) zs + count_by (λ y. has xs y && q y) zs
    split zs = sum-agree (λ y. cond {A = ℕ} (has (x ∷ xs) y && q y) 1 0) (λ y. cond (eqb y x && q y) 1 0 + cond {A = ℕ} (has xs y && q y) 1 0) zs (λ y c. apart y) ∙
        sum-add (λ y. cond {A = ℕ} (eqb y x && q y) 1 0) (λ y. cond {A = ℕ} (has xs y && q y) 1 0) zs

-- a side has an edge from each last read, but for the source that it leads to
side-length : (froms : List ℕ) (to : ℕ) → Rising froms → length (edges_to froms to) + cond (has froms to) 1 0 ≡ length froms
side-length froms to r =
    let a = length-map (filter (λ from. not (eqb from to)) froms) (λ from. arrow from to) in
    let b = length-filter (λ from. not (eqb from to)) froms in
    let c = one-count (λ from. true) to froms r in
    let d = two froms in
    let e : cond (has froms to && true) 1 0 ≡ cond {A = ℕ} (has froms to) 1 0 = ap (λ (v : Bool). cond {A = ℕ} v 1 0) (and-true (has froms to)) in
    omega (arith, a, b, c, d, e)
  where
    and-true : (v : Bool) → (v && true) ≡ v
    and-true true = refl
    and-true false = refl

    two : (ys : List ℕ) → count_by (λ y. not (eqb y to)) ys + count_by (λ y. eqb y to && true) ys ≡ length ys
    two [] = refl
    two (y ∷ ys) =
        let a = sum_by-cons (λ z. cond {A = ℕ} (not (eqb z to)) 1 0) y ys in
        let b = sum_by-cons (λ z. cond {A = ℕ} (eqb z to && true) 1 0) y ys in
        let c = either (eqb y to) in
        let ih = two ys in
        omega (arith, a, b, c, ih)
      where
        either : (v : Bool) → cond (not v) 1 0 + cond {A = ℕ} (v && true) 1 0 ≡ 1
        either true = refl
        either false = refl

-- one for a source that is a last read of another, and shortens the longer side of the two
abbrev pub crossing : (ℕ → List ℕ) → ℕ → ℕ → ℕ
crossing last_reads s t = cond (has (last_reads s) t && shortens (last_reads s) s (last_reads t) t) 1 0

crossing-none : (last_reads : ℕ → List ℕ) (s : ℕ) → crossing last_reads s s ≡ 0
crossing-none last_reads s = never (has (last_reads s) s) (shortens (last_reads s) s (last_reads s) s) short
  where
    n : ℕ
    n = length (last_reads s)

    never : (u v : Bool) → v ≡ false → cond {A = ℕ} (u && v) 1 0 ≡ 0
    never true v h = ap (λ (w : Bool). cond {A = ℕ} w 1 0) h
    never false v h = refl

    short : shortens (last_reads s) s (last_reads s) s ≡ false
    short = rw (le-ltb (length (last_reads s)) (length (last_reads s)) (omega arith), le-ltb s s (omega arith), eq-eqb (length (last_reads s)) (length (last_reads s)) refl) refl

-- the longer side of a pair is shorter than the longer list of last reads by what its sources take from it
mended : (last_reads : ℕ → List ℕ) → ((s : ℕ) → Rising (last_reads s)) → (s t : ℕ) → s < t →
    max (length (edges_to (last_reads s) t)) (length (edges_to (last_reads t) s)) + (crossing last_reads s t + crossing last_reads t s) ≡ more_reads last_reads s t
mended last_reads rising s t l = by (length (edges_to (last_reads s) t)) (length (edges_to (last_reads t) s)) (length (last_reads s)) (length (last_reads t)) (has (last_reads s) t) (has (last_reads t) s)
    (side-length (last_reads s) t (rising s)) (side-length (last_reads t) s (rising t))
  where
    up : ltb s t ≡ true
    up = lt-ltb s t l

    down : ltb t s ≡ false
    down = le-ltb t s (omega (arith, l))

    by : (a b m n : ℕ) (u v : Bool) → a + cond u 1 0 ≡ m → b + cond v 1 0 ≡ n →
        max a b + (cond (u && (ltb n m || (eqb n m && (ltb s t && v)))) 1 0 + cond (v && (ltb m n || (eqb m n && (ltb t s && u)))) 1 0) ≡ max m n
    by a b m n u v e f = go (cases_order m n) u v e f
      where
        same : m ≡ n → (u v : Bool) → a + cond u 1 0 ≡ m → b + cond v 1 0 ≡ n → max a b + (cond (u && (ltb n m || (eqb n m && (ltb s t && v)))) 1 0 + cond (v && (ltb m n || (eqb m n && (ltb t s && u)))) 1 0) ≡ max m n
        same q true true e f = rw (le-ltb n m (omega (arith, q)), le-ltb m n (omega (arith, q)), eq-eqb n m (sym q), eq-eqb m n q, up, down)
            (let x : max a b ≡ a = max-eq_left (omega (arith, e, f, q)) in let y : max m n ≡ m = max-eq_left (omega (arith, q)) in omega (arith, x, y, e))
        same q true false e f = rw (le-ltb n m (omega (arith, q)), eq-eqb n m (sym q), up)
            (let x : max a b ≡ b = max-eq_right (omega (arith, e, f, q)) in let y : max m n ≡ n = max-eq_right (omega (arith, q)) in omega (arith, x, y, f))
        same q false true e f = rw (le-ltb m n (omega (arith, q)), eq-eqb m n q, down)
            (let x : max a b ≡ a = max-eq_left (omega (arith, e, f, q)) in let y : max m n ≡ m = max-eq_left (omega (arith, q)) in omega (arith, x, y, e))
        same q false false e f =
            let x : max a b ≡ a = max-eq_left (omega (arith, e, f, q)) in let y : max m n ≡ m = max-eq_left (omega (arith, q)) in omega (arith, x, y, e)

        below : m < n → (u v : Bool) → a + cond u 1 0 ≡ m → b + cond v 1 0 ≡ n → max a b + (cond (u && (ltb n m || (eqb n m && (ltb s t && v)))) 1 0 + cond (v && (ltb m n || (eqb m n && (ltb t s && u)))) 1 0) ≡ max m n
        below k u v e f =
            let x : max a b ≡ b = max-eq_right (under u v e f) in
            let y : max m n ≡ n = max-eq_right (omega (arith, k)) in
            let z = taken u v in
            omega (arith, x, y, z, f)
          where
            under : (u v : Bool) → a + cond u 1 0 ≡ m → b + cond v 1 0 ≡ n → a ≤ b
            under true true e f = omega (arith, e, f, k)
            under true false e f = omega (arith, e, f, k)
            under false true e f = omega (arith, e, f, k)
            under false false e f = omega (arith, e, f, k)

            taken : (u v : Bool) → cond (u && (ltb n m || (eqb n m && (ltb s t && v)))) 1 0 + cond (v && (ltb m n || (eqb m n && (ltb t s && u)))) 1 0 ≡ cond {A = ℕ} v 1 0
            taken true true = rw (le-ltb n m (omega (arith, k)), ne_eqb n m (λ w. absurd (omega (arith, w, k))), lt-ltb m n k) refl
            taken true false = rw (le-ltb n m (omega (arith, k)), ne_eqb n m (λ w. absurd (omega (arith, w, k)))) refl
            taken false true = rw (lt-ltb m n k) refl
            taken false false = refl

        above : n < m → (u v : Bool) → a + cond u 1 0 ≡ m → b + cond v 1 0 ≡ n → max a b + (cond (u && (ltb n m || (eqb n m && (ltb s t && v)))) 1 0 + cond (v && (ltb m n || (eqb m n && (ltb t s && u)))) 1 0) ≡ max m n
        above k u v e f =
            let x : max a b ≡ a = max-eq_left (under u v e f) in
            let y : max m n ≡ m = max-eq_left (omega (arith, k)) in
            let z = taken u v in
            omega (arith, x, y, z, e)
          where
            under : (u v : Bool) → a + cond u 1 0 ≡ m → b + cond v 1 0 ≡ n → b ≤ a
            under true true e f = omega (arith, e, f, k)
            under true false e f = omega (arith, e, f, k)
            under false true e f = omega (arith, e, f, k)
            under false false e f = omega (arith, e, f, k)

            taken : (u v : Bool) → cond (u && (ltb n m || (eqb n m && (ltb s t && v)))) 1 0 + cond (v && (ltb m n || (eqb m n && (ltb t s && u)))) 1 0 ≡ cond {A = ℕ} u 1 0
            taken true true = rw (le-ltb m n (omega (arith, k)), ne_eqb m n (λ w. absurd (omega (arith, w, k))), lt-ltb n m k) refl
            taken false true = rw (le-ltb m n (omega (arith, k)), ne_eqb m n (λ w. absurd (omega (arith, w, k)))) refl
            taken true false = rw (lt-ltb n m k) refl
            taken false false = refl

        go : (m ≡ n) ⊎ ((m < n) ⊎ (n < m)) → (u v : Bool) → a + cond u 1 0 ≡ m → b + cond v 1 0 ≡ n → max a b + (cond (u && (ltb n m || (eqb n m && (ltb s t && v)))) 1 0 + cond (v && (ltb m n || (eqb m n && (ltb t s && u)))) 1 0) ≡ max m n
        go (inl q) = same q
        go (inr (inl k)) = below k
        go (inr (inr k)) = above k

-- the edges of the longer sides, with those that are taken from them, are the longer lists of last reads
pub longer-mended : (last_reads : ℕ → List ℕ) (xs : List ℕ) → ((s : ℕ) → Rising (last_reads s)) → Rising xs →
    sum_pairs (λ s t. max (length (edges_to (last_reads s) t)) (length (edges_to (last_reads t) s))) xs + sum_by (shortening last_reads xs) xs ≡ sum_pairs (more_reads last_reads) xs
longer-mended last_reads xs rising r =
    let a = pairs-add (λ s t. max (length (edges_to (last_reads s) t)) (length (edges_to (last_reads t) s))) (λ s t. crossing last_reads s t + crossing last_reads t s) xs in
    let b = pairs-agree (λ s t. max (length (edges_to (last_reads s) t)) (length (edges_to (last_reads t) s)) + (crossing last_reads s t + crossing last_reads t s)) (more_reads last_reads) xs r (mended last_reads rising) in
    let c = pairs-both (crossing last_reads) (crossing-none last_reads) xs in
    let d = sum-agree (λ s. sum_by (crossing last_reads s) xs) (shortening last_reads xs) xs (λ s m. shared (λ t. shortens (last_reads s) s (last_reads t) t) xs (last_reads s) r (rising s)) in
    omega (arith, a, b, c, d)
