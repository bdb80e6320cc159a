-- The pairs of a word, counted by what each source shuts.
use Rattle.std.proofs.Common.{◌≡◌, ℕ, zero, suc, ◌+◌, ◌-◌, ◌<◌, ◌≤◌, Bool, true, false, cond, List, [], ◌∷◌, ◌++◌, length, map, get_or, refl, sym, ◌∙◌, ap, subst, arith, inl, inr}
use Rattle.std.specs.Prelude.{◌&&◌, not, Contains}
use Rattle.std.specs.List.{sum_by, count_by, range_with_len}
use Rattle.std.proofs.lemmas.Bool.{false_from_ne_true}
use Rattle.std.proofs.lemmas.List.{same_lists, length-map, length-append, get_or_default}
use Rattle.std.proofs.lemmas.List.Sums.{sum_by-cons, sum_by-append}
use Rattle.std.proofs.lemmas.List.FromFn.{length-map-range_with_len, get_or-map-range_with_len}
use Rattle.std.proofs.lemmas.List.Elements.{Contains-get_or, All-get_or}
use Rattle.plain_search.specs.Edges.{is_acyclic}
use Rattle.plain_search.specs.Searches.{Pair, is_open}
use Rattle.plain_search.specs.Openness.{is_forced, is_stuck}
use Rattle.plain_search.proofs.Decided.{counted}
use Rattle.plain_search.proofs.Rankings.{acyclic-ranked, Holds-split}
use Rattle.replay_model.specs.Logs.{Log}
use Rattle.replay_model.specs.WellFormed.{IsWellFormed}
use Rattle.constraints.specs.Constraints.{sources_of, last_reads_from, edges_to, pair_of, pairs_among, pairs_at}
use Rattle.constraints.specs.SideEdges.{pair_count, sum_pairs}
use Rattle.constraints.proofs.PairSums.{pairs-short}
use Rattle.constraints.proofs.Points.{count-none}
use Rattle.constraints.proofs.Shapes.{sources_rise, sources_are_read}
use Rattle.races.specs.Shut.{base_edges, source_at, shuts}
use Rattle.races.specs.Tables.{sticks}
use Rattle.races.specs.Openings.{shut_total}
use Rattle.races.proofs.Ranges.{bit}
use Rattle.races.proofs.Sides.{AtMost, holds-side}

sum-same : (f g : ℕ → ℕ) (xs : List ℕ) → ((x : ℕ) → f x ≡ g x) → sum_by f xs ≡ sum_by g xs
sum-same f g [] h = refl
sum-same f g (x ∷ xs) h =
    let a = sum_by-cons f x xs in
    let b = sum_by-cons g x xs in
    let c = h x in
    let ih = sum-same f g xs h in
    omega (arith, a, b, c, ih)

sum-add : (f g : ℕ → ℕ) (xs : List ℕ) → sum_by (λ x. f x + g x) xs ≡ sum_by f xs + sum_by g xs
sum-add f g [] = refl
sum-add f g (x ∷ xs) =
    let a = sum_by-cons (λ y. f y + g y) x xs in
    let b = sum_by-cons f x xs in
    let c = sum_by-cons g x xs in
    let ih = sum-add f g xs in
    omega (arith, a, b, c, ih)

pairs-same : (f g : ℕ → ℕ → ℕ) (xs : List ℕ) → ((x y : ℕ) → f x y ≡ g x y) → sum_pairs f xs ≡ sum_pairs g xs
pairs-same f g [] h = refl
pairs-same f g (x ∷ xs) h =
    let a = sum-same (f x) (g x) xs (h x) in
    let ih = pairs-same f g xs h in
    omega (arith, a, ih)

pairs-add : (f g : ℕ → ℕ → ℕ) (xs : List ℕ) → sum_pairs (λ s t. f s t + g s t) xs ≡ sum_pairs f xs + sum_pairs g xs
pairs-add f g [] = refl
pairs-add f g (x ∷ xs) =
    let a = sum-add (f x) (g x) xs in
    let ih = pairs-add f g xs in
    omega (arith, a, ih)

-- each with each is each with itself, and each two both ways
square : (f : ℕ → ℕ → ℕ) (a k : ℕ) → ((j : ℕ) → a ≤ j → j < a + k → f j j ≡ 1) →
    sum_by (λ x. sum_by (f x) (range_with_len a k)) (range_with_len a k) ≡ k + sum_pairs (λ s t. f s t + f t s) (range_with_len a k)
square f a zero h = refl
square f a (suc k) h =
    let R = range_with_len (a + 1) k in
    let ih = square f (a + 1) k (λ j l m. h j (omega (arith, l)) (omega (arith, m))) in
    let s = sum_by-cons (λ x. sum_by (f x) (a ∷ R)) a R in
    let t = sum_by-cons (f a) a R in
    let o = h a (omega arith) (omega arith) in
    let u = sum-same (λ x. sum_by (f x) (a ∷ R)) (λ x. f x a + sum_by (f x) R) R (λ x. sum_by-cons (f x) a R) in
    let v = sum-add (λ x. f x a) (λ x. sum_by (f x) R) R in
    let w = sum-add (f a) (λ x. f x a) R in
    omega (arith, ih, s, t, o, u, v, w)

-- each two, row after row
rows : (f : ℕ → ℕ → ℕ) (a k : ℕ) → sum_pairs f (range_with_len a k) ≡ sum_by (λ i. sum_by (f i) (range_with_len (i + 1) (a + k - (i + 1)))) (range_with_len a k)
rows f a zero = refl
rows f a (suc k) =
    let ih = rows f (a + 1) k in
    let e : (a + 1) + k ≡ a + suc k = omega arith in
    let q = ap (λ n. sum_by (λ i. sum_by (f i) (range_with_len (i + 1) (n - (i + 1)))) (range_with_len (a + 1) k)) e in
    let s = sum_by-cons (λ i. sum_by (f i) (range_with_len (i + 1) (a + suc k - (i + 1)))) a (range_with_len (a + 1) k) in
    let n : a + suc k - (a + 1) ≡ k = omega arith in
    let p = ap (λ m. sum_by (f a) (range_with_len (a + 1) m)) n in
    omega (arith, ih, q, s, p)

-- pairs by their places
pairs-map : (f : ℕ → ℕ → ℕ) (h : ℕ → ℕ) (xs : List ℕ) → sum_pairs f (map h xs) ≡ sum_pairs (λ x y. f (h x) (h y)) xs
pairs-map f h [] = refl
pairs-map f h (x ∷ xs) = let a = mapped xs in let ih = pairs-map f h xs in omega (arith, a, ih)
  where
    mapped : (ys : List ℕ) → sum_by (f (h x)) (map h ys) ≡ sum_by (λ y. f (h x) (h y)) ys
    mapped [] = refl
    mapped (y ∷ ys) =
        let a = sum_by-cons (f (h x)) (h y) (map h ys) in
        let b = sum_by-cons (λ z. f (h x) (h z)) y ys in
        let ih = mapped ys in
        omega (arith, a, b, ih)

by-places : (xs : List ℕ) → map (λ i. get_or xs i 0) (range_with_len 0 (length xs)) ≡ xs
by-places xs = same_lists (map (λ i. get_or xs i 0) (range_with_len 0 (length xs))) xs (length-map-range_with_len (λ i. get_or xs i 0) 0 (length xs))
    (λ k d l. let m : k < length xs = omega (arith, l, length-map-range_with_len (λ i. get_or xs i 0) 0 (length xs)) in
    get_or-map-range_with_len (λ i. get_or xs i 0) 0 (length xs) k k d m (omega arith) ∙ get_or_default xs k 0 d m)

-- a count over the pairs of a list
count-among : (test : Pair → Bool) (pair : ℕ → ℕ → Pair) (xs : List ℕ) → count_by test (pairs_among pair xs) ≡ sum_pairs (λ s t. bit (test (pair s t))) xs
count-among test pair [] = refl
count-among test pair (x ∷ xs) =
    let a = sum_by-append (λ p. bit (test p)) (map (pair x) xs) (pairs_among pair xs) in
    let b = mapped xs in
    let ih = count-among test pair xs in
    omega (arith, a, b, ih)
  where
    mapped : (ys : List ℕ) → count_by test (map (pair x) ys) ≡ sum_by (λ t. bit (test (pair x t))) ys
    mapped [] = refl
    mapped (y ∷ ys) =
        let a = sum_by-cons (λ p. bit (test p)) (pair x y) (map (pair x) ys) in
        let b = sum_by-cons (λ t. bit (test (pair x t))) y ys in
        let ih = mapped ys in
        omega (arith, a, b, ih)

abbrev pub size : Log → ℕ → ℕ
size log word = length (sources_of log word)

count-at : (log : Log) (word : ℕ) (test : Pair → Bool) →
    count_by test (pairs_at log word) ≡ sum_pairs (λ i j. bit (test (pair_of log word (source_at log word i) (source_at log word j)))) (range_with_len 0 (size log word))
count-at log word test =
    count-among test (pair_of log word) (sources_of log word) ∙ ap (sum_pairs (λ s t. bit (test (pair_of log word s t)))) (sym (by-places (sources_of log word))) ∙
    pairs-map (λ s t. bit (test (pair_of log word s t))) (source_at log word) (range_with_len 0 (size log word))

-- how many pairs there are
count-pairs : (pair : ℕ → ℕ → Pair) (xs : List ℕ) → length (pairs_among pair xs) ≡ sum_pairs (λ s t. 1) xs
count-pairs pair [] = refl
count-pairs pair (x ∷ xs) =
    let a = length-append (map (pair x) xs) (pairs_among pair xs) in
    let b = length-map xs (pair x) in
    let o = ones xs in
    let ih = count-pairs pair xs in
    omega (arith, a, b, o, ih)
  where
    ones : (ys : List ℕ) → sum_by (λ t. 1) ys ≡ length ys
    ones [] = refl
    ones (y ∷ ys) = let a = sum_by-cons (λ t. 1) y ys in let ih = ones ys in omega (arith, a, ih)

pub pairs-number : (log : Log) (word : ℕ) → length (pairs_at log word) ≡ pair_count (size log word)
pairs-number log word =
    let a = count-pairs (pair_of log word) (sources_of log word) in
    let b = pairs-short (λ s. false) (sources_of log word) in
    let n = count-none (λ s. false) (sources_of log word) (λ x c. refl) in
    let z = ap pair_count n in
    omega (arith, a, b, z)

-- a source may not come before itself: it is read
pub own-shut : (log : Log) (word i : ℕ) → IsWellFormed log → i < size log word → shuts log word i i ≡ true
own-shut log word i formed l = let e = closed in rw e refl
  where
    s : ℕ
    s = source_at log word i

    reads : List ℕ
    reads = last_reads_from log word s

    there : Contains (sources_of log word) s
    there = Contains-get_or (sources_of log word) i 0 l

    closed : is_acyclic (edges_to reads s ++ base_edges log) ≡ false
    closed = false_from_ne_true _ (λ a.
        let (rank, h) = acyclic-ranked (edges_to reads s ++ base_edges log) a in
        let (p, q) = Holds-split rank (edges_to reads s) (base_edges log) h in
        let some = (sources_rise log word formed).some s there in
        let up = sources_are_read log word s (get_or reads 0 0) rank formed q there (Contains-get_or reads 0 0 some) in
        turned rank up (All-get_or (λ x. AtMost rank x s) reads 0 0 some (holds-side rank reads s p)))
      where
        turned : (rank : ℕ → ℕ) → rank s < rank (get_or reads 0 0) → AtMost rank (get_or reads 0 0) s → ⊥
        turned rank up (inl e) = let z = ap rank e in absurd (omega (arith, z, up))
        turned rank up (inr r) = absurd (omega (arith, r, up))

-- of both sides one is shut at a forced pair, and two at a stuck one
two-sides : (a b : Bool) → bit a + bit b ≡ bit (cond a (not b) b) + (bit (a && b) + bit (a && b))
two-sides true true = refl
two-sides true false = refl
two-sides false true = refl
two-sides false false = refl

pub shut-number : (log : Log) (word : ℕ) → IsWellFormed log →
    shut_total log word ≡ size log word + (count_by (is_forced (base_edges log)) (pairs_at log word) + (count_by (is_stuck (base_edges log)) (pairs_at log word) + count_by (is_stuck (base_edges log)) (pairs_at log word)))
shut-number log word formed =
    let E = base_edges log in
    let n = size log word in
    let F : ℕ → ℕ → ℕ = λ i j. bit (is_forced E (pair_of log word (source_at log word i) (source_at log word j))) in
    let G : ℕ → ℕ → ℕ = λ i j. bit (is_stuck E (pair_of log word (source_at log word i) (source_at log word j))) in
    let a = square (λ i j. bit (shuts log word i j)) 0 n (λ j l m. ap bit (own-shut log word j formed (omega (arith, m)))) in
    let b = pairs-same (λ i j. bit (shuts log word i j) + bit (shuts log word j i)) (λ i j. F i j + (G i j + G i j)) (range_with_len 0 n) (λ i j. two-sides (shuts log word i j) (shuts log word j i)) in
    let c = pairs-add F (λ i j. G i j + G i j) (range_with_len 0 n) in
    let d = pairs-add G G (range_with_len 0 n) in
    let f = count-at log word (is_forced E) in
    let g = count-at log word (is_stuck E) in
    omega (arith, a, b, c, d, f, g)

-- how many of a source's pairs with later ones are stuck
abbrev pub stuck_from : Log → ℕ → ℕ → ℕ
stuck_from log word i = count_by (sticks log word i) (range_with_len (i + 1) (size log word - (i + 1)))

pub stuck-row : (log : Log) (word word' i i' count : ℕ) → word ≡ word' → i ≡ i' → count ≡ stuck_from log word i → count ≡ stuck_from log word' i'
stuck-row log word word' i i' count e q h = subst (λ w. count ≡ stuck_from log w i') e (subst (λ k. count ≡ stuck_from log word k) q h)

pub stuck-number : (log : Log) (word : ℕ) →
    sum_by (λ i. count_by (sticks log word i) (range_with_len (i + 1) (size log word - (i + 1)))) (range_with_len 0 (size log word)) ≡ count_by (is_stuck (base_edges log)) (pairs_at log word)
stuck-number log word =
    let n = size log word in
    let r = rows (λ i j. bit (sticks log word i j)) 0 n in
    let z : 0 + n ≡ n = omega arith in
    let q = ap (λ m. sum_by (λ i. count_by (sticks log word i) (range_with_len (i + 1) (m - (i + 1)))) (range_with_len 0 n)) z in
    let g = count-at log word (is_stuck (base_edges log)) in
    omega (arith, r, q, g)

-- each pair is of one kind
pub kinds-number : (log : Log) (word : ℕ) → length (pairs_at log word) ≡
    count_by (is_open (base_edges log)) (pairs_at log word) + count_by (is_forced (base_edges log)) (pairs_at log word) + count_by (is_stuck (base_edges log)) (pairs_at log word)
kinds-number log word = counted (base_edges log) (pairs_at log word)
