-- From any place on there are at most all pairs.
use Rattle.std.proofs.Common.{◌≡◌, ℕ, zero, suc, ◌+◌, ◌-◌, ◌<◌, ◌≤◌, Bool, List, [], ◌∷◌, length, get_or, take, drop, sym, ◌∙◌, ap, arith, inl, inr, ◌⊎◌}
use Rattle.std.specs.Prelude.{map, filter}
use Rattle.std.proofs.Math.ListN.{drop_of_length-le}
use Rattle.std.proofs.lemmas.List.Elements.{filter-append}
use Rattle.std.proofs.Math.Seq.{drop-cons}
use Rattle.std.proofs.lemmas.Bool.{cases_lt}
use Rattle.std.proofs.lemmas.List.{length-append, length-map, take-append-drop, drop-drop}
use Rattle.plain_search.specs.declared.Edge.{Edge}
use Rattle.plain_search.specs.Searches.{Pair}
use Rattle.order_solver.specs.declared.cursor.Cursor.{Cursor}
use Rattle.order_solver.specs.Rivals.{Rivalry, pair_in, pairs_where, pairs_from}
use Rattle.order_solver.specs.Cursors.{pairs_at, next_of, IsPlace, IsAt, Passes}
use Rattle.order_solver.proofs.Passing.{row, below, at-view, at-none, at-next}

filter-drop : (test : ℕ → Bool) (xs : List ℕ) (n : ℕ) → length (filter test (drop n xs)) ≤ length (filter test xs)
filter-drop test xs n =
    let e = ap (λ (ys : List ℕ). length (filter test ys)) (sym (take-append-drop n xs)) in
    let f = ap length (filter-append test (take n xs) (drop n xs)) in
    let g = length-append (filter test (take n xs)) (filter test (drop n xs)) in
    omega (arith, e, f, g)

pub where-drop : (test : ℕ → ℕ → Bool) (pair : ℕ → ℕ → Pair) (xs : List ℕ) (i : ℕ) → length (pairs_where test pair (drop i xs)) ≤ length (pairs_where test pair xs)
where-drop test pair xs zero = omega arith
where-drop test pair [] (suc i) = omega arith
where-drop test pair (x ∷ xs) (suc i) = let e = length-append (map (pair x) (filter (test x) xs)) (pairs_where test pair xs) in let h = where-drop test pair xs i in omega (arith, e, h)

pub where-row : (test : ℕ → ℕ → Bool) (pair : ℕ → ℕ → Pair) (xs : List ℕ) (i j : ℕ) → i < j →
    length (map (pair (get_or xs i 0)) (filter (test (get_or xs i 0)) (drop j xs))) + length (pairs_where test pair (drop (i + 1) xs)) ≤ length (pairs_where test pair xs)
where-row test pair xs i j l = go (cases_lt i (length xs))
  where
    T : ℕ → Bool
    T = test (get_or xs i 0)

    go : (i < length xs) ⊎ (length xs ≤ i) → length (map (pair (get_or xs i 0)) (filter (test (get_or xs i 0)) (drop j xs))) + length (pairs_where test pair (drop (i + 1) xs)) ≤ length (pairs_where test pair xs)
    go (inl m) =
        let e : suc i ≡ i + 1 = omega arith in
        let d : drop i xs ≡ get_or xs i 0 ∷ drop (i + 1) xs = drop-cons xs i 0 m ∙ ap (λ (n : ℕ). get_or xs i 0 ∷ drop n xs) e in
        let a = ap (λ (ys : List ℕ). length (pairs_where test pair ys)) d in
        let b = length-append (map (pair (get_or xs i 0)) (filter T (drop (i + 1) xs))) (pairs_where test pair (drop (i + 1) xs)) in
        let f = length-map (filter T (drop j xs)) (pair (get_or xs i 0)) in
        let h = length-map (filter T (drop (i + 1) xs)) (pair (get_or xs i 0)) in
        let k : (i + 1) + (j - (i + 1)) ≡ j = omega arith in
        let p = ap (λ (ys : List ℕ). length (filter T ys)) (drop-drop (j - (i + 1)) (i + 1) xs ∙ ap (λ (n : ℕ). drop n xs) k) in
        let q = filter-drop T (drop (i + 1) xs) (j - (i + 1)) in
        let t = where-drop test pair xs i in
        omega (arith, a, b, f, h, p, q, t)
    go (inr m) =
        let n : drop j xs ≡ [] = drop_of_length-le xs {i = j} (omega (arith, l, m)) in
        let f = ap (λ (ys : List ℕ). length (map (pair (get_or xs i 0)) (filter T ys))) n in
        let t = where-drop test pair xs (i + 1) in
        omega (arith, f, t)

pub from-later : (r : Rivalry) (w n : ℕ) → w ≤ n → length (pairs_from r w (n - w)) ≤ length (pairs_from r 0 n)
from-later r zero n l = let e : n - 0 ≡ n = omega arith in let q = ap (λ (m : ℕ). length (pairs_from r 0 m)) e in omega (arith, q)
from-later r (suc w) n l =
    let h = from-later r w n (omega arith) in
    let e : n - w ≡ suc (n - suc w) = omega arith in
    let q = ap (λ (m : ℕ). length (pairs_from r w m)) e in
    let a = length-append (pairs_where (r.rival w) (pair_in r w) (r.sources w)) (pairs_from r (w + 1) (n - suc w)) in
    let s : w + 1 ≡ suc w = omega arith in
    let t = ap (λ (m : ℕ). length (pairs_from r m (n - suc w))) s in
    omega (arith, h, q, a, t)

pub places-within : (r : Rivalry) (c : Cursor) → IsPlace r c → length (pairs_at r c) ≤ length (pairs_from r 0 r.words)
places-within r c p = go (cases_lt c.word r.words)
  where
    go : (c.word < r.words) ⊎ (r.words ≤ c.word) → length (pairs_at r c) ≤ length (pairs_from r 0 r.words)
    go (inl l) =
        let rest = pairs_from r (c.word + 1) (r.words - (c.word + 1)) in
        let a = ap length (at-view r c.word c.lesser c.greater l) in
        let b = length-append (row r c.word c.lesser c.greater) (below r c.word (c.lesser + 1)) in
        let d = length-append (pairs_where (r.rival c.word) (pair_in r c.word) (drop (c.lesser + 1) (r.sources c.word))) rest in
        let e = where-row (r.rival c.word) (pair_in r c.word) (r.sources c.word) c.lesser c.greater p.lesser in
        let f : r.words - c.word ≡ suc (r.words - (c.word + 1)) = omega arith in
        let g = ap (λ (m : ℕ). length (pairs_from r c.word m)) f in
        let h = length-append (pairs_where (r.rival c.word) (pair_in r c.word) (r.sources c.word)) rest in
        let t = from-later r c.word r.words (omega arith) in
        omega (arith, a, b, d, e, g, h, t)
    go (inr l) = let a = ap length (at-none r c.word c.lesser c.greater l) in omega (arith, a)

pub next-shorter : (r : Rivalry) (edges : List Edge) (from c : Cursor) → IsAt r c → Passes edges (pairs_at r from) (pairs_at r c) → length (pairs_at r (next_of c)) < length (pairs_at r from)
next-shorter r edges from c a p =
    let e = ap length (at-next r c a) in
    let q = ap length p.all in
    let l = length-append p.passed (pairs_at r c) in
    omega (arith, e, q, l)
