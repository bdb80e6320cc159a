-- Rows that are cut from one list.
use Rattle.std.proofs.Common.{◌≡◌, ℕ, zero, suc, ◌+◌, ◌-◌, ◌<◌, ◌≤◌, List, [], length, get_or, take, drop, sym, ap, subst, arith}
use Rattle.std.specs.List.{sum_by}
use Rattle.std.proofs.lemmas.List.{length-take, length-drop}
use Rattle.std.proofs.lemmas.List.FromFn.{length-map-range_with_len, get_or-map-range_with_len}
use Rattle.std.proofs.lemmas.List.Sums.{sum_by_more}
use Rattle.constraints.specs.Rows.{cut, rows_of, AreStarts}

pub rows-length : (items starts : List ℕ) → length (rows_of items starts) ≡ length starts - 1
rows-length items starts = length-map-range_with_len (λ i. cut items (get_or starts i 0) (get_or starts (i + 1) 0)) 0 (length starts - 1)

pub row-at : (items starts : List ℕ) (i : ℕ) (d : List ℕ) → i < length (rows_of items starts) → get_or (rows_of items starts) i d ≡ cut items (get_or starts i 0) (get_or starts (i + 1) 0)
row-at items starts i d l =
    let n = rows-length items starts in
    get_or-map-range_with_len (λ i. cut items (get_or starts i 0) (get_or starts (i + 1) 0)) 0 (length starts - 1) i i d (omega (arith, l, n)) (omega arith)

-- a row's start is how many numbers the rows before it have
pub row-start : (items starts : List ℕ) → AreStarts items starts → (i : ℕ) → i < length starts → get_or starts i 0 ≡ sum_by length (take i (rows_of items starts))
row-start items starts are zero l = are.first
row-start items starts are (suc i) l =
    let n = rows-length items starts in
    let m : i < length (rows_of items starts) = omega (arith, l, n) in
    let ih : get_or starts i 0 ≡ sum_by length (take i (rows_of items starts)) = row-start items starts are i (omega (arith, l)) in
    let e : sum_by length (take (i + 1) (rows_of items starts)) ≡ sum_by length (take i (rows_of items starts)) + length (get_or (rows_of items starts) i []) = sum_by_more length (rows_of items starts) i [] m in
    let r = ap (λ (xs : List ℕ). length xs) (row-at items starts i [] m) in
    let a : get_or starts i 0 ≤ get_or starts (i + 1) 0 = are.rising i (omega (arith, l)) in
    let b : get_or starts (i + 1) 0 ≤ length items = are.within (i + 1) (omega (arith, l)) in
    let c = length-take (get_or starts (i + 1) 0 - get_or starts i 0) (drop (get_or starts i 0) items) in
    let d = length-drop (get_or starts i 0) items in
    let q : suc i ≡ i + 1 = omega arith in
    let P : ℕ → Type 0 = λ k. get_or starts k 0 ≡ sum_by length (take k (rows_of items starts)) in
    subst P (sym q) (omega (arith, ih, e, r, a, b, c, d))

pub ruleset row_rules = (rows-length, row-at, row-start)
