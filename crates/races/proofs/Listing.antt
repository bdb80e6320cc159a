-- The open pairs of a word, listed from some place on.
use Rattle.std.proofs.Common.{◌≡◌, ℕ, zero, suc, ◌+◌, ◌-◌, ◌<◌, ◌≤◌, Bool, true, false, List, [], ◌∷◌, ◌++◌, length, map, take, drop, get_or, append_assoc, add-one, refl, sym, ◌∙◌, ap, arith, inl, inr, ◌⊎◌}
use Rattle.std.specs.Prelude.{◌&&◌, not, filter}
use Rattle.std.proofs.Math.Nat.{min-le_left}
use Rattle.std.proofs.Math.Seq.{drop-cons}
use Rattle.std.proofs.Math.ListN.{drop_of_length-le}
use Rattle.std.proofs.lemmas.Bool.{cases_lt}
use Rattle.std.proofs.lemmas.List.{append-nil, length-take, length-take-le, take-append-le, take_all, map-append}
use Rattle.std.proofs.lemmas.List.Elements.{filter-append}
use Rattle.plain_search.specs.Edges.{is_acyclic}
use Rattle.replay_model.specs.Logs.{Log}
use Rattle.constraints.specs.Constraints.{sources_of, last_reads_from, edges_to}
use Rattle.races.specs.declared.pair.Pair.{Pair}
use Rattle.races.specs.Shut.{base_edges, source_at}
use Rattle.races.specs.Tables.{IsNext, opens}
use Rattle.races.specs.Openings.{couples, is_open_couple, pair_at, open_row}

-- the open pairs of a source with those from one place on
abbrev pub row_from : Log → ℕ → ℕ → ℕ → List Pair
row_from log word i j = map (pair_at log word) (filter (is_open_couple log word) (map (λ t. (source_at log word i, t)) (drop j (sources_of log word))))

-- the open pairs of the sources from one place on
abbrev pub rows_from : Log → ℕ → ℕ → List Pair
rows_from log word i = map (pair_at log word) (filter (is_open_couple log word) (couples (drop i (sources_of log word))))

drop-next : (xs : List ℕ) (k : ℕ) → k < length xs → drop k xs ≡ get_or xs k 0 ∷ drop (k + 1) xs
drop-next xs k l = drop-cons xs k 0 l ∙ ap (λ n. get_or xs k 0 ∷ drop n xs) (sym (add-one k))

open-is : (log : Log) (word i j : ℕ) → is_open_couple log word (source_at log word i, source_at log word j) ≡ opens log word i j
open-is log word i j = twice (is_acyclic (edges_to (last_reads_from log word (source_at log word i)) (source_at log word j) ++ base_edges log))
    (is_acyclic (edges_to (last_reads_from log word (source_at log word j)) (source_at log word i) ++ base_edges log))
  where
    twice : (a b : Bool) → (a && b) ≡ (not (not a) && not (not b))
    twice true true = refl
    twice true false = refl
    twice false true = refl
    twice false false = refl

-- one that isn't open is passed
row-no : (log : Log) (word i j : ℕ) → j < length (sources_of log word) → opens log word i j ≡ false → row_from log word i j ≡ row_from log word i (j + 1)
row-no log word i j l f =
    let s = source_at log word i in
    ap (λ xs. map (pair_at log word) (filter (is_open_couple log word) (map (λ t. (s, t)) xs))) (drop-next (sources_of log word) j l) ∙
    (let e : is_open_couple log word (s, source_at log word j) ≡ false = open-is log word i j ∙ f in rw e refl)

pub row-yes : (log : Log) (word i j : ℕ) → j < length (sources_of log word) → opens log word i j ≡ true →
    row_from log word i j ≡ pair_at log word (source_at log word i, source_at log word j) ∷ row_from log word i (j + 1)
row-yes log word i j l f =
    let s = source_at log word i in
    ap (λ xs. map (pair_at log word) (filter (is_open_couple log word) (map (λ t. (s, t)) xs))) (drop-next (sources_of log word) j l) ∙
    (let e : is_open_couple log word (s, source_at log word j) ≡ true = open-is log word i j ∙ f in rw e refl)

-- and so are all up to the next open one
row-skip : (log : Log) (word i j n : ℕ) → j + n ≤ length (sources_of log word) → ((k : ℕ) → j ≤ k → k < j + n → opens log word i k ≡ false) → row_from log word i j ≡ row_from log word i (j + n)
row-skip log word i j zero l h = let e : j + 0 ≡ j = omega arith in ap (row_from log word i) (sym e)
row-skip log word i j (suc n) l h =
    let e : (j + 1) + n ≡ j + suc n = omega arith in
    row-no log word i j (omega (arith, l)) (h j (omega arith) (omega arith)) ∙ row-skip log word i (j + 1) n (omega (arith, l)) (λ k a b. h k (omega (arith, a)) (omega (arith, b))) ∙ ap (row_from log word i) e

pub row-next : (log : Log) (word i j next : ℕ) → IsNext (opens log word i) j (length (sources_of log word)) next → row_from log word i j ≡ row_from log word i next
row-next log word i j next n =
    let a = n.low in
    let b = n.high in
    let e : j + (next - j) ≡ next = omega (arith, a) in
    row-skip log word i j (next - j) (omega (arith, a, b)) (λ k l m. n.none k l (omega (arith, m, a))) ∙ ap (row_from log word i) e

pub row-end : (log : Log) (word i j : ℕ) → length (sources_of log word) ≤ j → row_from log word i j ≡ []
row-end log word i j l = ap (λ xs. map (pair_at log word) (filter (is_open_couple log word) (map (λ t. (source_at log word i, t)) xs))) (drop_of_length-le (sources_of log word) l)

-- one source's pairs, and then the later ones'
pub rows-next : (log : Log) (word i : ℕ) → i < length (sources_of log word) → rows_from log word i ≡ open_row log word i ++ rows_from log word (i + 1)
rows-next log word i l =
    let s = source_at log word i in
    let xs = map (λ t. (s, t)) (drop (i + 1) (sources_of log word)) in
    let ys = couples (drop (i + 1) (sources_of log word)) in
    ap (λ zs. map (pair_at log word) (filter (is_open_couple log word) (couples zs))) (drop-next (sources_of log word) i l) ∙
    ap (map (pair_at log word)) (filter-append (is_open_couple log word) xs ys) ∙ map-append (pair_at log word) (filter (is_open_couple log word) xs) (filter (is_open_couple log word) ys)

pub rows-end : (log : Log) (word i : ℕ) → length (sources_of log word) ≤ i → rows_from log word i ≡ []
rows-end log word i l = ap (λ zs. map (pair_at log word) (filter (is_open_couple log word) (couples zs))) (drop_of_length-le (sources_of log word) l)

-- so many first ones of what stands and what is to come
pub take-full : (most : ℕ) (xs ys : List Pair) → length xs ≤ most → most ≤ length xs → take most (xs ++ ys) ≡ xs
take-full most xs ys a b = take-append-le most xs ys b ∙ take_all most xs a

pub take-last : (most : ℕ) (xs ys : List Pair) → length xs ≤ most → ys ≡ [] → take most (xs ++ ys) ≡ xs
take-last most xs ys a e = ap (λ zs. take most (xs ++ zs)) e ∙ ap (take most) (append-nil xs) ∙ take_all most xs a

pub take-twice : (most : ℕ) (xs ys : List Pair) → take most (take most xs ++ ys) ≡ take most (xs ++ ys)
take-twice most xs ys = go (cases_lt (length xs) most)
  where
    go : (length xs < most) ⊎ (most ≤ length xs) → take most (take most xs ++ ys) ≡ take most (xs ++ ys)
    go (inl l) = ap (λ zs. take most (zs ++ ys)) (take_all most xs (omega (arith, l)))
    go (inr l) =
        let n : length (take most xs) ≡ most = length-take-le most xs l in
        take-append-le most (take most xs) ys (omega (arith, n)) ∙ take_all most (take most xs) (omega (arith, n)) ∙ sym (take-append-le most xs ys l)

pub next-here : (test : ℕ → Bool) (from to next : ℕ) → IsNext test from to next → IsNext test next to next
next-here test from to next n = record { low = omega arith; high = n.high; none = λ j a b. absurd (omega (arith, a, b)); found = n.found }

-- the list of a row as it begins
pub row-begun : (log : Log) (word i next most : ℕ) (xs : List Pair) → IsNext (opens log word i) (i + 1) (length (sources_of log word)) next →
    take most (xs ++ row_from log word i next) ≡ take most (xs ++ open_row log word i)
row-begun log word i next most xs n = ap (λ ys. take most (xs ++ ys)) (sym (row-next log word i (i + 1) next n))

-- and with one more pair
pub row-pushed : (log : Log) (word i at next most : ℕ) (xs new : List Pair) (pair : Pair) → at < length (sources_of log word) → IsNext (opens log word i) at (length (sources_of log word)) at →
    IsNext (opens log word i) (at + 1) (length (sources_of log word)) next → pair ≡ pair_at log word (source_at log word i, source_at log word at) → new ≡ xs ++ pair ∷ [] →
    take most (new ++ row_from log word i next) ≡ take most (xs ++ row_from log word i at)
row-pushed log word i at next most xs new pair l here n p e =
    ap (λ ys. take most (ys ++ row_from log word i next)) e ∙ ap (take most) (append_assoc xs (pair ∷ []) (row_from log word i next)) ∙
    ap (λ ys. take most (xs ++ pair ∷ ys)) (sym (row-next log word i (at + 1) next n)) ∙ ap (λ y. take most (xs ++ y ∷ row_from log word i (at + 1))) p ∙
    ap (λ ys. take most (xs ++ ys)) (sym (row-yes log word i at l (here.found l)))

-- a row that was listed
pub row-alike : (log : Log) (word word' i i' most : ℕ) (xs new : List Pair) → word ≡ word' → i ≡ i' → new ≡ take most (xs ++ open_row log word i) → new ≡ take most (xs ++ open_row log word' i')
row-alike log word word' i i' most xs new e q h = h ∙ ap (λ w. take most (xs ++ open_row log w i)) e ∙ ap (λ k. take most (xs ++ open_row log word' k)) q

pub listed-few : (most : ℕ) (xs new : List Pair) → new ≡ take most xs → length new ≤ most
listed-few most xs new e = let a = ap (λ (ys : List Pair). length ys) e in let b = length-take most xs in let m = min-le_left most (length xs) in omega (arith, a, b, m)

pub rows-listed : (log : Log) (word i most : ℕ) (xs new : List Pair) → i < length (sources_of log word) → new ≡ take most (xs ++ open_row log word i) →
    take most (new ++ rows_from log word (i + 1)) ≡ take most (xs ++ rows_from log word i)
rows-listed log word i most xs new l e =
    ap (λ ys. take most (ys ++ rows_from log word (i + 1))) e ∙ take-twice most (xs ++ open_row log word i) (rows_from log word (i + 1)) ∙
    ap (take most) (append_assoc xs (open_row log word i) (rows_from log word (i + 1))) ∙ ap (λ ys. take most (xs ++ ys)) (sym (rows-next log word i l))
