-- What the pairs of a log come to in longer sides.
use Rattle.std.proofs.Common.{◌≡◌, ℕ, ◌+◌, ◌*◌, ◌^◌, ◌<◌, ◌≤◌, List, [], ◌∷◌, ◌++◌, length, map, get_or, take, refl, sym, ◌∙◌, ap, subst, arith, eqb, leb, nat_cmp, inl, inr, ◌⊎◌}
use Rattle.std.specs.Prelude.{max, Bool, true, false, Result, Ok, Err, MatchResult, IfOk, ◌&&◌}
use Rattle.std.specs.List.Sorted.{IsBinarySearchResult}
use Rattle.std.proofs.lemmas.Bool.{cases_lt, eq-eqb, ne_eqb, and_left}
use Rattle.std.proofs.lemmas.List.Folds.{list_any_at, list_any_none}
use Rattle.std.proofs.lemmas.List.{get_or_default}
use Rattle.std.proofs.lemmas.List.Sorted.{searched}
use Rattle.std.specs.List.{sum_by, flat_map, range_with_len}
use Rattle.std.proofs.lemmas.List.Sums.{sum_by-append, sum_by-cons, count_by-le-length}
use Rattle.replay_model.specs.Logs.{Log}
use Rattle.replay_model.specs.WellFormed.{IsWellFormed}
use Rattle.plain_search.specs.Searches.{Pair}
use Rattle.constraints.specs.Positions.{event_list}
use Rattle.constraints.specs.Constraints.{sources_of, last_reads_from, edges_to, pair_of, pairs_among, pairs_at, pairs_of, longer_side, longer_sides, side_edges_of}
use Rattle.constraints.specs.SideEdges.{pair_count, sum_pairs, has, count_up_to, more_reads, shortening}
use Rattle.constraints.proofs.Few.{events_small, readers_few}
use Rattle.constraints.proofs.Groups.{logs_are_small}
use Rattle.constraints.proofs.Naming.{flat_map_range_more}
use Rattle.constraints.proofs.Members.{Rising}
use Rattle.constraints.proofs.PairSums.{longer-mended, capped_reads, capped-all, capped-next, pairs-short}
use Rattle.constraints.proofs.Rivals.{sources-rising}
use Rattle.constraints.proofs.Shapes.{last_reads-rising}

-- the pairs of a list, one by one
longer-among : (pair : ℕ → ℕ → Pair) (xs : List ℕ) → longer_sides (pairs_among pair xs) ≡ sum_pairs (λ s t. longer_side (pair s t)) xs
longer-among pair [] = refl
longer-among pair (x ∷ xs) =
    let a = sum_by-append longer_side (map (pair x) xs) (pairs_among pair xs) in
    let b = mapped xs in
    let ih = longer-among pair xs in
    omega (arith, a, b, ih)
  where
    mapped : (ys : List ℕ) → sum_by longer_side (map (pair x) ys) ≡ sum_by (λ t. longer_side (pair x t)) ys
    mapped [] = refl
    mapped (y ∷ ys) =
        let a = sum_by-cons longer_side (pair x y) (map (pair x) ys) in
        let b = sum_by-cons (λ t. longer_side (pair x t)) y ys in
        let ih = mapped ys in
        omega (arith, a, b, ih)

pub word-mended : (log : Log) (word : ℕ) → longer_sides (pairs_at log word) + sum_by (shortening (last_reads_from log word) (sources_of log word)) (sources_of log word) ≡
    sum_pairs (more_reads (last_reads_from log word)) (sources_of log word)
word-mended log word =
    let a = longer-among (pair_of log word) (sources_of log word) in
    let b = longer-mended (last_reads_from log word) (sources_of log word) (last_reads-rising log word) (sources-rising log word) in
    omega (arith, a, b)

pub sources_few : (log : Log) (word : ℕ) → IsWellFormed log → length (sources_of log word) < 2 ^ 20
sources_few log word formed =
    let a = (logs_are_small log formed).sources word in
    let b = events_small log formed in
    omega (arith, a, b)

-- word after word
abbrev pub side_edges_up_to : Log → ℕ → ℕ
side_edges_up_to log n = longer_sides (flat_map (pairs_at log) (range_with_len 0 n))

pub side_edges-next : (log : Log) (n : ℕ) → side_edges_up_to log (n + 1) ≡ side_edges_up_to log n + longer_sides (pairs_at log n)
side_edges-next log n = ap longer_sides (flat_map_range_more (pairs_at log) n) ∙ sum_by-append longer_side (flat_map (pairs_at log) (range_with_len 0 n)) (pairs_at log n)

pub side_edges-all : (log : Log) → side_edges_up_to log (length log.last_tags) ≡ side_edges_of log
unfolding pairs_of
side_edges-all log = refl

-- what a search in a rising row says of the number
not-falling : (xs : List ℕ) → Rising xs → (i j : ℕ) → i ≤ j → j < length xs → get_or xs i 0 ≤ get_or xs j 0
not-falling xs r i j l m = go (cases_lt i j)
  where
    go : (i < j) ⊎ (j ≤ i) → get_or xs i 0 ≤ get_or xs j 0
    go (inl k) = let a = r i j 0 k m in omega (arith, a)
    go (inr k) = let e = ap (λ n. get_or xs n 0) (let q : i ≡ j = omega (arith, l, k) in q) in omega (arith, e)

pub found_source : (xs : List ℕ) (x : ℕ) (r : Result ℕ ℕ) (i : ℕ) → Rising xs → IsBinarySearchResult (λ y. nat_cmp y x) xs r → r ≡ Ok i → (i < length xs) × (get_or xs i 0 ≡ x) × (has xs x ≡ true)
found_source xs x r i rising found is =
    let (l, e) = subst (λ (r : Result ℕ ℕ). MatchResult r (λ i. (i < length xs) × (get_or xs i 0 ≡ x))
    (λ i. (i ≤ length xs) × ((k : ℕ) → k < i → get_or xs k 0 < x) × ((k : ℕ) → i ≤ k → k < length xs → x < get_or xs k 0))) is (searched xs x r found (not-falling xs rising)) in
    (l, e, list_any_at (λ y. eqb y x) xs i 0 l (eq-eqb (get_or xs i 0) x e))

pub missing_source : (xs : List ℕ) (x : ℕ) (r : Result ℕ ℕ) (i : ℕ) → Rising xs → IsBinarySearchResult (λ y. nat_cmp y x) xs r → r ≡ Err i → has xs x ≡ false
missing_source xs x r i rising found is =
    let (l, low, high) = subst (λ (r : Result ℕ ℕ). MatchResult r (λ i. (i < length xs) × (get_or xs i 0 ≡ x))
    (λ i. (i ≤ length xs) × ((k : ℕ) → k < i → get_or xs k 0 < x) × ((k : ℕ) → i ≤ k → k < length xs → x < get_or xs k 0))) is (searched xs x r found (not-falling xs rising)) in
    list_any_none (λ y. eqb y x) xs (λ k d m. ne_eqb (get_or xs k d) x (λ e. apart k m (sym (get_or_default xs k d 0 m) ∙ e) low high (cases_lt k i)))
  where
    apart : (k : ℕ) → k < length xs → get_or xs k 0 ≡ x → ((k : ℕ) → k < i → get_or xs k 0 < x) → ((k : ℕ) → i ≤ k → k < length xs → x < get_or xs k 0) → (k < i) ⊎ (i ≤ k) → ⊥
    apart k m e low high (inl c) = let a = low k c in absurd (omega (arith, a, e))
    apart k m e low high (inr c) = let a = high k c m in absurd (omega (arith, a, e))

-- what may be taken away
pub fewer-pairs : (log : Log) (word most : ℕ) →
    pair_count (count_up_to (last_reads_from log word) (sources_of log word) most) ≤ pair_count (length (sources_of log word))
fewer-pairs log word most =
    let a = pairs-short (λ s. leb (length (last_reads_from log word s)) most) (sources_of log word) in
    omega (arith, a)

pub counted-few : (log : Log) (word most : ℕ) → IsWellFormed log → count_up_to (last_reads_from log word) (sources_of log word) most < 2 ^ 20
counted-few log word most formed =
    let a = count_by-le-length (λ s. leb (length (last_reads_from log word s)) most) (sources_of log word) in
    let b = sources_few log word formed in
    omega (arith, a, b)

-- the same of the row of sources, and of a count of them
pub counted-pairs : (log : Log) (word most : ℕ) (row : List ℕ) (count : ℕ) → row ≡ sources_of log word → count ≡ count_up_to (last_reads_from log word) (sources_of log word) most →
    pair_count count ≤ pair_count (length row)
counted-pairs log word most row count r e =
    let a = fewer-pairs log word most in
    let b = ap pair_count e in
    let c = ap (λ (xs : List ℕ). pair_count (length xs)) r in
    omega (arith, a, b, c)

pub capped-more : (log : Log) (word most : ℕ) (row : List ℕ) (count : ℕ) → row ≡ sources_of log word → count ≡ count_up_to (last_reads_from log word) (sources_of log word) most →
    sum_pairs (capped_reads (last_reads_from log word) (most + 1)) (sources_of log word) + pair_count count ≡ sum_pairs (capped_reads (last_reads_from log word) most) (sources_of log word) + pair_count (length row)
capped-more log word most row count r e =
    let a = capped-next (last_reads_from log word) (sources_of log word) most in
    let b = ap pair_count e in
    let c = ap (λ (xs : List ℕ). pair_count (length xs)) r in
    omega (arith, a, b, c)

-- each source has at most one last read by each thread
pub capped-end : (log : Log) (word most : ℕ) → IsWellFormed log → length log.threads ≤ most →
    sum_pairs (capped_reads (last_reads_from log word) most) (sources_of log word) ≡ sum_pairs (more_reads (last_reads_from log word)) (sources_of log word)
capped-end log word most formed l = capped-all (last_reads_from log word) (sources_of log word) most (λ s c. let a = readers_few log formed word s in omega (arith, a, l))

-- the row of sources
pub row_found : (log : Log) (word : ℕ) (row : List ℕ) (x : ℕ) (r : Result ℕ ℕ) (i : ℕ) → row ≡ sources_of log word → IsBinarySearchResult (λ y. nat_cmp y x) row r → r ≡ Ok i →
    (i < length (sources_of log word)) × (get_or (sources_of log word) i 0 ≡ x) × (has (sources_of log word) x ≡ true)
row_found log word row x r i e found is =
    found_source (sources_of log word) x r i (sources-rising log word) (let P : List ℕ → Type 0 = λ xs. IsBinarySearchResult (λ y. nat_cmp y x) xs r in subst P e found) is

pub row_missing : (log : Log) (word : ℕ) (row : List ℕ) (x : ℕ) (r : Result ℕ ℕ) (i : ℕ) → row ≡ sources_of log word → IsBinarySearchResult (λ y. nat_cmp y x) row r → r ≡ Err i →
    (b : Bool) → false ≡ (has (sources_of log word) x && b)
row_missing log word row x r i e found is b =
    sym (and_left (has (sources_of log word) x) b (missing_source (sources_of log word) x r i (sources-rising log word) (let P : List ℕ → Type 0 = λ xs. IsBinarySearchResult (λ y. nat_cmp y x) xs r in subst P e found) is))
