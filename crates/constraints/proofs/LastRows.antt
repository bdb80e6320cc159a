-- The rows of last reads, one for each key, are those of each word's sources.
use Rattle.std.proofs.Common.{◌≡◌, ℕ, suc, ◌+◌, ◌-◌, ◌<◌, ◌≤◌, Ordering, nat_cmp, List, [], ◌∷◌, ◌++◌, length, get_or, take, map, refl, sym, ◌∙◌, ap, subst, arith}
use Rattle.std.specs.Prelude.{Contains}
use Rattle.std.specs.Ordering.{ordering_then, ordering_reverse}
use Rattle.std.specs.declared.cmp.Ordering.TheVariants.{Less, Greater}
use Rattle.std.specs.List.{flat_map, range_with_len, count_by, AllPairs}
use Rattle.std.proofs.lemmas.Cmp.{nat_cmp_total, tied_itself}
use Rattle.std.proofs.lemmas.Bool.{lt-ltb}
use Rattle.std.proofs.lemmas.List.{get_or-map, length-map, map-append, map_more, take_all, same_lists}
use Rattle.std.proofs.lemmas.List.FromFn.{length-map-range_with_len, get_or-map-range_with_len}
use Rattle.replay_model.specs.Logs.{Log}
use Rattle.replay_model.specs.WellFormed.{IsWellFormed}
use Rattle.constraints.specs.declared.reads.Read.{Read}
use Rattle.constraints.specs.declared.reads.Key.{Key}
use Rattle.constraints.specs.Constraints.{sources_of, last_reads_from}
use Rattle.constraints.specs.Rows.{cut, rows_of, AreStarts}
use Rattle.constraints.specs.Building.{key_cmp, is_read_up_to, AreInOrder, AreReadsInOrder, AreKeys, AreReads, last_rows}
use Rattle.constraints.proofs.Members.{AllPairs-map, AllPairs-flat_map, of_flat_map, in_flat_map, of_map, in_map, in_range, range-rising}
use Rattle.constraints.proofs.Strict.{same_ordered}
use Rattle.constraints.proofs.Gathering.{key_total}
use Rattle.constraints.proofs.Listed.{entry_is}
use Rattle.constraints.proofs.Sources.{of_sources}
use Rattle.constraints.proofs.Rivals.{sources-rising}
use Rattle.constraints.proofs.Rowing.{no_key, key_start, key_starts, key_starts-at, key_start-le, key_start-rises, last_row}

pub last_starts : (keys : List Key) (reads : List Read) → AreInOrder keys → AreStarts (map (λ (r : Read). r.last) reads) (key_starts keys reads)
last_starts keys reads h = record { some = omega arith; first = refl; rising = rising; within = within }
  where
    long : length (key_starts keys reads) ≡ length keys + 1
    long = let n = length-map keys (λ (key : Key). count_by (is_read_up_to key) reads) in omega (arith, n)

    rising : (i : ℕ) → i + 1 < length (key_starts keys reads) → get_or (key_starts keys reads) i 0 ≤ get_or (key_starts keys reads) (i + 1) 0
    rising i l =
        let n = long in
        let x = key_starts-at keys reads i (omega (arith, l, n)) in
        let y = key_starts-at keys reads (suc i) (omega (arith, l, n)) in
        let o : i + 1 ≡ suc i = omega arith in
        let e : get_or (key_starts keys reads) (i + 1) 0 ≡ get_or (key_starts keys reads) (suc i) 0 = ap (λ k. get_or (key_starts keys reads) k 0) o in
        let r = key_start-rises keys reads h i (omega (arith, l, n)) in
        omega (arith, x, y, e, r)

    within : (i : ℕ) → i < length (key_starts keys reads) → get_or (key_starts keys reads) i 0 ≤ length (map (λ (r : Read). r.last) reads)
    within i l =
        let n = long in
        let x = key_starts-at keys reads i (omega (arith, l, n)) in
        let m = key_start-le keys reads i in
        let o = length-map reads (λ (r : Read). r.last) in
        omega (arith, x, m, o)

map-flat_map : {X Y Z : Type 0} (f : Y → Z) (g : X → List Y) (xs : List X) → map f (flat_map g xs) ≡ flat_map (λ x. map f (g x)) xs
map-flat_map f g [] = refl
map-flat_map f g (x ∷ xs) = map-append f (g x) (flat_map g xs) ∙ ap (λ ys. map f (g x) ++ ys) (map-flat_map f g xs)

map-map : {X Y Z : Type 0} (f : Y → Z) (g : X → Y) (xs : List X) → map f (map g xs) ≡ map (λ x. f (g x)) xs
map-map f g [] = refl
map-map f g (x ∷ xs) = ap (λ ys. f (g x) ∷ ys) (map-map f g xs)

abbrev key : ℕ → ℕ → Key
key word source = record { word = word; source = source }

nat-less-from : (m n : ℕ) → m < n → nat_cmp m n ≡ Less
nat-less-from m n l = rw (lt-ltb m n l) refl

key_asym : (a b : Key) → key_cmp a b ≡ Less → key_cmp b a ≡ Less → ⊥
key_asym a b p q = let e : key_cmp a b ≡ ordering_reverse (key_cmp b a) = key_total.antisymm a b in no (sym p ∙ e ∙ ap ordering_reverse q)
  where
    no : Less ≡ Greater → ⊥
    no h = cc

-- the keys are those of the sources, word after word
pub keys_listed : (log : Log) → IsWellFormed log → (keys : List Key) → AreInOrder keys → AreKeys log keys → keys ≡ flat_map (λ word. map (key word) (sources_of log word)) (range_with_len 0 (length log.last_tags))
keys_listed log formed keys h are = same_ordered (λ a b. key_cmp a b ≡ Less) key_asym keys (flat_map (λ word. map (key word) (sources_of log word)) (range_with_len 0 (length log.last_tags))) h
    (AllPairs-flat_map (λ word. map (key word) (sources_of log word)) (λ a b. key_cmp a b ≡ Less) (λ v w. v < w) within across (range_with_len 0 (length log.last_tags)) (range-rising 0 (length log.last_tags)))
    there back
  where
    same_word : (word s t : ℕ) → s < t → key_cmp (key word s) (key word t) ≡ Less
    same_word word s t l =
        let P : Ordering → Type 0 = λ o. ordering_then o (nat_cmp s t) ≡ Less in
        subst P (sym (tied_itself nat_cmp_total word)) (nat-less-from s t l)

    within : (word : ℕ) → AllPairs (λ a b. key_cmp a b ≡ Less) (map (key word) (sources_of log word))
    within word = AllPairs-map (key word) (λ s t. s < t) (λ a b. key_cmp a b ≡ Less) (same_word word) (sources_of log word) (sources-rising log word)

    across : (v w : ℕ) (x y : Key) → v < w → Contains (map (key v) (sources_of log v)) x → Contains (map (key w) (sources_of log w)) y → key_cmp x y ≡ Less
    across v w x y l c d =
        let (s, m, p) = of_map (key v) (sources_of log v) x c in
        let (t, n, q) = of_map (key w) (sources_of log w) y d in
        let e : key_cmp (key v s) (key w t) ≡ Less = let P : Ordering → Type 0 = λ o. ordering_then o (nat_cmp s t) ≡ Less in subst P (sym (nat-less-from v w l)) refl in
        let F : Key → Type 0 = λ k. key_cmp k (key w t) ≡ Less in
        let G : Key → Type 0 = λ k. key_cmp x k ≡ Less in
        subst G q (subst F p e)

    there : (x : Key) → Contains keys x → Contains (flat_map (λ word. map (key word) (sources_of log word)) (range_with_len 0 (length log.last_tags))) x
    there x c =
        let m = are.only x c in
        let (l, (t, a, h, w, q)) = of_sources log x.word x.source m in
        let b = (entry_is log formed t a h).word in
        in_flat_map (λ word. map (key word) (sources_of log word)) (range_with_len 0 (length log.last_tags)) x.word x (in_range 0 (length log.last_tags) x.word (omega arith) (omega (arith, b, w)))
        (in_map (key x.word) (sources_of log x.word) x.source m)

    back : (x : Key) → Contains (flat_map (λ word. map (key word) (sources_of log word)) (range_with_len 0 (length log.last_tags))) x → Contains keys x
    back x c =
        let (w, m, d) = of_flat_map (λ word. map (key word) (sources_of log word)) (range_with_len 0 (length log.last_tags)) x c in
        let (s, n, q) = of_map (key w) (sources_of log w) x d in
        let P : Key → Type 0 = λ k. Contains keys k in subst P q (are.all w s n)

pub last_rows-are : (log : Log) → IsWellFormed log → (keys : List Key) (reads : List Read) → AreInOrder keys → AreReadsInOrder reads → AreKeys log keys → AreReads log reads →
    rows_of (map (λ (r : Read). r.last) reads) (key_starts keys reads) ≡ last_rows log
last_rows-are log formed keys reads h r are reads_are =
    same_lists (rows_of (map (λ (r : Read). r.last) reads) (key_starts keys reads)) (map (λ (k : Key). last_reads_from log k.word k.source) keys) (rows_long ∙ sym keys_long) row ∙
    ap (map (λ (k : Key). last_reads_from log k.word k.source)) (keys_listed log formed keys h are) ∙
    map-flat_map (λ (k : Key). last_reads_from log k.word k.source) (λ word. map (key word) (sources_of log word)) (range_with_len 0 (length log.last_tags)) ∙
    ap (λ (f : ℕ → List (List ℕ)). flat_map f (range_with_len 0 (length log.last_tags))) (λ i word. map-map (λ (k : Key). last_reads_from log k.word k.source) (key word) (sources_of log word) i)
  where
    rows_long : length (rows_of (map (λ (r : Read). r.last) reads) (key_starts keys reads)) ≡ length keys
    rows_long =
        let n = length-map keys (λ (key : Key). count_by (is_read_up_to key) reads) in
        let m = length-map-range_with_len (λ i. cut (map (λ (r : Read). r.last) reads) (get_or (key_starts keys reads) i 0) (get_or (key_starts keys reads) (i + 1) 0)) 0 (length (key_starts keys reads) - 1) in
        omega (arith, n, m)

    keys_long : length (map (λ (k : Key). last_reads_from log k.word k.source) keys) ≡ length keys
    keys_long = length-map keys (λ (k : Key). last_reads_from log k.word k.source)

    row : (g : ℕ) (d : List ℕ) → g < length (rows_of (map (λ (r : Read). r.last) reads) (key_starts keys reads)) →
        get_or (rows_of (map (λ (r : Read). r.last) reads) (key_starts keys reads)) g d ≡ get_or (map (λ (k : Key). last_reads_from log k.word k.source) keys) g d
    row g d l =
        let m : g < length keys = let n = rows_long in omega (arith, l, n) in
        let n = length-map keys (λ (key : Key). count_by (is_read_up_to key) reads) in
        let x = key_starts-at keys reads g (omega (arith, m)) in
        let o : g + 1 ≡ suc g = omega arith in
        let y : get_or (key_starts keys reads) (g + 1) 0 ≡ key_start keys reads (suc g) = ap (λ k. get_or (key_starts keys reads) k 0) o ∙ key_starts-at keys reads (suc g) (omega (arith, m)) in
        get_or-map-range_with_len (λ i. cut (map (λ (r : Read). r.last) reads) (get_or (key_starts keys reads) i 0) (get_or (key_starts keys reads) (i + 1) 0)) 0 (length (key_starts keys reads) - 1) g g d
        (omega (arith, n, m)) (omega arith) ∙
        ap (λ a. cut (map (λ (r : Read). r.last) reads) a (get_or (key_starts keys reads) (g + 1) 0)) x ∙ ap (λ b. cut (map (λ (r : Read). r.last) reads) (key_start keys reads g) b) y ∙
        last_row log keys reads h r are reads_are g m ∙ sym (get_or-map (λ (k : Key). last_reads_from log k.word k.source) keys g no_key d m)

-- the starts of one key more
pub key_more : (keys : List Key) (reads : List Read) (i x : ℕ) (old new : List ℕ) → i < length keys → old ≡ 0 ∷ map (λ (key : Key). count_by (is_read_up_to key) reads) (take i keys) →
    x ≡ count_by (is_read_up_to (get_or keys i no_key)) reads → new ≡ old ++ x ∷ [] → new ≡ 0 ∷ map (λ (key : Key). count_by (is_read_up_to key) reads) (take (i + 1) keys)
key_more keys reads i x old new l o e n =
    n ∙ ap (λ (xs : List ℕ). xs ++ x ∷ []) o ∙ ap (λ (y : ℕ). (0 ∷ map (λ (key : Key). count_by (is_read_up_to key) reads) (take i keys)) ++ y ∷ []) e ∙
    ap (λ (xs : List ℕ). 0 ∷ xs) (sym (map_more (λ (key : Key). count_by (is_read_up_to key) reads) keys i no_key l))

pub key_starts-end : (keys : List Key) (reads : List Read) (i : ℕ) (starts : List ℕ) → length keys ≤ i → starts ≡ 0 ∷ map (λ (key : Key). count_by (is_read_up_to key) reads) (take i keys) → starts ≡ key_starts keys reads
key_starts-end keys reads i starts l e = e ∙ ap (λ (ks : List Key). 0 ∷ map (λ (key : Key). count_by (is_read_up_to key) reads) ks) (take_all i keys l)

pub last_starts-of : (keys : List Key) (reads : List Read) (items starts : List ℕ) → AreInOrder keys → items ≡ map (λ (r : Read). r.last) reads → starts ≡ key_starts keys reads → AreStarts items starts
last_starts-of keys reads items starts h p q =
    let P : List ℕ → Type 0 = λ xs. AreStarts xs starts in
    let Q : List ℕ → Type 0 = λ xs. AreStarts (map (λ (r : Read). r.last) reads) xs in
    subst P (sym p) (subst Q (sym q) (last_starts keys reads h))

pub last_rows-of : (keys : List Key) (reads : List Read) (items starts : List ℕ) (rows : List (List ℕ)) → AreInOrder keys → AreReadsInOrder reads → items ≡ map (λ (r : Read). r.last) reads → starts ≡ key_starts keys reads →
    rows ≡ rows_of items starts → (log : Log) → IsWellFormed log → AreKeys log keys → AreReads log reads → rows ≡ last_rows log
last_rows-of keys reads items starts rows h r p q s log formed are reads_are =
    s ∙ ap (λ (xs : List ℕ). rows_of xs starts) p ∙ ap (rows_of (map (λ (r : Read). r.last) reads)) q ∙ last_rows-are log formed keys reads h r are reads_are
