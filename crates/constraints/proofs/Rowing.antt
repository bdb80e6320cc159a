-- The rows of sources and of last reads, cut from sorted keys and reads.
use Rattle.std.proofs.Common.{◌≡◌, ℕ, zero, suc, ◌+◌, ◌-◌, ◌<◌, ◌≤◌, true, false, leb, Ordering, nat_cmp, List, [], ◌∷◌, ◌++◌, length, get_or, map, refl, sym, ◌∙◌, ap, subst, arith, inl, inr, ◌⊎◌}
use Rattle.std.specs.Prelude.{Contains}
use Rattle.std.specs.Ordering.{is_le, is_gt, ordering_then, ordering_reverse}
use Rattle.std.specs.declared.cmp.Ordering.TheVariants.{Less, Equal, Greater}
use Rattle.std.specs.List.{range_with_len, count_by}
use Rattle.std.specs.List.Sorted.{IsPartitionedBy}
use Rattle.std.proofs.lemmas.Cmp.{nat_cmp_total, upto, tied_itself, ranked, by_ranked}
use Rattle.std.proofs.lemmas.Bool.{cases_lt, cases_order, leb-true, leb-false, le-leb, both_ways}
use Rattle.std.proofs.lemmas.List.{get_or_default, get_or-map, length-map}
use Rattle.std.proofs.lemmas.List.FromFn.{length-map-range_with_len, get_or-map-range_with_len}
use Rattle.std.proofs.lemmas.List.Sums.{count_by-le-length}
use Rattle.std.proofs.lemmas.List.Elements.{Contains-get_or}
use Rattle.replay_model.specs.Logs.{Log}
use Rattle.constraints.specs.declared.reads.Read.{Read}
use Rattle.constraints.specs.declared.reads.Key.{Key}
use Rattle.constraints.specs.Constraints.{sources_of, last_reads_from}
use Rattle.constraints.specs.Rows.{cut, rows_of, AreStarts}
use Rattle.constraints.specs.Building.{key_of, key_cmp, read_cmp, is_read_up_to, AreInOrder, AreReadsInOrder, AreKeys, AreReads, source_rows}
use Rattle.constraints.proofs.Members.{Rising, same_rising}
use Rattle.constraints.proofs.Strict.{nat-less}
use Rattle.constraints.proofs.Gathering.{key_total}
use Rattle.constraints.proofs.Naming.{map_range_more}
use Rattle.constraints.proofs.Points.{count-point, count-more}
use Rattle.constraints.proofs.Cuts.{of_cut, in_cut, cut-pairs, same_map_range}
use Rattle.constraints.proofs.Rivals.{sources-rising}
use Rattle.constraints.proofs.Shapes.{last_reads-rising}

abbrev pub no_key : Key
no_key = record { word = 0; source = 0 }

-- keys in order go by word, and those of one word by source
pub key-words : (a b : Key) → key_cmp a b ≡ Less → (a.word < b.word) ⊎ ((a.word ≡ b.word) × (a.source < b.source))
key-words a b h = by_ranked (a.word < b.word) (a.word ≡ b.word) (b.word < a.word) (nat_cmp a.word b.word) (ranked a.word b.word (nat_cmp a.word b.word) refl)
    (λ e l. inl l)
    (λ e q. inr (q, nat-less a.source b.source (let P : Ordering → Type 0 = λ o. ordering_then o (nat_cmp a.source b.source) ≡ Less in subst P e h)))
    (λ e l. let P : Ordering → Type 0 = λ o. ordering_then o (nat_cmp a.source b.source) ≡ Less in let q = subst P e h in cc q)

pub word-partitioned : (keys : List Key) → AreInOrder keys → (w : ℕ) → IsPartitionedBy (λ (k : Key). leb k.word w) keys
word-partitioned keys h w i j d l m t = go (cases_lt i j)
  where
    u : (get_or keys j d).word ≤ w
    u = leb-true (get_or keys j d).word w t

    up : (get_or keys i d).word < (get_or keys j d).word ⊎ (((get_or keys i d).word ≡ (get_or keys j d).word) × ((get_or keys i d).source < (get_or keys j d).source)) → (get_or keys i d).word ≤ w
    up (inl s) = let v = u in omega (arith, s, v)
    up (inr (q, s)) = let v = u in omega (arith, q, v)

    go : (i < j) ⊎ (j ≤ i) → leb (get_or keys i d).word w ≡ true
    go (inl s) = le-leb (get_or keys i d).word w (up (key-words (get_or keys i d) (get_or keys j d) (h i j d s m)))
    go (inr s) = let q : j ≡ i = omega (arith, l, s) in let P : ℕ → Type 0 = λ n. leb (get_or keys n d).word w ≡ true in subst P q t

pub le-not_gt : (o : Ordering) → is_le o ≡ true → is_gt o ≡ false
le-not_gt Less h = refl
le-not_gt Equal h = refl
le-not_gt Greater h = cc

pub not_gt-le : (o : Ordering) → is_gt o ≡ false → is_le o ≡ true
not_gt-le Less h = refl
not_gt-le Equal h = refl
not_gt-le Greater h = cc

-- keys of reads in order do not fall
pub key-rises : (a b : Read) → read_cmp a b ≡ Less → is_gt (key_cmp (key_of a) (key_of b)) ≡ false
key-rises a b h = go (nat_cmp a.word b.word) (nat_cmp a.source b.source) (nat_cmp a.last b.last) h
  where
    go : (u v w : Ordering) → ordering_then u (ordering_then v w) ≡ Less → is_gt (ordering_then u v) ≡ false
    go Less v w e = refl
    go Equal Less w e = refl
    go Equal Equal w e = refl
    go Equal Greater w e = cc
    go Greater v w e = cc

pub read-partitioned : (reads : List Read) → AreReadsInOrder reads → (key : Key) → IsPartitionedBy (is_read_up_to key) reads
read-partitioned reads h key i j d l m t = go (cases_lt i j)
  where
    go : (i < j) ⊎ (j ≤ i) → is_read_up_to key (get_or reads i d) ≡ true
    go (inl s) = not_gt-le (key_cmp (key_of (get_or reads i d)) key) (upto key_total (key_of (get_or reads i d)) (key_of (get_or reads j d)) key
        (key-rises (get_or reads i d) (get_or reads j d) (h i j d s m)) (le-not_gt (key_cmp (key_of (get_or reads j d)) key) t))
    go (inr s) = let q : j ≡ i = omega (arith, l, s) in let P : ℕ → Type 0 = λ n. is_read_up_to key (get_or reads n d) ≡ true in subst P q t

-- where the sources of a word begin among the keys
abbrev pub word_start : List Key → ℕ → ℕ
word_start keys zero = 0
word_start keys (suc w) = count_by (λ (k : Key). leb k.word w) keys

abbrev pub word_starts : List Key → ℕ → List ℕ
word_starts keys words = 0 ∷ map (λ word. count_by (λ (key : Key). leb key.word word) keys) (range_with_len 0 words)

word_starts-at : (keys : List Key) (words w : ℕ) → w ≤ words → get_or (word_starts keys words) w 0 ≡ word_start keys w
word_starts-at keys words zero l = refl
word_starts-at keys words (suc w) l = get_or-map-range_with_len (λ word. count_by (λ (key : Key). leb key.word word) keys) 0 words w w 0 (omega arith) (omega arith)

word_start-le : (keys : List Key) (w : ℕ) → word_start keys w ≤ length keys
word_start-le keys zero = omega arith
word_start-le keys (suc w) = count_by-le-length (λ (k : Key). leb k.word w) keys

word_start-rises : (keys : List Key) (w : ℕ) → word_start keys w ≤ word_start keys (suc w)
word_start-rises keys zero = omega arith
word_start-rises keys (suc w) = count-more (λ (k : Key). leb k.word w) (λ (k : Key). leb k.word (suc w)) keys
    (λ k t. let l = leb-true k.word w t in le-leb k.word (suc w) (omega (arith, l)))

-- a key stands before the start of a word exactly where it is of an earlier one
word_before : (keys : List Key) → AreInOrder keys → (w k : ℕ) (d : Key) → k < word_start keys w → (get_or keys k d).word < w
word_before keys h zero k d l = absurd (omega (arith, l))
word_before keys h (suc w) k d l =
    let t = (count-point (λ (k : Key). leb k.word w) keys (word-partitioned keys h w)).0 k d (omega arith) l in
    let m = leb-true (get_or keys k d).word w t in omega (arith, m)

word_after : (keys : List Key) → AreInOrder keys → (w k : ℕ) (d : Key) → word_start keys w ≤ k → k < length keys → w ≤ (get_or keys k d).word
word_after keys h zero k d l m = omega arith
word_after keys h (suc w) k d l m =
    let t = (count-point (λ (k : Key). leb k.word w) keys (word-partitioned keys h w)).1 k d l m in
    let n = leb-false (get_or keys k d).word w t in omega (arith, n)

-- the sources of a word are those of its keys
source_row : (log : Log) (keys : List Key) → AreInOrder keys → AreKeys log keys → (w : ℕ) → cut (map (λ (k : Key). k.source) keys) (word_start keys w) (word_start keys (suc w)) ≡ sources_of log w
source_row log keys h are w = same_rising (cut items a b) (sources_of log w) rising (sources-rising log w) there back
  where
    items : List ℕ
    items = map (λ (k : Key). k.source) keys

    a : ℕ
    a = word_start keys w

    b : ℕ
    b = word_start keys (suc w)

    up : word_start keys w ≤ word_start keys (suc w)
    up = word_start-rises keys w

    top : word_start keys (suc w) ≤ length (map (λ (k : Key). k.source) keys)
    top = let l = word_start-le keys (suc w) in let m = length-map keys (λ (k : Key). k.source) in omega (arith, l, m)

    inside : (k : ℕ) → k < word_start keys (suc w) → k < length keys
    inside k l = let m = word_start-le keys (suc w) in omega (arith, l, m)

    word : (k : ℕ) → word_start keys w ≤ k → k < word_start keys (suc w) → (get_or keys k no_key).word ≡ w
    word k l m =
        let p = word_before keys h (suc w) k no_key m in
        let q = word_after keys h w k no_key l (inside k m) in
        omega (arith, p, q)

    at : (k d : ℕ) → k < length keys → get_or (map (λ (k : Key). k.source) keys) k d ≡ (get_or keys k no_key).source
    at k d l = get_or-map (λ (k : Key). k.source) keys k no_key d l

    rising : Rising (cut (map (λ (k : Key). k.source) keys) (word_start keys w) (word_start keys (suc w)))
    rising = cut-pairs (λ x y. x < y) (map (λ (k : Key). k.source) keys) (word_start keys w) (word_start keys (suc w)) up top pair
      where
        pair : (i j d : ℕ) → word_start keys w ≤ i → i < j → j < word_start keys (suc w) → get_or (map (λ (k : Key). k.source) keys) i d < get_or (map (λ (k : Key). k.source) keys) j d
        pair i j d l m n =
            let x = at i d (inside i (omega (arith, m, n))) in
            let y = at j d (inside j n) in
            let p = word i l (omega (arith, m, n)) in
            let q = word j (omega (arith, l, m)) n in
            go (key-words (get_or keys i no_key) (get_or keys j no_key) (h i j no_key m (inside j n))) x y p q
          where
            go : ((get_or keys i no_key).word < (get_or keys j no_key).word) ⊎ (((get_or keys i no_key).word ≡ (get_or keys j no_key).word) × ((get_or keys i no_key).source < (get_or keys j no_key).source)) →
                get_or (map (λ (k : Key). k.source) keys) i d ≡ (get_or keys i no_key).source → get_or (map (λ (k : Key). k.source) keys) j d ≡ (get_or keys j no_key).source →
                (get_or keys i no_key).word ≡ w → (get_or keys j no_key).word ≡ w → get_or (map (λ (k : Key). k.source) keys) i d < get_or (map (λ (k : Key). k.source) keys) j d
            go (inl s) x y p q = absurd (omega (arith, s, p, q))
            go (inr (e, s)) x y p q = omega (arith, s, x, y)

    there : (x : ℕ) → Contains (cut (map (λ (k : Key). k.source) keys) (word_start keys w) (word_start keys (suc w))) x → Contains (sources_of log w) x
    there x c =
        let (k, l, m, e) = of_cut (map (λ (k : Key). k.source) keys) (word_start keys w) (word_start keys (suc w)) x up top c in
        let s : (get_or keys k no_key).source ≡ x = sym (at k x (inside k m)) ∙ e in
        let P : ℕ → Type 0 = λ v. Contains (sources_of log v) (get_or keys k no_key).source in
        let Q : ℕ → Type 0 = λ v. Contains (sources_of log w) v in
        subst Q s (subst P (word k l m) (are.only (get_or keys k no_key) (Contains-get_or keys k no_key (inside k m))))

    back : (x : ℕ) → Contains (sources_of log w) x → Contains (cut (map (λ (k : Key). k.source) keys) (word_start keys w) (word_start keys (suc w))) x
    back x c = go (are.all w x c)
      where
        go : Contains keys (record { word = w; source = x }) → Contains (cut (map (λ (k : Key). k.source) keys) (word_start keys w) (word_start keys (suc w))) x
        go (k, l, e) =
            let q : get_or keys k no_key ≡ record { word = w; source = x } = get_or_default keys k no_key (record { word = w; source = x }) l ∙ e in
            let u : (get_or keys k no_key).word ≡ w = ap (λ (y : Key). y.word) q in
            let v : (get_or keys k no_key).source ≡ x = ap (λ (y : Key). y.source) q in
            in_cut (map (λ (k : Key). k.source) keys) (word_start keys w) (word_start keys (suc w)) x k up top (from k l u (cases_lt k (word_start keys w))) (to k l u (cases_lt k (word_start keys (suc w)))) (at k x l ∙ v)
          where
            from : (k : ℕ) → k < length keys → (get_or keys k no_key).word ≡ w → (k < word_start keys w) ⊎ (word_start keys w ≤ k) → word_start keys w ≤ k
            from k l u (inl m) = let p = word_before keys h w k no_key m in absurd (omega (arith, p, u))
            from k l u (inr m) = m

            to : (k : ℕ) → k < length keys → (get_or keys k no_key).word ≡ w → (k < word_start keys (suc w)) ⊎ (word_start keys (suc w) ≤ k) → k < word_start keys (suc w)
            to k l u (inl m) = m
            to k l u (inr m) = let p = word_after keys h (suc w) k no_key m l in absurd (omega (arith, p, u))

-- so rows that begin at the words' starts are those of the sources
pub source_starts : (keys : List Key) (words : ℕ) → AreStarts (map (λ (k : Key). k.source) keys) (word_starts keys words)
source_starts keys words = record { some = omega arith; first = refl; rising = rising; within = within }
  where
    long : length (word_starts keys words) ≡ words + 1
    long = let n = length-map-range_with_len (λ word. count_by (λ (key : Key). leb key.word word) keys) 0 words in omega (arith, n)

    rising : (i : ℕ) → i + 1 < length (word_starts keys words) → get_or (word_starts keys words) i 0 ≤ get_or (word_starts keys words) (i + 1) 0
    rising i l =
        let n = long in
        let x = word_starts-at keys words i (omega (arith, l, n)) in
        let y = word_starts-at keys words (suc i) (omega (arith, l, n)) in
        let o : i + 1 ≡ suc i = omega arith in
        let e : get_or (word_starts keys words) (i + 1) 0 ≡ get_or (word_starts keys words) (suc i) 0 = ap (λ k. get_or (word_starts keys words) k 0) o in
        let r = word_start-rises keys i in
        omega (arith, x, y, e, r)

    within : (i : ℕ) → i < length (word_starts keys words) → get_or (word_starts keys words) i 0 ≤ length (map (λ (k : Key). k.source) keys)
    within i l =
        let n = long in
        let x = word_starts-at keys words i (omega (arith, l, n)) in
        let m = word_start-le keys i in
        let o = length-map keys (λ (k : Key). k.source) in
        omega (arith, x, m, o)

pub source_rows-are : (log : Log) (keys : List Key) (words : ℕ) → words ≡ length log.last_tags → AreInOrder keys → AreKeys log keys → rows_of (map (λ (k : Key). k.source) keys) (word_starts keys words) ≡ source_rows log
source_rows-are log keys words q h are =
    let n = length-map-range_with_len (λ word. count_by (λ (key : Key). leb key.word word) keys) 0 words in
    let m : length (word_starts keys words) - 1 ≡ words = omega (arith, n) in
    ap (λ k. map (λ i. cut (map (λ (k : Key). k.source) keys) (get_or (word_starts keys words) i 0) (get_or (word_starts keys words) (i + 1) 0)) (range_with_len 0 k)) m ∙
    same_map_range (λ i. cut (map (λ (k : Key). k.source) keys) (get_or (word_starts keys words) i 0) (get_or (word_starts keys words) (i + 1) 0)) (sources_of log) words row ∙
    ap (λ k. map (sources_of log) (range_with_len 0 k)) q
  where
    row : (i : ℕ) → i < words → cut (map (λ (k : Key). k.source) keys) (get_or (word_starts keys words) i 0) (get_or (word_starts keys words) (i + 1) 0) ≡ sources_of log i
    row i l =
        let x = word_starts-at keys words i (omega arith) in
        let o : i + 1 ≡ suc i = omega arith in
        let y : get_or (word_starts keys words) (i + 1) 0 ≡ word_start keys (suc i) = ap (λ k. get_or (word_starts keys words) k 0) o ∙ word_starts-at keys words (suc i) (omega arith) in
        ap (λ a. cut (map (λ (k : Key). k.source) keys) a (get_or (word_starts keys words) (i + 1) 0)) x ∙ ap (λ b. cut (map (λ (k : Key). k.source) keys) (word_start keys i) b) y ∙ source_row log keys h are i

-- where the last reads of a key begin among the reads
abbrev pub key_start : List Key → List Read → ℕ → ℕ
key_start keys reads zero = 0
key_start keys reads (suc g) = count_by (is_read_up_to (get_or keys g no_key)) reads

abbrev pub key_starts : List Key → List Read → List ℕ
key_starts keys reads = 0 ∷ map (λ (key : Key). count_by (is_read_up_to key) reads) keys

pub key_starts-at : (keys : List Key) (reads : List Read) (g : ℕ) → g ≤ length keys → get_or (key_starts keys reads) g 0 ≡ key_start keys reads g
key_starts-at keys reads zero l = refl
key_starts-at keys reads (suc g) l = get_or-map (λ (key : Key). count_by (is_read_up_to key) reads) keys g no_key 0 (omega arith)

pub key_start-le : (keys : List Key) (reads : List Read) (g : ℕ) → key_start keys reads g ≤ length reads
key_start-le keys reads zero = omega arith
key_start-le keys reads (suc g) = count_by-le-length (is_read_up_to (get_or keys g no_key)) reads

less-not_gt : (o : Ordering) → o ≡ Less → is_gt o ≡ false
less-not_gt Less h = refl
less-not_gt Equal h = refl
less-not_gt Greater h = cc

pub key_start-rises : (keys : List Key) (reads : List Read) → AreInOrder keys → (g : ℕ) → g < length keys → key_start keys reads g ≤ key_start keys reads (suc g)
key_start-rises keys reads h zero l = omega arith
key_start-rises keys reads h (suc g) l = count-more (is_read_up_to (get_or keys g no_key)) (is_read_up_to (get_or keys (suc g) no_key)) reads
    (λ r t. not_gt-le (key_cmp (key_of r) (get_or keys (suc g) no_key)) (upto key_total (key_of r) (get_or keys g no_key) (get_or keys (suc g) no_key)
    (le-not_gt (key_cmp (key_of r) (get_or keys g no_key)) t) (less-not_gt (key_cmp (get_or keys g no_key) (get_or keys (suc g) no_key)) (h g (suc g) no_key (omega arith) l))))

-- a key that is less than another is not above it, and the other is
key-above : (a b : Key) → key_cmp a b ≡ Less → is_le (key_cmp b a) ≡ false
key-above a b h =
    let e : key_cmp b a ≡ ordering_reverse (key_cmp a b) = key_total.antisymm b a in
    let P : Ordering → Type 0 = λ o. is_le o ≡ false in
    subst P (sym (e ∙ ap ordering_reverse h)) refl

less-le : (o : Ordering) → o ≡ Less → is_le o ≡ true
less-le Less h = refl
less-le Equal h = cc
less-le Greater h = cc

key-itself : (a : Key) → is_le (key_cmp a a) ≡ true
key-itself a = let P : Ordering → Type 0 = λ o. is_le o ≡ true in subst P (sym (tied_itself key_total a)) refl

-- the reads between the starts of a key and of the next are those of the key
key_between : (log : Log) (keys : List Key) (reads : List Read) → AreInOrder keys → AreReadsInOrder reads → AreKeys log keys → AreReads log reads → (g k : ℕ) (d : Read) → g < length keys →
    key_start keys reads g ≤ k → k < key_start keys reads (suc g) → key_of (get_or reads k d) ≡ get_or keys g no_key
key_between log keys reads h r are reads_are g k d gl l m = find (are.all (get_or reads k d).word (get_or reads k d).source (reads_are.only (get_or reads k d) (Contains-get_or reads k d inside)).0)
  where
    inside : k < length reads
    inside = let n = key_start-le keys reads (suc g) in omega (arith, m, n)

    low : is_le (key_cmp (key_of (get_or reads k d)) (get_or keys g no_key)) ≡ true
    low = (count-point (is_read_up_to (get_or keys g no_key)) reads (read-partitioned reads r (get_or keys g no_key))).0 k d (omega arith) m

    high : (g : ℕ) → key_start keys reads (suc g) ≤ k → is_le (key_cmp (key_of (get_or reads k d)) (get_or keys g no_key)) ≡ false
    high g l = (count-point (is_read_up_to (get_or keys g no_key)) reads (read-partitioned reads r (get_or keys g no_key))).1 k d l inside

    find : Contains keys (key_of (get_or reads k d)) → key_of (get_or reads k d) ≡ get_or keys g no_key
    find (i, il, e) = go (cases_order i g)
      where
        at : get_or keys i no_key ≡ key_of (get_or reads k d)
        at = get_or_default keys i no_key (key_of (get_or reads k d)) il ∙ e

        earlier : (g : ℕ) → i < g → g < length keys → key_start keys reads g ≤ k → ⊥
        earlier zero s gl l = absurd (omega arith)
        earlier (suc g) s gl l = both_ways (is_le (key_cmp (key_of (get_or reads k d)) (get_or keys g no_key))) (high g l) (up (cases_order i g))
          where
            P : Key → Type 0
            P key = is_le (key_cmp key (get_or keys g no_key)) ≡ true

            up : (i ≡ g) ⊎ ((i < g) ⊎ (g < i)) → is_le (key_cmp (key_of (get_or reads k d)) (get_or keys g no_key)) ≡ true
            up (inl q) = let Q : Key → Type 0 = λ key. is_le (key_cmp key (get_or keys g no_key)) ≡ true in subst Q (ap (λ n. get_or keys n no_key) (sym q) ∙ at) (key-itself (get_or keys g no_key))
            up (inr (inl t)) = let Q : Key → Type 0 = λ key. is_le (key_cmp key (get_or keys g no_key)) ≡ true in
                subst Q at (less-le (key_cmp (get_or keys i no_key) (get_or keys g no_key)) (h i g no_key t (omega (arith, gl))))
            up (inr (inr t)) = absurd (omega (arith, s, t))

        go : (i ≡ g) ⊎ ((i < g) ⊎ (g < i)) → key_of (get_or reads k d) ≡ get_or keys g no_key
        go (inl q) = sym at ∙ ap (λ n. get_or keys n no_key) q
        go (inr (inl s)) = absurd (earlier g s gl l)
        go (inr (inr s)) =
            let t : is_le (key_cmp (get_or keys i no_key) (get_or keys g no_key)) ≡ false = key-above (get_or keys g no_key) (get_or keys i no_key) (h g i no_key s il) in
            let Q : Key → Type 0 = λ key. is_le (key_cmp key (get_or keys g no_key)) ≡ false in
            absurd (both_ways (is_le (key_cmp (key_of (get_or reads k d)) (get_or keys g no_key))) (subst Q at t) low)

pub last_row : (log : Log) (keys : List Key) (reads : List Read) → AreInOrder keys → AreReadsInOrder reads → AreKeys log keys → AreReads log reads → (g : ℕ) → g < length keys →
    cut (map (λ (r : Read). r.last) reads) (key_start keys reads g) (key_start keys reads (suc g)) ≡ last_reads_from log (get_or keys g no_key).word (get_or keys g no_key).source
last_row log keys reads h r are reads_are g gl = same_rising (cut (map (λ (r : Read). r.last) reads) (key_start keys reads g) (key_start keys reads (suc g)))
    (last_reads_from log (get_or keys g no_key).word (get_or keys g no_key).source) rising (last_reads-rising log (get_or keys g no_key).word (get_or keys g no_key).source) there back
  where
    no_read : Read
    no_read = record { word = 0; source = 0; last = 0 }

    up : key_start keys reads g ≤ key_start keys reads (suc g)
    up = key_start-rises keys reads h g gl

    top : key_start keys reads (suc g) ≤ length (map (λ (r : Read). r.last) reads)
    top = let l = key_start-le keys reads (suc g) in let m = length-map reads (λ (r : Read). r.last) in omega (arith, l, m)

    inside : (k : ℕ) → k < key_start keys reads (suc g) → k < length reads
    inside k l = let m = key_start-le keys reads (suc g) in omega (arith, l, m)

    key : (k : ℕ) → key_start keys reads g ≤ k → k < key_start keys reads (suc g) → key_of (get_or reads k no_read) ≡ get_or keys g no_key
    key k l m = key_between log keys reads h r are reads_are g k no_read gl l m

    at : (k d : ℕ) → k < length reads → get_or (map (λ (r : Read). r.last) reads) k d ≡ (get_or reads k no_read).last
    at k d l = get_or-map (λ (r : Read). r.last) reads k no_read d l

    rising : Rising (cut (map (λ (r : Read). r.last) reads) (key_start keys reads g) (key_start keys reads (suc g)))
    rising = cut-pairs (λ x y. x < y) (map (λ (r : Read). r.last) reads) (key_start keys reads g) (key_start keys reads (suc g)) up top pair
      where
        lower : (a b : Read) → key_of a ≡ key_of b → read_cmp a b ≡ Less → a.last < b.last
        lower a b e s = go (tied_itself nat_cmp_total b.word) (tied_itself nat_cmp_total b.source)
          where
            u : nat_cmp a.word b.word ≡ nat_cmp b.word b.word
            u = ap (λ (k : Key). nat_cmp k.word b.word) e

            v : nat_cmp a.source b.source ≡ nat_cmp b.source b.source
            v = ap (λ (k : Key). nat_cmp k.source b.source) e

            go : nat_cmp b.word b.word ≡ Equal → nat_cmp b.source b.source ≡ Equal → a.last < b.last
            go p q =
                let P : Ordering → Type 0 = λ o. ordering_then o (ordering_then (nat_cmp a.source b.source) (nat_cmp a.last b.last)) ≡ Less in
                let Q : Ordering → Type 0 = λ o. ordering_then o (nat_cmp a.last b.last) ≡ Less in
                nat-less a.last b.last (subst Q (v ∙ q) (subst P (u ∙ p) s))

        pair : (i j d : ℕ) → key_start keys reads g ≤ i → i < j → j < key_start keys reads (suc g) → get_or (map (λ (r : Read). r.last) reads) i d < get_or (map (λ (r : Read). r.last) reads) j d
        pair i j d l m n =
            let il : i < key_start keys reads (suc g) = omega (arith, m, n) in
            let jl : key_start keys reads g ≤ j = omega (arith, l, m) in
            let x = at i d (inside i il) in
            let y = at j d (inside j n) in
            let s = lower (get_or reads i no_read) (get_or reads j no_read) (key i l il ∙ sym (key j jl n)) (r i j no_read m (inside j n)) in
            omega (arith, x, y, s)

    there : (x : ℕ) → Contains (cut (map (λ (r : Read). r.last) reads) (key_start keys reads g) (key_start keys reads (suc g))) x → Contains (last_reads_from log (get_or keys g no_key).word (get_or keys g no_key).source) x
    there x c =
        let (k, l, m, e) = of_cut (map (λ (r : Read). r.last) reads) (key_start keys reads g) (key_start keys reads (suc g)) x up top c in
        let s : (get_or reads k no_read).last ≡ x = sym (at k x (inside k m)) ∙ e in
        let P : Key → Type 0 = λ v. Contains (last_reads_from log v.word v.source) (get_or reads k no_read).last in
        let Q : ℕ → Type 0 = λ v. Contains (last_reads_from log (get_or keys g no_key).word (get_or keys g no_key).source) v in
        subst Q s (subst P (key k l m) (reads_are.only (get_or reads k no_read) (Contains-get_or reads k no_read (inside k m))).1)

    back : (x : ℕ) → Contains (last_reads_from log (get_or keys g no_key).word (get_or keys g no_key).source) x → Contains (cut (map (λ (r : Read). r.last) reads) (key_start keys reads g) (key_start keys reads (suc g))) x
    back x c = go (reads_are.all (get_or keys g no_key).word (get_or keys g no_key).source x (are.only (get_or keys g no_key) (Contains-get_or keys g no_key gl)) c)
      where
        go : Contains reads (record { word = (get_or keys g no_key).word; source = (get_or keys g no_key).source; last = x }) → Contains (cut (map (λ (r : Read). r.last) reads) (key_start keys reads g) (key_start keys reads (suc g))) x
        go (k, l, e) =
            let q : get_or reads k no_read ≡ record { word = (get_or keys g no_key).word; source = (get_or keys g no_key).source; last = x } =
            get_or_default reads k no_read (record { word = (get_or keys g no_key).word; source = (get_or keys g no_key).source; last = x }) l ∙ e in
            let u : key_of (get_or reads k no_read) ≡ get_or keys g no_key = ap key_of q in
            let v : (get_or reads k no_read).last ≡ x = ap (λ (y : Read). y.last) q in
            in_cut (map (λ (r : Read). r.last) reads) (key_start keys reads g) (key_start keys reads (suc g)) x k up top (from k g l u gl (cases_lt k (key_start keys reads g))) (to k l u (cases_lt k (key_start keys reads (suc g)))) (at k x l ∙ v)
          where
            from : (k g : ℕ) → k < length reads → key_of (get_or reads k no_read) ≡ get_or keys g no_key → g < length keys → (k < key_start keys reads g) ⊎ (key_start keys reads g ≤ k) → key_start keys reads g ≤ k
            from k g l u gl (inr m) = m
            from k zero l u gl (inl m) = absurd (omega (arith, m))
            from k (suc g) l u gl (inl m) =
                let t : is_le (key_cmp (key_of (get_or reads k no_read)) (get_or keys g no_key)) ≡ true =
                (count-point (is_read_up_to (get_or keys g no_key)) reads (read-partitioned reads r (get_or keys g no_key))).0 k no_read (omega arith) m in
                let P : Key → Type 0 = λ v. is_le (key_cmp v (get_or keys g no_key)) ≡ true in
                absurd (both_ways (is_le (key_cmp (get_or keys (suc g) no_key) (get_or keys g no_key))) (key-above (get_or keys g no_key) (get_or keys (suc g) no_key) (h g (suc g) no_key (omega arith) gl)) (subst P u t))

            to : (k : ℕ) → k < length reads → key_of (get_or reads k no_read) ≡ get_or keys g no_key → (k < key_start keys reads (suc g)) ⊎ (key_start keys reads (suc g) ≤ k) → k < key_start keys reads (suc g)
            to k l u (inl m) = m
            to k l u (inr m) =
                let t : is_le (key_cmp (key_of (get_or reads k no_read)) (get_or keys g no_key)) ≡ false =
                (count-point (is_read_up_to (get_or keys g no_key)) reads (read-partitioned reads r (get_or keys g no_key))).1 k no_read m l in
                let P : Key → Type 0 = λ v. is_le (key_cmp v (get_or keys g no_key)) ≡ false in
                absurd (both_ways (is_le (key_cmp (get_or keys g no_key) (get_or keys g no_key))) (subst P u t) (key-itself (get_or keys g no_key)))

-- the starts of one word more
pub word_more : (keys : List Key) (w x : ℕ) (old new : List ℕ) → old ≡ word_starts keys w → x ≡ count_by (λ (k : Key). leb k.word w) keys → new ≡ old ++ x ∷ [] → new ≡ word_starts keys (w + 1)
word_more keys w x old new o e n =
    n ∙ ap (λ (xs : List ℕ). xs ++ x ∷ []) o ∙ ap (λ (y : ℕ). word_starts keys w ++ y ∷ []) e ∙
    ap (λ (xs : List ℕ). 0 ∷ xs) (sym (map_range_more (λ word. count_by (λ (k : Key). leb k.word word) keys) w))

-- at the end of the words
pub word_starts-end : (keys : List Key) (w words : ℕ) (starts : List ℕ) → w ≤ words → words ≤ w → starts ≡ word_starts keys w → starts ≡ word_starts keys words
word_starts-end keys w words starts l m e = let q : w ≡ words = omega (arith, l, m) in e ∙ ap (word_starts keys) q

pub source_starts-of : (keys : List Key) (words : ℕ) (items starts : List ℕ) → items ≡ map (λ (k : Key). k.source) keys → starts ≡ word_starts keys words → AreStarts items starts
source_starts-of keys words items starts p q =
    let P : List ℕ → Type 0 = λ xs. AreStarts xs starts in
    let Q : List ℕ → Type 0 = λ xs. AreStarts (map (λ (k : Key). k.source) keys) xs in
    subst P (sym p) (subst Q (sym q) (source_starts keys words))

pub source_rows-of : (keys : List Key) (words : ℕ) (items starts : List ℕ) (rows : List (List ℕ)) → AreInOrder keys → items ≡ map (λ (k : Key). k.source) keys → starts ≡ word_starts keys words → rows ≡ rows_of items starts →
    (log : Log) → words ≡ length log.last_tags → AreKeys log keys → rows ≡ source_rows log
source_rows-of keys words items starts rows h p q r log e are =
    r ∙ ap (λ (xs : List ℕ). rows_of xs starts) p ∙ ap (rows_of (map (λ (k : Key). k.source) keys)) q ∙ source_rows-are log keys words e h are
