-- What a judge lets stand is a row that a search may answer.
use Rattle.std.proofs.Common.{◌≡◌, ℕ, zero, suc, ◌+◌, ◌<◌, ◌≤◌, List, [], ◌∷◌, ◌++◌, length, get_or, refl, sym, ◌∙◌, ap, subst, arith, inl, inr, ◌⊎◌}
use Rattle.std.specs.Prelude.{All, Contains, sum, map, filter, not, eqb, Result, Ok, Err, Bool, IfOk, IsTrue, ◌↔◌}
use Rattle.std.specs.List.{flat_map, range_with_len}
use Rattle.std.proofs.lemmas.Bool.{cases_lt}
use Rattle.light_base.specs.declared.memory.Memory.{Memory}
use Rattle.std.proofs.lemmas.List.{get_or_default, append-nil}
use Rattle.std.proofs.lemmas.List.Folds.{flat_map-map}
use Rattle.std.proofs.lemmas.List.FromFn.{map-range_with_len_more}
use Rattle.std.proofs.lemmas.Grind.{flat_map-append}
use Rattle.std.proofs.lemmas.List.Elements.{All-nil, All-head, All-tail, All-append, All-contains, Contains-append_cases}
use Rattle.plain_search.specs.declared.Edge.{Edge}
use Rattle.plain_search.specs.Chains.{arrow}
use Rattle.plain_search.specs.Edges.{Holds}
use Rattle.plain_search.specs.Searches.{Pair, Solves, HoldsOneSide}
use Rattle.plain_search.proofs.Choosing.{Solved, solves-lesser, solves-greater, solves-cases}
use Rattle.constraints.specs.Constraints.{edges_to}
use Rattle.constraints.specs.Laws.{IsLine}
use Rattle.constraints.proofs.Members.{of_map, in_map, of_filter, of_flat_map, in_flat_map, of_range, in_range}
use Rattle.constraints.proofs.Ranked.{All-from}
use Rattle.order_judge.specs.declared.judging.Read.{Read}
use Rattle.order_judge.specs.Places.{place, IsOrder}
use Rattle.order_judge.specs.Judging.{IsOver, Respects}
use Rattle.order_judge.proofs.Filling.{place_at, same_place}
use Rattle.order_solver.specs.Rivals.{Rivalry, AtMost, AreRivals, source_at, pair_in, pairs_where, pairs_from, edges_in, problem_in}
use Rattle.order_solver.specs.Readings.{read, reads_of, reads_at, reads_up_to, reads_in}
use Rattle.order_solver.specs.Findings.{IsLineOf}
use Rattle.order_judge.proofs.Judged.{edges-fit}
use Rattle.order_solver.proofs.Testing.{side-holds}
use Rattle.order_solver.proofs.Windows.{source-in}

-- a read is of a word, a source of it, and one of its last reads
pub of_reads : (r : Rivalry) (x : Read) → Contains (reads_in r) x → (x.word < r.words) × Contains (r.sources x.word) x.source × Contains (r.last_reads x.word x.source) x.last
unfolding reads_in
of_reads r x c =
    let (w, in_words, m) = of_flat_map (reads_at r) (range_with_len 0 r.words) x c in
    let (s, in_sources, n) = of_flat_map (λ s. reads_of w s (r.last_reads w s)) (r.sources w) x m in
    let (l, in_last_reads, e) = of_map (read w s) (r.last_reads w s) x n in
    let P : Read → Type 0 = λ y. (y.word < r.words) × Contains (r.sources y.word) y.source × Contains (r.last_reads y.word y.source) y.last in
    let below = of_range 0 r.words w in_words in
    subst P e (omega (arith, below), in_sources, in_last_reads)

pub in_reads : (r : Rivalry) (word s l : ℕ) → word < r.words → Contains (r.sources word) s → Contains (r.last_reads word s) l → Contains (reads_in r) (read word s l)
unfolding reads_in
in_reads r word s l w a b =
    in_flat_map (reads_at r) (range_with_len 0 r.words) word (read word s l) (in_range 0 r.words word (omega arith) (omega arith))
    (in_flat_map (λ s. reads_of word s (r.last_reads word s)) (r.sources word) s (read word s l) a (in_map (read word s) (r.last_reads word s) l b))

-- the pairs of a list are each of an earlier and a later element
of_pairs_where : (test : ℕ → ℕ → Bool) (f : ℕ → ℕ → Pair) (xs : List ℕ) (p : Pair) → Contains (pairs_where test f xs) p → (i : ℕ) × (j : ℕ) × (i < j) × (j < length xs) × (f (get_or xs i 0) (get_or xs j 0) ≡ p)
of_pairs_where test f [] p (k, l, h) = absurd (omega (arith, l))
of_pairs_where test f (x ∷ xs) p c = go (of_pairs_where test f xs p) (Contains-append_cases (map (f x) (filter (test x) xs)) (pairs_where test f xs) p c)
  where
    go : (Contains (pairs_where test f xs) p → (i : ℕ) × (j : ℕ) × (i < j) × (j < length xs) × (f (get_or xs i 0) (get_or xs j 0) ≡ p)) → Contains (map (f x) (filter (test x) xs)) p ⊎ Contains (pairs_where test f xs) p →
        (i : ℕ) × (j : ℕ) × (i < j) × (j < length (x ∷ xs)) × (f (get_or (x ∷ xs) i 0) (get_or (x ∷ xs) j 0) ≡ p)
    go ih (inl m) =
        let (y, d, e) = of_map (f x) (filter (test x) xs) p m in
        let (k, l, h) = (of_filter (test x) xs y d).0 in
        (zero, suc k, omega arith, omega (arith, l), ap (f x) (get_or_default xs k 0 y l ∙ h) ∙ e)
    go ih (inr m) = let (i, j, a, b, e) = ih m in (suc i, suc j, omega (arith, a), omega (arith, b), e)

-- a list has no element, or some
none_or_some : (xs : List ℕ) → (xs ≡ []) ⊎ ((x : ℕ) × Contains xs x)
none_or_some [] = inl refl
none_or_some (x ∷ xs) = inr (x, (zero, omega arith, refl))

-- where the reads of one source are over before the other stands, that side of the pair holds
side_over : (r : Rivalry) (order : List ℕ) (word s t : ℕ) → AreRivals r → IsOrder (sum r.counts) order → word < r.words → Contains (r.sources word) s → Contains (r.sources word) t →
    ((l : ℕ) → Contains (r.last_reads word s) l → place order l ≤ place order t) → Holds (place order) (edges_to (r.last_reads word s) t)
side_over r order word s t rules once w a b over =
    side-holds (place order) (r.last_reads word s) t (All-from (λ l. AtMost (place order) l t) (r.last_reads word s) (λ l m. at_most l (rules.last word s l w a m) (over l m) (cases_lt (place order l) (place order t))))
  where
    at_most : (l : ℕ) → l < sum r.counts → place order l ≤ place order t → (place order l < place order t) ⊎ (place order t ≤ place order l) → AtMost (place order) l t
    at_most l n m (inl k) = inr k
    at_most l n m (inr k) = inl (same_place (sum r.counts) order once l t n (rules.source word t w b) (omega (arith, m, k)))

-- under the places of a row that the judge lets stand one side of each pair holds
one_side : (r : Rivalry) (order : List ℕ) (word s t : ℕ) → AreRivals r → Respects r.counts r.base (reads_in r) order → word < r.words → Contains (r.sources word) s → Contains (r.sources word) t →
    (s ≡ t → ⊥) → HoldsOneSide (place order) (pair_in r word s t)
one_side r order word s t rules judged w a b apart = go (none_or_some (r.last_reads word s)) (none_or_some (r.last_reads word t))
  where
    none : (last_reads : List ℕ) (to : ℕ) → last_reads ≡ [] → Holds (place order) (edges_to last_reads to)
    none last_reads to e = subst (λ (ls : List ℕ). Holds (place order) (edges_to ls to)) (sym e) (All-nil (λ (e : Edge). place order e.from < place order e.to))

    over : (x y : ℕ) (l m : ℕ) → Contains (r.sources word) x → IsOver (reads_in r) order (read word x l) (read word y m) → (k : ℕ) → Contains (r.last_reads word x) k → place order k ≤ place order y
    over x y l m c o k d = o (read word x k) (in_reads r word x k w c d) refl refl

    turn : (l m : ℕ) → IsOver (reads_in r) order (read word s l) (read word t m) ⊎ IsOver (reads_in r) order (read word t m) (read word s l) → HoldsOneSide (place order) (pair_in r word s t)
    turn l m (inl o) = inl (side_over r order word s t rules judged.each_once w a b (over s t l m a o))
    turn l m (inr o) = inr (side_over r order word t s rules judged.each_once w b a (over t s m l b o))

    go : (r.last_reads word s ≡ []) ⊎ ((l : ℕ) × Contains (r.last_reads word s) l) → (r.last_reads word t ≡ []) ⊎ ((l : ℕ) × Contains (r.last_reads word t) l) → HoldsOneSide (place order) (pair_in r word s t)
    go (inl e) other = inl (none (r.last_reads word s) t e)
    go (inr (l, c)) (inl e) = inr (none (r.last_reads word t) s e)
    go (inr (l, c)) (inr (m, d)) = turn l m (judged.turns (read word s l) (read word t m) (in_reads r word s l w a c) (in_reads r word t m w b d) refl apart)

-- each pair is of two sources of a word
of_pairs : (r : Rivalry) (p : Pair) → Contains (pairs_from r 0 r.words) p → (word : ℕ) × (i : ℕ) × (j : ℕ) × (word < r.words) × (i < j) × (j < length (r.sources word)) × (pair_in r word (source_at r word i) (source_at r word j) ≡ p)
of_pairs r p c =
    let (w, in_words, m) = of_flat_map (λ w. pairs_where (r.rival w) (pair_in r w) (r.sources w)) (range_with_len 0 r.words) p c in
    let (i, j, a, b, e) = of_pairs_where (r.rival w) (pair_in r w) (r.sources w) p m in
    let below = of_range 0 r.words w in_words in
    (w, i, j, omega (arith, below), a, b, e)

places-solve : (r : Rivalry) (order : List ℕ) → AreRivals r → Respects r.counts r.base (reads_in r) order → Solves (problem_in r) (place order)
places-solve r order rules judged = record { base = judged.rising; sides = All-from (HoldsOneSide (place order)) (pairs_from r 0 r.words) (λ p c. side p (of_pairs r p c)) }
  where
    side : (p : Pair) → (word : ℕ) × (i : ℕ) × (j : ℕ) × (word < r.words) × (i < j) × (j < length (r.sources word)) × (pair_in r word (source_at r word i) (source_at r word j) ≡ p) → HoldsOneSide (place order) p
    side p (word, i, j, w, a, b, e) =
        subst (HoldsOneSide (place order)) e
        (one_side r order word (source_at r word i) (source_at r word j) rules judged w (source-in r word i (omega (arith, a, b))) (source-in r word j b) (rules.once word i j w a b))

-- an edge is between nodes
abbrev Fits : ℕ → Edge → Type 0
Fits count e = (e.from < count) × (e.to < count)

abbrev PairFits : ℕ → Pair → Type 0
PairFits count pair = All (Fits count) pair.lesser × All (Fits count) pair.greater

side-fits : (count : ℕ) (last_reads : List ℕ) (to : ℕ) → ((l : ℕ) → Contains last_reads l → l < count) → to < count → All (Fits count) (edges_to last_reads to)
side-fits count last_reads to within t = All-from (Fits count) (edges_to last_reads to) (λ e c. fits e (of_map (λ l. arrow l to) (filter (λ l. not (eqb l to)) last_reads) e c))
  where
    fits : (e : Edge) → (l : ℕ) × Contains (filter (λ l. not (eqb l to)) last_reads) l × (arrow l to ≡ e) → Fits count e
    fits e (l, c, same) = subst (Fits count) same (within l (of_filter (λ l. not (eqb l to)) last_reads l c).0, t)

pairs-fit : (r : Rivalry) → AreRivals r → All (PairFits (sum r.counts)) (pairs_from r 0 r.words)
pairs-fit r rules = All-from (PairFits (sum r.counts)) (pairs_from r 0 r.words) (λ p c. fits p (of_pairs r p c))
  where
    fits : (p : Pair) → (word : ℕ) × (i : ℕ) × (j : ℕ) × (word < r.words) × (i < j) × (j < length (r.sources word)) × (pair_in r word (source_at r word i) (source_at r word j) ≡ p) → PairFits (sum r.counts) p
    fits p (word, i, j, w, a, b, e) =
        let s = source-in r word i (omega (arith, a, b)) in
        let t = source-in r word j b in
        subst (PairFits (sum r.counts)) e (
          side-fits (sum r.counts) (r.last_reads word (source_at r word i)) (source_at r word j) (λ l m. rules.last word (source_at r word i) l w s m) (rules.source word (source_at r word j) w t),
          side-fits (sum r.counts) (r.last_reads word (source_at r word j)) (source_at r word i) (λ l m. rules.last word (source_at r word j) l w t m) (rules.source word (source_at r word i) w s),
        )

-- edges between nodes that hold under a ranking, and ask for all that edges and pairs ask for
record Asks (edges : List Edge) (pairs : List Pair) (count : ℕ) (rank : ℕ → ℕ) : Type 0 where
  more : List Edge
  hold : Holds rank more
  ends : All (Fits count) more
  solve : (other : ℕ → ℕ) → Holds other more → Solved edges pairs other

-- the edges, and those of a side of each pair that holds
asks : (edges : List Edge) (pairs : List Pair) (count : ℕ) (rank : ℕ → ℕ) → Solved edges pairs rank → All (Fits count) edges → All (PairFits count) pairs → Asks edges pairs count rank
asks edges [] count rank s ends fits = record { more = edges; hold = s.base; ends = ends; solve = λ other h. record { base = h; sides = All-nil (HoldsOneSide other) } }
asks edges (pair ∷ pairs) count rank s ends fits =
    go (λ es t e. asks es pairs count rank t e (All-tail (PairFits count) pair pairs fits)) (All-head (PairFits count) pair pairs fits) (solves-cases edges pair pairs rank s)
  where
    go : ((es : List Edge) → Solved es pairs rank → All (Fits count) es → Asks es pairs count rank) → PairFits count pair → Solved (pair.lesser ++ edges) pairs rank ⊎ Solved (pair.greater ++ edges) pairs rank → Asks edges (pair ∷ pairs) count rank
    go ih (lesser, greater) (inl t) =
        let a = ih (pair.lesser ++ edges) t (All-append (Fits count) pair.lesser edges lesser ends) in
        record { more = a.more; hold = a.hold; ends = a.ends; solve = λ other h. solves-lesser edges pair pairs other (a.solve other h) }
    go ih (lesser, greater) (inr t) =
        let a = ih (pair.greater ++ edges) t (All-append (Fits count) pair.greater edges greater ends) in
        record { more = a.more; hold = a.hold; ends = a.ends; solve = λ other h. solves-greater edges pair pairs other (a.solve other h) }

-- an order of the nodes under whose places edges hold is a row along which they rise
order-row : (edges : List Edge) (count : ℕ) (order : List ℕ) → IsOrder count order → Holds (place order) edges → All (Fits count) edges → IsLine edges count order
order-row edges count order o hold ends = record {
  within = All-from (λ p. p < count) order o.only;
  all = o.all;
  once = λ i j d a b e. o.once i j a b (get_or_default order i 0 d (omega (arith, a, b)) ∙ e ∙ get_or_default order j d 0 b);
  ends = ends;
  rising = λ i j a b c. rise i j a b (All-contains (λ (e : Edge). place order e.from < place order e.to) edges (arrow (get_or order i 0) (get_or order j 0)) hold c);
}
  where
    rise : (i j : ℕ) → i < length order → j < length order → place order (get_or order i 0) < place order (get_or order j 0) → i < j
    rise i j a b h = omega (arith, h, place_at count order o i a, place_at count order o j b)

pub judged-line : (r : Rivalry) (order : List ℕ) → AreRivals r → Respects r.counts r.base (reads_in r) order → IsLineOf r order
judged-line r order rules judged =
    let a = asks (edges_in r) (pairs_from r 0 r.words) (sum r.counts) (place order) (places-solve r order rules judged)
    (edges-fit r.counts r.base (All-from (Fits (sum r.counts)) r.base rules.base)) (pairs-fit r rules) in
    record { edges = a.more; row = order-row a.more (sum r.counts) order judged.each_once a.hold a.ends; solve = a.solve }

-- the same of counts, edges and reads that are the search's
pub base-fits : (r : Rivalry) (counts : List ℕ) (base : List Edge) → AreRivals r → counts ≡ r.counts → base ≡ r.base → All (Fits (sum counts)) base
base-fits r counts base rules e f =
    let P : List ℕ → List Edge → Type 0 = λ cs es. All (Fits (sum cs)) es in
    subst (λ (cs : List ℕ). P cs base) (sym e) (subst (λ (es : List Edge). P r.counts es) (sym f) (All-from (Fits (sum r.counts)) r.base rules.base))

pub reads-fit : (r : Rivalry) (counts : List ℕ) (reads : List Read) → AreRivals r → counts ≡ r.counts → reads ≡ reads_in r →
    All (λ (x : Read). (x.source < sum counts) × (x.last < sum counts)) reads
reads-fit r counts reads rules e f =
    subst (λ (cs : List ℕ). Within cs reads) (sym e) (subst (λ (xs : List Read). Within r.counts xs) (sym f) (All-from (WithinAt r.counts) (reads_in r) (λ x c. within x (of_reads r x c))))
  where
    WithinAt : List ℕ → Read → Type 0
    WithinAt cs x = (x.source < sum cs) × (x.last < sum cs)

    Within : List ℕ → List Read → Type 0
    Within cs xs = All (WithinAt cs) xs

    within : (x : Read) → (x.word < r.words) × Contains (r.sources x.word) x.source × Contains (r.last_reads x.word x.source) x.last → WithinAt r.counts x
    within x (w, s, l) = (rules.source x.word x.source w s, rules.last x.word x.source x.last w s l)

pub judged-given : (r : Rivalry) (counts : List ℕ) (base : List Edge) (reads : List Read) (order : List ℕ) → AreRivals r → counts ≡ r.counts → base ≡ r.base → reads ≡ reads_in r →
    Respects counts base reads order → IsLineOf r order
judged-given r counts base reads order rules e f g judged =
    judged-line r order rules
    (subst (λ (cs : List ℕ). Respects cs r.base (reads_in r) order) e (subst (λ (es : List Edge). Respects counts es (reads_in r) order) f (subst (λ (xs : List Read). Respects counts base xs order) g judged)))

-- an answer that is true exactly where one fact holds is true only where what follows from it holds
pub told : (P Q : Type 0) (result : Result Bool Memory) → IfOk result (λ yes. IsTrue yes ↔ P) → (P → Q) → IfOk result (λ yes. IsTrue yes → Q)
told P Q (Ok answer) h f = λ t. f (h.0 t)
told P Q (Err e) h f = tt

-- one word more
pub reads-more : (r : Rivalry) (n : ℕ) → reads_up_to r (n + 1) ≡ reads_up_to r n ++ reads_at r n
reads-more r n =
    sym (flat_map-map (λ xs. xs) (reads_at r) (range_with_len 0 (n + 1))) ∙
    ap (flat_map (λ xs. xs)) (map-range_with_len_more (reads_at r) 0 n n (omega arith)) ∙
    flat_map-append (λ xs. xs) (map (reads_at r) (range_with_len 0 n)) (reads_at r n ∷ []) ∙
    joined (flat_map-map (λ xs. xs) (reads_at r) (range_with_len 0 n)) (append-nil (reads_at r n))
  where
    joined : {a b c d : List Read} → a ≡ b → c ≡ d → a ++ c ≡ b ++ d
    joined e f = cc
