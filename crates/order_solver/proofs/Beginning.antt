-- The edges that have to hold, one after the other.
use Rattle.std.proofs.Common.{◌≡◌, ℕ, zero, suc, ◌+◌, ◌-◌, ◌<◌, ◌≤◌, Bool, true, false, List, [], ◌∷◌, ◌++◌, length, get_or, take, map, sum, sym, ◌∙◌, ap, subst, arith, inl, inr, ◌⊎◌}
use Rattle.std.specs.Prelude.{All, Contains, filter}
use Rattle.std.proofs.lemmas.Bool.{cases_lt, cases_Bool}
use Rattle.std.proofs.lemmas.List.{length-take-le, get_or-take, append-nil}
use Rattle.std.proofs.lemmas.List.Elements.{All-more, All-get_or, All-from_get_or, All-contains, All-weaker, All-contains_itself, Contains-get_or, Contains-append_left, Contains-append_right}
use Rattle.plain_search.specs.declared.Edge.{Edge}
use Rattle.plain_search.specs.Chains.{arrow, chains_from}
use Rattle.plain_search.specs.Edges.{is_acyclic, Holds, Implies}
use Rattle.plain_search.specs.Searches.{Pair, HoldsOneSide, Solves}
use Rattle.plain_search.proofs.Rankings.{Rises, acyclic-implied, Holds-split, Holds-join}
use Rattle.plain_search.proofs.Forcing.{forced}
use Rattle.plain_search.proofs.Standing.{ends, force-no_worse}
use Rattle.order_graph.specs.Graphs.{GraphState, edges_of, nodes_of}
use Rattle.constraints.specs.Constraints.{edges_to}
use Rattle.constraints.proofs.Members.{in_map, in_filter}
use Rattle.order_solver.specs.Rivals.{Rivalry, AreRivals, source_at, pair_in, pairs_where, pairs_from, edges_in, problem_in}
use Rattle.order_solver.specs.Cursors.{Chained}
use Rattle.order_solver.specs.Sides.{IsNarrower}
use Rattle.order_solver.specs.Begun.{HoldsRuns, HoldsWords, IsBegun}
use Rattle.order_solver.proofs.Windows.{source-in, source-before, starts-rise}

abbrev pub edge_at : List Edge → ℕ → Edge
edge_at edges k = get_or edges k (arrow 0 0)

pub edges-more : (rank : ℕ → ℕ) (edges : List Edge) (k : ℕ) → k < length edges → Holds rank (take k edges) → rank (edge_at edges k).from < rank (edge_at edges k).to → Holds rank (take (k + 1) edges)
edges-more rank edges k l h e = All-more (Rises rank) edges k (arrow 0 0) l h e

pub edges-less : (rank : ℕ → ℕ) (edges : List Edge) (k : ℕ) → k < length edges → Holds rank (take (k + 1) edges) → Holds rank (take k edges) × (rank (edge_at edges k).from < rank (edge_at edges k).to)
edges-less rank edges k l h = (
  All-from_get_or (Rises rank) (take k edges) (arrow 0 0) (λ i m.
      let n : i < k = (let t = length-take-le k edges (omega (arith, l)) in omega (arith, t, m)) in
      subst (Rises rank) (sym (get_or-take k edges i (arrow 0 0) n)) (at i (omega (arith, n)))),
  at k (omega arith),
)
  where
    at : (i : ℕ) → i < k + 1 → Rises rank (edge_at edges i)
    at i m = subst (Rises rank) (get_or-take (k + 1) edges i (arrow 0 0) m)
        (All-get_or (Rises rank) (take (k + 1) edges) i (arrow 0 0) (let t = length-take-le (k + 1) edges (omega (arith, l)) in omega (arith, t, m)) h)

-- up to one place
abbrev pub ChainedTo : Rivalry → (ℕ → ℕ) → ℕ → ℕ → ℕ → ℕ → Type 0
ChainedTo r rank word from end at = (k : ℕ) → from ≤ k → k < at → k + 1 < end → Holds rank (edges_to (r.last_reads word (source_at r word k)) (source_at r word (k + 1)))

pub chained-more : (r : Rivalry) (rank : ℕ → ℕ) (word from end at : ℕ) → ChainedTo r rank word from end at →
    Holds rank (edges_to (r.last_reads word (source_at r word at)) (source_at r word (at + 1))) → ChainedTo r rank word from end (at + 1)
chained-more r rank word from end at h e k a b c = go (cases_lt k at)
  where
    go : (k < at) ⊎ (at ≤ k) → Holds rank (edges_to (r.last_reads word (source_at r word k)) (source_at r word (k + 1)))
    go (inl l) = h k a l c
    go (inr m) = let q : at ≡ k = omega arith in subst (λ (n : ℕ). Holds rank (edges_to (r.last_reads word (source_at r word n)) (source_at r word (n + 1)))) q e

pub runs-more : (r : Rivalry) (rank : ℕ → ℕ) (word t : ℕ) → HoldsRuns r rank word t → Chained r rank word (r.start word t) (r.start word (t + 1)) → HoldsRuns r rank word (t + 1)
runs-more r rank word t h e u l = go (cases_lt u t)
  where
    go : (u < t) ⊎ (t ≤ u) → Chained r rank word (r.start word u) (r.start word (u + 1))
    go (inl m) = h u m
    go (inr m) = let q : t ≡ u = omega arith in subst (λ (n : ℕ). Chained r rank word (r.start word n) (r.start word (n + 1))) q e

pub words-more : (r : Rivalry) (rank : ℕ → ℕ) (word : ℕ) → HoldsWords r rank word → HoldsRuns r rank word (length r.counts) → HoldsWords r rank (word + 1)
words-more r rank word h e w l = go (cases_lt w word)
  where
    go : (w < word) ⊎ (word ≤ w) → HoldsRuns r rank w (length r.counts)
    go (inl m) = h w m
    go (inr m) = let q : word ≡ w = omega arith in subst (λ (n : ℕ). HoldsRuns r rank n (length r.counts)) q e

-- the pair of two rivals is one of all
pub where-in : (test : ℕ → ℕ → Bool) (pair : ℕ → ℕ → Pair) (xs : List ℕ) (i j : ℕ) → i < j → j < length xs → test (get_or xs i 0) (get_or xs j 0) ≡ true →
    Contains (pairs_where test pair xs) (pair (get_or xs i 0) (get_or xs j 0))
where-in test pair [] i j l m t = absurd (omega (arith, m))
where-in test pair (x ∷ xs) zero zero l m t = absurd (omega (arith, l))
where-in test pair (x ∷ xs) zero (suc j) l m t = Contains-append_left (map (pair x) (filter (test x) xs)) (pairs_where test pair xs) (pair x (get_or xs j 0))
    (in_map (pair x) (filter (test x) xs) (get_or xs j 0) (in_filter (test x) xs (get_or xs j 0) (Contains-get_or xs j 0 (omega (arith, m))) t))
where-in test pair (x ∷ xs) (suc i) zero l m t = absurd (omega (arith, l))
where-in test pair (x ∷ xs) (suc i) (suc j) l m t = Contains-append_right (map (pair x) (filter (test x) xs)) (pairs_where test pair xs) (pair (get_or xs i 0) (get_or xs j 0))
    (where-in test pair xs i j (omega (arith, l)) (omega (arith, m)) t)

pub from-in : (r : Rivalry) (from n w : ℕ) (p : Pair) → from ≤ w → w < from + n → Contains (pairs_where (r.rival w) (pair_in r w) (r.sources w)) p → Contains (pairs_from r from n) p
from-in r from zero w p a b c = absurd (omega (arith, a, b))
from-in r from (suc n) w p a b c = go (from-in r (from + 1) n) (cases_lt from w)
  where
    go : ((v : ℕ) (q : Pair) → from + 1 ≤ v → v < (from + 1) + n → Contains (pairs_where (r.rival v) (pair_in r v) (r.sources v)) q → Contains (pairs_from r (from + 1) n) q) → (from < w) ⊎ (w ≤ from) →
        Contains (pairs_where (r.rival from) (pair_in r from) (r.sources from) ++ pairs_from r (from + 1) n) p
    go ih (inl l) = Contains-append_right (pairs_where (r.rival from) (pair_in r from) (r.sources from)) (pairs_from r (from + 1) n) p (ih w p (omega arith) (omega (arith, b)) c)
    go ih (inr l) =
        let e : w ≡ from = omega arith in
        Contains-append_left (pairs_where (r.rival from) (pair_in r from) (r.sources from)) (pairs_from r (from + 1) n) p (subst (λ (v : ℕ). Contains (pairs_where (r.rival v) (pair_in r v) (r.sources v)) p) e c)

-- each solution holds that of sources of one thread the lesser one comes first
pub solves-runs : (r : Rivalry) (rank : ℕ → ℕ) → AreRivals r → Solves (problem_in r) rank → HoldsWords r rank r.words
solves-runs r rank are s w lw t lt k a b = either (cases_Bool (r.rival w (source_at r w k) (source_at r w (k + 1))))
  where
    within : k + 1 < length (r.sources w)
    within =
        let n : ℕ = length r.counts - (t + 1) in
        let m : (t + 1) + n ≡ length r.counts = omega arith in
        let q = starts-rise r w (t + 1) n are lw (omega (arith, m)) in
        let e = ap (r.start w) m in
        let z = are.end w lw in omega (arith, q, e, z, b)

    up : rank (source_at r w k) < rank (source_at r w (k + 1))
    up = are.rising rank w t k (k + 1) s.base lw lt a (omega arith) b

    go : HoldsOneSide rank (pair_in r w (source_at r w k) (source_at r w (k + 1))) → Holds rank (edges_to (r.last_reads w (source_at r w k)) (source_at r w (k + 1)))
    go (inl h) = h
    go (inr h) =
        let above = up in
        let down = source-before r rank w (k + 1) k are s.base lw within (let m = within in omega (arith, m)) (λ e. are.once w k (k + 1) lw (omega arith) within (sym e)) h in
        absurd (omega (arith, above, down))

    either : (r.rival w (source_at r w k) (source_at r w (k + 1)) ≡ true) ⊎ (r.rival w (source_at r w k) (source_at r w (k + 1)) ≡ false) →
        Holds rank (edges_to (r.last_reads w (source_at r w k)) (source_at r w (k + 1)))
    either (inl t) = go (All-contains (HoldsOneSide rank) (pairs_from r 0 r.words) (pair_in r w (source_at r w k) (source_at r w (k + 1))) s.sides
        (from-in r 0 r.words w (pair_in r w (source_at r w k) (source_at r w (k + 1))) (omega arith) (omega arith) (where-in (r.rival w) (pair_in r w) (r.sources w) k (k + 1) (omega arith) within t)))
    either (inr f) = are.others rank w (source_at r w k) (source_at r w (k + 1)) s.base lw (source-in r w k (let m = within in omega (arith, m))) (source-in r w (k + 1) within) f up

-- the graph of the chains alone
pub chains-alone : (r : Rivalry) (g : GraphState) → g.counts ≡ r.counts → g.added ≡ [] → edges_of g ≡ chains_from 0 r.counts
chains-alone r g c a = ap (λ (xs : List ℕ). chains_from 0 xs ++ g.added) c ∙ ap (λ (xs : List Edge). chains_from 0 r.counts ++ xs) a ∙ append-nil (chains_from 0 r.counts)

pub solves-chains : (r : Rivalry) (g : GraphState) (base : List Edge) (rank : ℕ → ℕ) → edges_of g ≡ chains_from 0 r.counts → base ≡ r.base → Solves (problem_in r) rank → Holds rank (edges_of g) × Holds rank base
solves-chains r g base rank e q s =
    let (x, y) = Holds-split rank (chains_from 0 r.counts) r.base s.base in
    (subst (λ (xs : List Edge). Holds rank xs) (sym e) x, subst (λ (xs : List Edge). Holds rank xs) (sym q) y)

-- the base edges have a cycle
pub base-unsolved : (r : Rivalry) (g : GraphState) (base : List Edge) → edges_of g ≡ chains_from 0 r.counts → base ≡ r.base → ((rank : ℕ → ℕ) → Holds rank (edges_of g) → Holds rank base → ⊥) →
    (rank : ℕ → ℕ) → Solves (problem_in r) rank → ⊥
base-unsolved r g base e q none rank s = let (x, y) = solves-chains r g base rank e q s in none rank x y

-- with what holds of sources of one thread they have one
pub runs-unsolved : (r : Rivalry) (g0 g1 : GraphState) (base : List Edge) → AreRivals r → edges_of g0 ≡ chains_from 0 r.counts → base ≡ r.base → IsNarrower (λ rank. Holds rank base) g0 g1 →
    ((rank : ℕ → ℕ) → Holds rank (edges_of g1) → HoldsWords r rank r.words → ⊥) → (rank : ℕ → ℕ) → Solves (problem_in r) rank → ⊥
runs-unsolved r g0 g1 base are e q one none rank s = let (x, y) = solves-chains r g0 base rank e q s in none rank (one.all rank x y) (solves-runs r rank are s)

-- all were added
pub all-begun : (r : Rivalry) (g0 g1 g2 : GraphState) (base : List Edge) → AreRivals r → g0.counts ≡ r.counts → edges_of g0 ≡ chains_from 0 r.counts → base ≡ r.base → IsNarrower (λ rank. Holds rank base) g0 g1 →
    IsNarrower (λ rank. HoldsWords r rank r.words) g1 g2 → is_acyclic (edges_of g2) ≡ true → IsBegun r g2
all-begun r g0 g1 g2 base are c e q one two a = record {
  counts = two.counts ∙ one.counts ∙ c;
  rooted = record { base = wider; chained = λ rank w t h lw lt. two.holds rank h w lw t lt };
  stands = force-no_worse (problem_in r) [] (edges_in r) (edges_of g2) (pairs_from r 0 r.words) 0 (ends.begin (problem_in r) (acyclic-implied (edges_of g2) (edges_in r) wider a)) wider a
      (forced (pairs_from r 0 r.words) (edges_in r) (edges_of g2) wider kept);
}
  where
    wider : Implies (edges_of g2) (edges_in r)
    wider rank h =
        let k = two.old_holds rank h in
        Holds-join rank (chains_from 0 r.counts) r.base (subst (λ (xs : List Edge). Holds rank xs) e (one.old_holds rank k)) (subst (λ (xs : List Edge). Holds rank xs) q (one.holds rank k))

    kept : (rank : ℕ → ℕ) → Solves (problem_in r) rank → Holds rank (edges_of g2)
    kept rank s = let (x, y) = solves-chains r g0 base rank e q s in two.all rank (one.all rank x y) (solves-runs r rank are s)

pub base-nodes : (r : Rivalry) (g : GraphState) (base : List Edge) → AreRivals r → g.counts ≡ r.counts → base ≡ r.base → All (λ (e : Edge). (e.from < nodes_of g) × (e.to < nodes_of g)) base
base-nodes r g base are c q = subst (λ (xs : List Edge). All (λ (e : Edge). (e.from < nodes_of g) × (e.to < nodes_of g)) xs) (sym q)
    (All-weaker (Contains r.base) (λ (e : Edge). (e.from < nodes_of g) × (e.to < nodes_of g))
    (λ e m. let (u, v) = are.base e m in let s = ap sum c in (omega (arith, u, s), omega (arith, v, s))) r.base (All-contains_itself r.base))

-- a side in other words
pub side-is : (rank : ℕ → ℕ) (last_reads last_reads' : List ℕ) (to to' : ℕ) → last_reads ≡ last_reads' → to ≡ to' → Holds rank (edges_to last_reads to) → Holds rank (edges_to last_reads' to')
side-is rank last_reads last_reads' to to' e q h = subst (λ (n : ℕ). Holds rank (edges_to last_reads' n)) q (subst (λ (xs : List ℕ). Holds rank (edges_to xs to)) e h)

pub run-within : (r : Rivalry) (word t end : ℕ) → AreRivals r → word < r.words → t < length r.counts → end ≡ r.start word (t + 1) → end ≤ length (r.sources word)
run-within r word t end are lw lt e =
    let n : ℕ = length r.counts - (t + 1) in
    let m : (t + 1) + n ≡ length r.counts = omega arith in
    let q = starts-rise r word (t + 1) n are lw (omega (arith, m)) in
    let p = ap (r.start word) m in
    let z = are.end word lw in omega (arith, q, p, z, e)

pub chained-is : (r : Rivalry) (rank : ℕ → ℕ) (word from end from' end' : ℕ) → from ≡ from' → end ≡ end' → Chained r rank word from end → Chained r rank word from' end'
chained-is r rank word from end from' end' e q h k a b = h k (omega (arith, e, a)) (omega (arith, q, b))
