-- Which sources may not come before which others.
use Rattle.std.proofs.Common.{◌≡◌, ℕ, ◌+◌, ◌<◌, ◌≤◌, Bool, true, false, leb, List, ◌++◌, length, get_or, refl, sym, ◌∙◌, ap, subst, arith, inl, inr, ◌⊎◌}
use Rattle.std.specs.Prelude.{All, Contains, Some}
use Rattle.std.proofs.lemmas.Bool.{cases_Bool, cases_lt, false_from_ne_true, both_ways}
use Rattle.std.proofs.lemmas.List.Sums.{count_by-le-length}
use Rattle.std.proofs.lemmas.List.Elements.{All-weaker, All-contains_itself, Contains-get_or}
use Rattle.plain_search.specs.declared.Edge.{Edge}
use Rattle.plain_search.specs.Edges.{is_acyclic, Holds, Implies}
use Rattle.plain_search.specs.Openness.{is_shut}
use Rattle.plain_search.specs.Chains.{chains_from}
use Rattle.plain_search.proofs.Rankings.{acyclic-ranked, acyclic-implied, ranked-acyclic, Holds-split, Holds-join}
use Rattle.order_graph.specs.Graphs.{GraphState, edges_of, nodes_of}
use Rattle.light_base.specs.declared.tag.Event.{Event}
use Rattle.replay_model.specs.Logs.{Log}
use Rattle.replay_model.specs.WellFormed.{IsWellFormed}
use Rattle.constraints.specs.Positions.{event_list, event_at, position_of, counts_of}
use Rattle.constraints.specs.Constraints.{sources_of, last_reads_from, base_of, edges_to, group_of, is_source_of, is_last_of}
use Rattle.constraints.proofs.Listed.{Before, event_there, of_list, position-event, before_from, of_positions}
use Rattle.constraints.proofs.Rivals.{sources-rising}
use Rattle.constraints.proofs.Groups.{sources_are_grouped}
use Rattle.constraints.proofs.Solving.{chains_keep}
use Rattle.races.specs.Shut.{base_edges, IsBase, source_at, shuts}
use Rattle.races.proofs.Sides.{AtMost, side-holds, holds-side}
use Rattle.races.proofs.Based.{nodes-are}

-- edges that hold under the same rankings shut the same sides
shut-implied : (edges others side : List Edge) → Implies edges others → is_shut others side ≡ true → is_shut edges side ≡ true
shut-implied edges others side by t = go (cases_Bool (is_acyclic (side ++ edges)))
  where
    go : (is_acyclic (side ++ edges) ≡ true) ⊎ (is_acyclic (side ++ edges) ≡ false) → is_shut edges side ≡ true
    go (inr f) = rw f refl
    go (inl a) =
        let o : is_acyclic (side ++ others) ≡ true =
        acyclic-implied (side ++ edges) (side ++ others) (λ rank h. let (p, q) = Holds-split rank side edges h in Holds-join rank side others p (by rank q)) a in
        absurd (both_ways (is_shut others side) (rw o refl) t)

shut-alike : (edges others side : List Edge) → Implies edges others → Implies others edges → is_shut edges side ≡ is_shut others side
shut-alike edges others side by back = go (cases_Bool (is_shut edges side)) (cases_Bool (is_shut others side))
  where
    go : (is_shut edges side ≡ true) ⊎ (is_shut edges side ≡ false) → (is_shut others side ≡ true) ⊎ (is_shut others side ≡ false) → is_shut edges side ≡ is_shut others side
    go (inl a) (inl b) = a ∙ sym b
    go (inr a) (inr b) = a ∙ sym b
    go (inl a) (inr b) = absurd (both_ways (is_shut others side) b (shut-implied others edges side back a))
    go (inr a) (inl b) = absurd (both_ways (is_shut edges side) a (shut-implied edges others side by b))

-- what is shut in the graph is shut by the base edges
pub shut-based : (log : Log) (g : GraphState) (word i j s : ℕ) (last_reads sources : List ℕ) (b : Bool) → IsBase log g → last_reads ≡ last_reads_from log word (source_at log word i) → sources ≡ sources_of log word →
    s ≡ get_or sources j 0 → b ≡ is_shut (edges_of g) (edges_to last_reads s) → b ≡ shuts log word i j
shut-based log g word i j s last_reads sources b base l q e h =
    h ∙ ap (λ (xs : List ℕ). is_shut (edges_of g) (edges_to xs s)) l ∙
    ap (λ (n : ℕ). is_shut (edges_of g) (edges_to (last_reads_from log word (source_at log word i)) n)) (e ∙ ap (λ (xs : List ℕ). get_or xs j 0) q) ∙
    shut-alike (edges_of g) (base_edges log) (edges_to (last_reads_from log word (source_at log word i)) (source_at log word j)) base.base base.all

-- sources and last reads are nodes
source-below : (log : Log) (word s : ℕ) → Contains (sources_of log word) s → s < length (event_list log)
unfolding sources_of
source-below log word s c = (of_positions log (is_source_of log word) s c).0

last-below : (log : Log) (word s l : ℕ) → Contains (last_reads_from log word s) l → l < length (event_list log)
unfolding last_reads_from
last-below log word s l c = (of_positions log (is_last_of log word (Some (event_at log s))) l c).0

pub source-there : (log : Log) (word i : ℕ) → i < length (sources_of log word) → source_at log word i < length (event_list log)
source-there log word i l = source-below log word (source_at log word i) (Contains-get_or (sources_of log word) i 0 l)

pub source-node : (log : Log) (g : GraphState) (word i : ℕ) (sources : List ℕ) → g.counts ≡ counts_of log → i < length (sources_of log word) → sources ≡ sources_of log word →
    get_or sources i 0 < nodes_of g
source-node log g word i sources c l q =
    let n = source-there log word i l in
    let e = nodes-are log g c in
    let z = ap (λ (xs : List ℕ). get_or xs i 0) q in
    omega (arith, n, e, z)

pub last_reads-nodes : (log : Log) (g : GraphState) (word s : ℕ) (last_reads : List ℕ) → g.counts ≡ counts_of log → last_reads ≡ last_reads_from log word s → All (λ l. l < nodes_of g) last_reads
last_reads-nodes log g word s last_reads c q =
    subst (λ (xs : List ℕ). All (λ x. x < nodes_of g) xs) (sym q)
    (All-weaker (Contains (last_reads_from log word s)) (λ x. x < nodes_of g) (λ x m. let n = last-below log word s x m in let e = nodes-are log g c in omega (arith, n, e))
    (last_reads_from log word s) (All-contains_itself (last_reads_from log word s)))

-- the sources of one thread rank by their places
pub sources-rank : (log : Log) (word t i j : ℕ) (rank : ℕ → ℕ) → IsWellFormed log → Holds rank (base_edges log) → (group_of log word t).0 ≤ i → i < j → j < (group_of log word t).1 → j < length (sources_of log word) →
    rank (source_at log word i) < rank (source_at log word j)
sources-rank log word t i j rank formed h a l b m =
    let li : i < length (sources_of log word) = omega (arith, l, m) in
    let p = source_at log word i in
    let q = source_at log word j in
    let grouped = sources_are_grouped log word formed in
    let x = (grouped.thread t i li).0 (a, omega (arith, l, b)) in
    let y = (grouped.thread t j m).0 (omega (arith, a, l), b) in
    let up : p < q = sources-rising log word i j 0 l m in
    go x y (before_from log p q up (source-there log word j m)) (source-there log word i li) (source-there log word j m)
  where
    go : (event_at log (source_at log word i)).thread ≡ t → (event_at log (source_at log word j)).thread ≡ t → Before (event_at log (source_at log word i)) (event_at log (source_at log word j)) →
        source_at log word i < length (event_list log) → source_at log word j < length (event_list log) → rank (source_at log word i) < rank (source_at log word j)
    go x y (inl k) lp lq = absurd (omega (arith, x, y, k))
    go x y (inr (e, k)) lp lq =
        let p = source_at log word i in
        let q = source_at log word j in
        let r : rank (position_of log (event_at log p)) < rank (position_of log (event_at log q)) =
        chains_keep log rank formed (Holds-split rank (chains_from 0 (counts_of log)) (base_of log) h).0 (event_at log p) (event_at log q) (of_list log (event_at log p) (event_there log p lp))
        (of_list log (event_at log q) (event_there log q lq)) e k in
        let z = ap rank (position-event log p lp) in
        let w = ap rank (position-event log q lq) in
        omega (arith, r, z, w)

-- a source that may not come before one of a thread's may not come before the earlier ones
pub shut-down : (log : Log) (word t i j k : ℕ) → IsWellFormed log → (group_of log word t).0 ≤ j → j ≤ k → k < (group_of log word t).1 → k < length (sources_of log word) →
    shuts log word i k ≡ true → shuts log word i j ≡ true
shut-down log word t i j k formed a l b m s = go (cases_lt j k)
  where
    last_reads : List ℕ
    last_reads = last_reads_from log word (source_at log word i)

    side : ℕ → List Edge
    side n = edges_to last_reads (source_at log word n)

    later : (rank : ℕ → ℕ) → rank (source_at log word j) < rank (source_at log word k) → (x : ℕ) → AtMost rank x (source_at log word j) → AtMost rank x (source_at log word k)
    later rank up x (inl e) = let z = ap rank e in inr (omega (arith, z, up))
    later rank up x (inr r) = inr (omega (arith, r, up))

    opened : j < k → is_acyclic (side j ++ base_edges log) ≡ true → is_acyclic (side k ++ base_edges log) ≡ true
    opened n o =
        let (rank, h) = acyclic-ranked (side j ++ base_edges log) o in
        let (p, q) = Holds-split rank (side j) (base_edges log) h in
        ranked-acyclic rank (side k ++ base_edges log) (Holds-join rank (side k) (base_edges log) (side-holds rank last_reads (source_at log word k)
        (All-weaker (λ x. AtMost rank x (source_at log word j)) (λ x. AtMost rank x (source_at log word k)) (later rank (sources-rank log word t j k rank formed q a n b m)) last_reads
        (holds-side rank last_reads (source_at log word j) p))) q)

    go : (j < k) ⊎ (k ≤ j) → shuts log word i j ≡ true
    go (inr n) = let e : k ≡ j = omega (arith, l, n) in subst (λ (x : ℕ). shuts log word i x ≡ true) e s
    go (inl n) = split (cases_Bool (is_acyclic (side j ++ base_edges log)))
      where
        split : (is_acyclic (side j ++ base_edges log) ≡ true) ⊎ (is_acyclic (side j ++ base_edges log) ≡ false) → shuts log word i j ≡ true
        split (inr f) = rw f refl
        split (inl o) = absurd (both_ways (shuts log word i k) (let z = opened n o in rw z refl) s)

pub group-within : (log : Log) (word t : ℕ) → (group_of log word t).1 ≤ length (sources_of log word)
group-within log word t = count_by-le-length (λ p. leb (event_at log p).thread t) (sources_of log word)

-- where it may not come before one, the front reaches further; else it ends there
pub front-more : (log : Log) (word t i middle : ℕ) → IsWellFormed log → middle < (group_of log word t).1 → shuts log word i middle ≡ true →
    (j : ℕ) → (group_of log word t).0 ≤ j → j < middle + 1 → shuts log word i j ≡ true
front-more log word t i middle formed m s j a l = let n = group-within log word t in shut-down log word t i j middle formed a (omega (arith, l)) m (omega (arith, m, n)) s

pub front-less : (log : Log) (word t i middle : ℕ) → IsWellFormed log → (group_of log word t).0 ≤ middle → shuts log word i middle ≡ false →
    (j : ℕ) → middle ≤ j → j < (group_of log word t).1 → shuts log word i j ≡ false
front-less log word t i middle formed a s j l m = let n = group-within log word t in
    false_from_ne_true (shuts log word i j) (λ y. both_ways (shuts log word i middle) s (shut-down log word t i middle j formed a l m (omega (arith, m, n)) y))

-- a source's position is that of an event
pub source-event : (log : Log) (word i : ℕ) (sources : List ℕ) (events : List Event) → i < length (sources_of log word) → sources ≡ sources_of log word → events ≡ event_list log → get_or sources i 0 < length events
source-event log word i sources events l e q =
    let n = source-there log word i l in
    let a = ap (λ (xs : List ℕ). get_or xs i 0) e in
    let b = ap (λ (xs : List Event). length xs) q in
    omega (arith, n, a, b)
