-- Sources and their last reads are nodes of the graph.
use Rattle.std.proofs.Common.{◌≡◌, ℕ, ◌<◌, List, sum, length, get_or, sym, ap, subst, arith}
use Rattle.std.specs.Prelude.{All, Contains}
use Rattle.std.proofs.lemmas.List.Elements.{All-contains_itself, All-weaker, Contains-get_or}
use Rattle.order_graph.specs.Graphs.{GraphState, nodes_of}
use Rattle.order_solver.specs.Rivals.{Rivalry, AreRivals, source_at}

pub source-node : (r : Rivalry) (g : GraphState) (word i : ℕ) (sources : List ℕ) → AreRivals r → g.counts ≡ r.counts → word < r.words → i < length (r.sources word) → sources ≡ r.sources word →
    get_or sources i 0 < nodes_of g
source-node r g word i sources are counts w l is =
    let n : get_or (r.sources word) i 0 < sum r.counts = are.source word (source_at r word i) w (Contains-get_or (r.sources word) i 0 l) in
    let e = ap sum counts in
    let q = ap (λ (xs : List ℕ). get_or xs i 0) is in
    omega (arith, n, e, q)

pub last_reads-nodes : (r : Rivalry) (g : GraphState) (word i : ℕ) (last_reads : List ℕ) → AreRivals r → g.counts ≡ r.counts → word < r.words → i < length (r.sources word) →
    last_reads ≡ r.last_reads word (source_at r word i) → All (λ l. l < nodes_of g) last_reads
last_reads-nodes r g word i last_reads are counts w l is =
    subst (λ (xs : List ℕ). All (λ x. x < nodes_of g) xs) (sym is)
    (All-weaker (Contains (r.last_reads word (source_at r word i))) (λ x. x < nodes_of g)
    (λ x m. let n = are.last word (source_at r word i) x w (Contains-get_or (r.sources word) i 0 l) m in let e = ap sum counts in omega (arith, n, e))
    (r.last_reads word (source_at r word i)) (All-contains_itself (r.last_reads word (source_at r word i))))
