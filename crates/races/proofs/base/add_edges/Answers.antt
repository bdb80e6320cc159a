use Rattle.std.proofs.Common.{◌≡◌, ◌<◌, ◌+◌, List, take, subst, sym, arith}
use Rattle.std.proofs.lemmas.List.{take_all}
use Rattle.plain_search.specs.declared.Edge.{Edge}
use Rattle.plain_search.specs.Edges.{Holds}
use Rattle.plain_search.specs.Chains.{arrow}
use Rattle.plain_search.proofs.Rankings.{Rises}
use Rattle.std.proofs.lemmas.List.Elements.{All-take, All-get_or}
use Rattle.races.proofs.Adding.{narrower-alike, narrower-step, narrower-cycle, edge_at, edges-more, edges-less}
use Rattle.races.proofs.base.add_edges.Goals as goal

pub returns-in-Cycle : goal.returns-in-Cycle
returns-in-Cycle c =
    let k = c.loop-edge.edge-index in
    let es = c.args.edges.now in
    narrower-cycle (λ rank. Holds rank (take k es)) (λ rank. rank (edge_at es k).from < rank (edge_at es k).to) (λ rank. Holds rank es) c.args.graph.now c.loop-edge.graph c.add_edge.new.graph c.in_ok-add_edge.field-0
    c.loop-edge.invariant c.in_ok-add_edge.ensures c.in-Cycle.is (λ rank h. (All-take (Rises rank) k es h, All-get_or (Rises rank) es k (arrow 0 0) (omega arith) h))

pub loop-edge-preserved : goal.loop-edge-preserved
loop-edge-preserved c =
    let k = c.loop-edge.edge-index in
    let es = c.args.edges.now in
    narrower-step (λ rank. Holds rank (take k es)) (λ rank. rank (edge_at es k).from < rank (edge_at es k).to) (λ rank. Holds rank (take (k + 1) es)) c.args.graph.now c.loop-edge.graph c.add_edge.new.graph c.in_ok-add_edge.field-0
    c.loop-edge.invariant c.in_ok-add_edge.ensures c.in-In.is (λ rank p q. edges-more rank es k (omega arith) p q) (λ rank p. edges-less rank es k (omega arith) p)

pub returns : goal.returns
returns c =
    let k = c.loop-edge.edge-index in
    let es = c.args.edges.now in
    let e : take k es ≡ es = take_all k es (omega arith) in
    narrower-alike (λ rank. Holds rank (take k es)) (λ rank. Holds rank es) c.args.graph.now c.loop-edge.graph
    (λ rank h. subst (λ (xs : List Edge). Holds rank xs) e h) (λ rank h. subst (λ (xs : List Edge). Holds rank xs) (sym e) h) c.loop-edge.invariant
