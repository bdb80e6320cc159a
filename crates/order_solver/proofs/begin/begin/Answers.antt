use Rattle.std.proofs.Common.{◌∙◌}
use Rattle.plain_search.specs.Edges.{Holds}
use Rattle.order_solver.proofs.Adding.{narrows-in, narrows-cycle}
use Rattle.order_solver.specs.Begun.{HoldsWords}
use Rattle.order_solver.proofs.Beginning.{chains-alone, base-unsolved, runs-unsolved, all-begun, base-nodes}
use Rattle.order_solver.proofs.begin.begin.Goals as goal

pub add_edges-requires : goal.add_edges-requires
add_edges-requires g c =
    base-nodes (g.R.Rivals.rivalry c.args.rivals.now) c.in_ok-graph.graph c.base.result.now c.requires (c.in_ok-graph.ensures.counts ∙ c.counts.ensures) c.base.ensures

pub returns-in-Cycle : goal.returns-in-Cycle
returns-in-Cycle g c =
    let r = g.R.Rivals.rivalry c.args.rivals.now in
    let e = chains-alone r c.in_ok-graph.graph (c.in_ok-graph.ensures.counts ∙ c.counts.ensures) c.in_ok-graph.ensures.added in
    base-unsolved r c.in_ok-graph.graph c.base.result.now e c.base.ensures
    (narrows-cycle (λ rank. Holds rank c.base.result.now) c.in_ok-graph.graph c.add_edges.new.graph c.in_ok-add_edges.field-0 c.in_ok-add_edges.ensures c.in-Cycle.is)

pub returns-in-In-2 : goal.returns-in-In-2
returns-in-In-2 g c =
    let r = g.R.Rivals.rivalry c.args.rivals.now in
    let n = c.in_ok-graph.ensures.counts ∙ c.counts.ensures in
    let e = chains-alone r c.in_ok-graph.graph n c.in_ok-graph.ensures.added in
    all-begun r c.in_ok-graph.graph c.add_edges.new.graph c.add_words.new.graph c.base.result.now c.requires n e c.base.ensures
    (narrows-in (λ rank. Holds rank c.base.result.now) c.in_ok-graph.graph c.add_edges.new.graph c.in_ok-add_edges.field-0 c.in_ok-add_edges.ensures c.in-In.is)
    (narrows-in (λ rank. HoldsWords r rank r.words) c.add_edges.new.graph c.add_words.new.graph c.in_ok-add_words.field-0 c.in_ok-add_words.ensures c.in-In-2.is) c.acyclic_law.ensures

pub returns-in-Cycle-2 : goal.returns-in-Cycle-2
returns-in-Cycle-2 g c =
    let r = g.R.Rivals.rivalry c.args.rivals.now in
    let e = chains-alone r c.in_ok-graph.graph (c.in_ok-graph.ensures.counts ∙ c.counts.ensures) c.in_ok-graph.ensures.added in
    runs-unsolved r c.in_ok-graph.graph c.add_edges.new.graph c.base.result.now c.requires e c.base.ensures
    (narrows-in (λ rank. Holds rank c.base.result.now) c.in_ok-graph.graph c.add_edges.new.graph c.in_ok-add_edges.field-0 c.in_ok-add_edges.ensures c.in-In.is)
    (narrows-cycle (λ rank. HoldsWords r rank r.words) c.add_edges.new.graph c.add_words.new.graph c.in_ok-add_words.field-0 c.in_ok-add_words.ensures c.in-Cycle-2.is)
