use Rattle.std.proofs.Common.{◌∙◌, ap, arith, sum, length}
use Rattle.constraints.proofs.Shapes.{counts-sum}
use Rattle.races.proofs.Based.{base-nodes, all-based, base-cyclic}
use Rattle.races.proofs.base.base_graph.Goals as goal

pub new-requires : goal.new-requires
new-requires c =
    let e = ap sum c.counts.ensures in
    let q = counts-sum c.args.problem.now in
    let n = c.events-events.ensures.small in
    let v = ap (λ xs. length xs) c.events-events.ensures.value in
    omega (arith, e, q, n, v)

pub add_edges-requires : goal.add_edges-requires
add_edges-requires c = base-nodes c.args.problem.now c.in_ok-graph.graph c.base.result.now c.events-events.ensures.rules (c.in_ok-graph.ensures.counts ∙ c.counts.ensures) c.base.ensures

pub returns-in-In : goal.returns-in-In
returns-in-In c = all-based c.args.problem.now c.in_ok-graph.graph c.add_edges.new.graph c.base.result.now c.in_ok-add_edges.field-0 (c.in_ok-graph.ensures.counts ∙ c.counts.ensures) c.in_ok-graph.ensures.added
    c.base.ensures c.in_ok-add_edges.ensures c.in-In.is

pub returns-in-Cycle : goal.returns-in-Cycle
returns-in-Cycle c = base-cyclic c.args.problem.now c.in_ok-graph.graph c.add_edges.new.graph c.base.result.now c.in_ok-add_edges.field-0 (c.in_ok-graph.ensures.counts ∙ c.counts.ensures) c.in_ok-graph.ensures.added
    c.base.ensures c.in_ok-add_edges.ensures c.in-Cycle.is
