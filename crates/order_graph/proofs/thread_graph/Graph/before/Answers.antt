use Rattle.std.proofs.Common.{ℕ, eqb, not, subst}
use Rattle.std.proofs.lemmas.Bool.{eq-eqb, not_from_true, both_ways}
use Rattle.plain_search.specs.Edges.{LeadsTo}
use Rattle.plain_search.proofs.Rankings.{acyclic-no_loop}
use Rattle.order_graph.specs.Graphs.{edges_of}
use Rattle.order_graph.proofs.thread_graph.Graph.before.Goals as goal

pub returns-else-u-v : goal.returns-else-u-v
returns-else-u-v c =
    let e = not_from_true (eqb c.args.u c.args.v) (eq-eqb c.args.u c.args.v c.if-u-v.false) in (
      λ t. absurd (both_ways (not (eqb c.args.u c.args.v)) e t),
      λ w. absurd (acyclic-no_loop (edges_of c.args.self.now) c.acyclic_law.ensures c.args.v (subst (λ (x : ℕ). LeadsTo (edges_of c.args.self.now) x c.args.v) c.if-u-v.false w)),
    )
