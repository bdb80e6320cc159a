use Rattle.plain_search.proofs.Walks.{reaches-walk}
use Rattle.plain_search.proofs.Rankings.{no_loop-acyclic}
use Rattle.order_graph.specs.Graphs.{edges_of}
use Rattle.order_graph.proofs.Kept.{clocked-kept}
use Rattle.order_graph.proofs.thread_graph.Graph.acyclic_law.Goals as goal

pub returns : goal.returns
returns c =
    let k = clocked-kept c.args.self.now c.self.inside.counts.items c.self.inside.lanes.items c.self.inside.edges.items c.self.inside.spare c.self.inside.clocks.items c.self.inside.heads.items c.self.inside.older.items
    c.self.view_is c.self.invariant.0 in
    no_loop-acyclic (edges_of c.args.self.now) (λ v r. k.loops v (reaches-walk (edges_of c.args.self.now) v v r))
