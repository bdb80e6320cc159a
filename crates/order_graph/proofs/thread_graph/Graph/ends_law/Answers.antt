use Rattle.order_graph.proofs.Kept.{ends-kept}
use Rattle.order_graph.proofs.thread_graph.Graph.ends_law.Goals as goal

pub returns : goal.returns
returns c =
    ends-kept c.args.self.now c.self.inside.counts.items c.self.inside.lanes.items c.self.inside.edges.items c.self.inside.spare c.self.inside.clocks.items c.self.inside.heads.items c.self.inside.older.items
    c.self.view_is c.self.invariant.0
