use Rattle.std.proofs.Common.{ℕ, List, get_or, ap}
use Rattle.order_graph.specs.Graphs.{edges_of}
use Rattle.order_solver.proofs.Testing.{implied-at}
use Rattle.order_solver.proofs.Nodes.{source-node, last_reads-nodes}
use Rattle.order_solver.proofs.rows.precedes.Goals as goal

pub is_implied-requires-clause-source : goal.is_implied-requires-clause-source
is_implied-requires-clause-source g c =
    source-node (g.R.Rivals.rivalry c.args.rivals.now) c.args.graph.now c.args.word c.args.then c.sources.result.now c.requires.rivals c.requires.counts c.requires.word c.requires.then c.sources.ensures

pub is_implied-requires-clause-last_reads : goal.is_implied-requires-clause-last_reads
is_implied-requires-clause-last_reads g c =
    last_reads-nodes (g.R.Rivals.rivalry c.args.rivals.now) c.args.graph.now c.args.word c.args.first c.last_reads.result.now c.requires.rivals c.requires.counts c.requires.word c.requires.first c.last_reads.ensures

pub returns : goal.returns
returns g c = implied-at (edges_of c.args.graph.now) c.last_reads.result.now _ _ _ c.is_implied.result c.last_reads.ensures (ap (λ (xs : List ℕ). get_or xs c.args.then 0) c.sources.ensures) c.is_implied.ensures
