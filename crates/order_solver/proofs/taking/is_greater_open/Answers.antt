use Rattle.std.proofs.Common.{arith}
use Rattle.order_solver.proofs.Nodes.{source-node, last_reads-nodes}
use Rattle.order_solver.proofs.taking.is_greater_open.Goals as goal

pub is_open-requires-clause-source : goal.is_open-requires-clause-source
is_open-requires-clause-source g c =
    let a = c.requires.lesser in
    let b = c.requires.greater in
    source-node (g.R.Rivals.rivalry c.args.rivals.now) c.args.graph.now c.args.at.word c.args.at.lesser c.sources.result.now c.requires.rivals c.requires.counts c.requires.word (omega (arith, a, b)) c.sources.ensures

pub is_open-requires-clause-last_reads : goal.is_open-requires-clause-last_reads
is_open-requires-clause-last_reads g c =
    let a = c.requires.lesser in
    let b = c.requires.greater in
    last_reads-nodes (g.R.Rivals.rivalry c.args.rivals.now) c.args.graph.now c.args.at.word c.args.at.greater c.last_reads.result.now c.requires.rivals c.requires.counts c.requires.word (omega (arith, a, b)) c.last_reads.ensures
