use Rattle.std.proofs.Common.{arith}
use Rattle.order_solver.proofs.Nodes.{source-node, last_reads-nodes}
use Rattle.order_solver.proofs.taking.take_lesser.Goals as goal

pub take_side-requires-clause-source : goal.take_side-requires-clause-source
take_side-requires-clause-source g c =
    let a = c.requires.at.lesser in
    let b = c.requires.at.greater in
    source-node (g.R.Rivals.rivalry c.args.rivals.now) c.args.graph.now c.args.at.word c.args.at.greater c.sources.result.now c.requires.rivals c.requires.counts c.requires.at.word (omega (arith, a, b)) c.sources.ensures

pub take_side-requires-clause-last_reads : goal.take_side-requires-clause-last_reads
take_side-requires-clause-last_reads g c =
    let a = c.requires.at.lesser in
    let b = c.requires.at.greater in
    last_reads-nodes (g.R.Rivals.rivalry c.args.rivals.now) c.args.graph.now c.args.at.word c.args.at.lesser c.last_reads.result.now c.requires.rivals c.requires.counts c.requires.at.word (omega (arith, a, b)) c.last_reads.ensures
