use Rattle.std.proofs.Common.{arith}
use Rattle.constraints.proofs.SideEdges.{word-mended}
use Rattle.constraints.proofs.side_edges.side_edges_at.Goals as goal

pub overflow_sub-result : goal.overflow_sub-result
overflow_sub-result c =
    let e = word-mended c.args.problem.now c.args.word in
    let a = c.more_reads.ensures.value in
    let b = c.all_shortening.ensures in
    omega (arith, e, a, b)

pub returns-clause-value : goal.returns-clause-value
returns-clause-value c =
    let e = word-mended c.args.problem.now c.args.word in
    let a = c.more_reads.ensures.value in
    let b = c.all_shortening.ensures in
    omega (arith, e, a, b)
