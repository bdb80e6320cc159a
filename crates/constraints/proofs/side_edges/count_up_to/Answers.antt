use Rattle.std.proofs.Common.{arith}
use Rattle.constraints.proofs.SideEdges.{sources_few}
use Rattle.constraints.proofs.side_edges.count_up_to.Goals as goal

pub overflow_cast-i : goal.overflow_cast-i
overflow_cast-i c =
    let n = sources_few c.args.problem.now c.args.word c.requires.rules in
    let e = c.loop-i.invariant.end in
    omega (arith, n, e)
