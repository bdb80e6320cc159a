use Rattle.std.proofs.Common.{arith}
use Rattle.constraints.proofs.SideEdges.{sources_few}
use Rattle.constraints.proofs.side_edges.all_shortening.Goals as goal

pub overflow_cast-i : goal.overflow_cast-i
overflow_cast-i c =
    let n = sources_few c.args.problem.now c.args.word c.requires.rules in
    let e = c.loop-i.invariant.end in
    omega (arith, n, e)

pub overflow_add-total : goal.overflow_add-total
overflow_add-total c =
    let n = sources_few c.args.problem.now c.args.word c.requires.rules in
    let e = c.loop-i.invariant.end in
    let t = c.loop-i.invariant.few in
    let f = c.shortening-total.ensures.few in
    omega (arith, n, e, t, f)
