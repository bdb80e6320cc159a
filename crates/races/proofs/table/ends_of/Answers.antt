use Rattle.std.proofs.Common.{arith}
use Rattle.constraints.proofs.SideEdges.{sources_few}
use Rattle.races.proofs.table.ends_of.Goals as goal

pub overflow_cast-source : goal.overflow_cast-source
overflow_cast-source c =
    let n = sources_few c.args.problem.now c.args.word c.events-events.ensures.rules in
    let e = c.loop-place.invariant.end in
    let t = c.loop-place-test.true in
    omega (arith, n, e, t)
