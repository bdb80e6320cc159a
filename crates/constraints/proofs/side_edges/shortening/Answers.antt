use Rattle.std.proofs.Common.{get_or, length, ap, arith, List, ℕ}
use Rattle.constraints.specs.Constraints.{sources_of}
use Rattle.constraints.proofs.Few.{readers_few}
use Rattle.constraints.proofs.side_edges.shortening.Goals as goal

pub returns-clause-few : goal.returns-clause-few
returns-clause-few c =
    let n = readers_few c.args.problem.now c.requires.rules c.args.word (get_or (sources_of c.args.problem.now c.args.word) c.args.i 0) in
    let t = c.requires.rules.range.threads in
    let e = ap (λ (xs : List ℕ). length xs) c.lasts-reads.ensures in
    let f = c.loop-last.invariant.few in
    omega (arith, n, t, e, f)
