use Rattle.std.proofs.Common.{length, arith, ◌∙◌, ap}
use Rattle.constraints.proofs.Parts.{seen, rows-length}
use Rattle.constraints.proofs.problem.Problem.words.Goals as goal

pub overflow_cast-result : goal.overflow_cast-result
overflow_cast-result c =
    let k = seen c.self.view_is c.self.invariant in
    let e = c.len.ensures ∙ ap length k.written ∙ rows-length c.args.self.now in
    let m = k.formed.range.words in
    omega (arith, e, m)

pub returns : goal.returns
returns c = c.len.ensures ∙ ap length (seen c.self.view_is c.self.invariant).written ∙ rows-length c.args.self.now
