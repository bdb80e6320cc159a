use Rattle.std.proofs.Common.{◌∙◌, arith}
use Rattle.constraints.proofs.Parts.{seen}
use Rattle.constraints.proofs.Groups.{row-rising, row-few, starts-long, group-begin, group-end}
use Rattle.constraints.proofs.problem.Problem.group.Goals as goal

pub between-requires-clause-rising : goal.between-requires-clause-rising
between-requires-clause-rising c = row-rising c.args.self.now c.args.word c.sources.result.now c.sources.ensures

pub between-requires-clause-small : goal.between-requires-clause-small
between-requires-clause-small c = row-few c.args.self.now c.args.word c.sources.result.now (seen c.self.view_is c.self.invariant).formed c.sources.ensures

pub between-requires-clause-next : goal.between-requires-clause-next
between-requires-clause-next c =
    let n = starts-long c.args.self.now c.deref.result.now (c.deref.ensures.value ∙ (seen c.self.view_is c.self.invariant).begun) in
    omega (arith, n, c.from.ensures, c.requires.thread)

pub returns-clause-begin : goal.returns-clause-begin
returns-clause-begin c =
    group-begin c.args.self.now c.args.word c.args.thread c.from.result c.between.result.0 c.deref.result.now c.sources.result.now c.from.ensures (c.deref.ensures.value ∙ (seen c.self.view_is c.self.invariant).begun)
    (omega (arith, c.requires.thread)) c.sources.ensures c.between.ensures.begin

pub returns-clause-end : goal.returns-clause-end
returns-clause-end c =
    group-end c.args.self.now c.args.word c.args.thread c.from.result c.between.result.1 c.deref.result.now c.sources.result.now c.from.ensures (c.deref.ensures.value ∙ (seen c.self.view_is c.self.invariant).begun)
    c.requires.thread c.sources.ensures c.between.ensures.end
