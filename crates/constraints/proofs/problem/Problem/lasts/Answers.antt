use Rattle.std.proofs.Common.{◌∙◌, arith}
use Rattle.constraints.proofs.Parts.{seen, source-row-at, last-row-at, last_reads-few}
use Rattle.constraints.proofs.problem.Problem.lasts.Goals as goal

pub start-requires : goal.start-requires
start-requires c = (source-row-at c.args.self.now c.self.inside.sources c.args.word c.from.result c.from.ensures (seen c.self.view_is c.self.invariant).written c.requires.word).0

pub overflow_add-start : goal.overflow_add-start
overflow_add-start c =
    let k = seen c.self.view_is c.self.invariant in
    let (l, e) = last-row-at c.args.self.now c.self.inside.sources c.self.inside.last_reads c.args.word c.args.i c.from.result c.start.result c.from.ensures c.start.ensures k.written k.read c.requires.word c.requires.source in
    let m = last_reads-few c.args.self.now c.self.inside.last_reads k.formed k.read in
    omega (arith, l, m)

pub row-requires : goal.row-requires
row-requires c =
    let k = seen c.self.view_is c.self.invariant in
    (last-row-at c.args.self.now c.self.inside.sources c.self.inside.last_reads c.args.word c.args.i c.from.result c.start.result c.from.ensures c.start.ensures k.written k.read c.requires.word c.requires.source).0

pub returns : goal.returns
returns c =
    let k = seen c.self.view_is c.self.invariant in
    c.row.ensures ∙ (last-row-at c.args.self.now c.self.inside.sources c.self.inside.last_reads c.args.word c.args.i c.from.result c.start.result c.from.ensures c.start.ensures k.written k.read c.requires.word c.requires.source).1
