use Rattle.order_judge.specs.Judging.{Respects}
use Rattle.order_solver.specs.Findings.{IsLineOf}
use Rattle.order_solver.proofs.Guessed.{base-fits, reads-fit, judged-given, told}
use Rattle.order_solver.proofs.guessing.is_line.Goals as goal

pub respects-requires-clause-edges : goal.respects-requires-clause-edges
respects-requires-clause-edges g c =
    base-fits (g.R.Rivals.rivalry c.args.rivals.now) c.counts.result.now c.base.result.now c.requires.rivals c.counts.ensures c.base.ensures

pub respects-requires-clause-reads : goal.respects-requires-clause-reads
respects-requires-clause-reads g c =
    reads-fit (g.R.Rivals.rivalry c.args.rivals.now) c.counts.result.now c.args.reads.now c.requires.rivals c.counts.ensures c.requires.reads

pub returns : goal.returns
returns g c =
    told (Respects c.counts.result.now c.base.result.now c.args.reads.now c.args.row.now) (IsLineOf (g.R.Rivals.rivalry c.args.rivals.now) c.args.row.now) c.respects.result c.respects.ensures
    (judged-given (g.R.Rivals.rivalry c.args.rivals.now) c.counts.result.now c.base.result.now c.args.reads.now c.args.row.now c.requires.rivals c.counts.ensures c.base.ensures c.requires.reads)
