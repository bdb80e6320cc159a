use Rattle.std.proofs.Common.{leb-true}
use Rattle.races.proofs.Fronts.{stretch-none}
use Rattle.races.proofs.count.none_is_back.Goals as goal

pub returns : goal.returns
returns c = λ t. stretch-none c.args.problem.now c.args.row c.args.table.now c.args.from c.args.to c.index.result.now c.requires.table c.requires.row c.requires.stretch c.if-from-to.false c.index.ensures (leb-true _ _ t)
