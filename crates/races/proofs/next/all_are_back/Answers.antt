use Rattle.std.proofs.Common.{ltb-true}
use Rattle.races.proofs.Fronts.{stretch-all}
use Rattle.races.proofs.next.all_are_back.Goals as goal

pub returns : goal.returns
returns c = λ t. stretch-all c.args.problem.now c.args.row c.args.table.now c.args.from c.args.to c.index.result.now c.requires.table c.requires.row c.requires.stretch c.if-from-to.false c.index.ensures (ltb-true _ _ t)
