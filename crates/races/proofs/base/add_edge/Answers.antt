use Rattle.std.proofs.Common.{refl}
use Rattle.races.proofs.Adding.{added-narrows, led-narrows}
use Rattle.races.proofs.base.add_edge.Goals as goal

pub returns-then-before : goal.returns-then-before
returns-then-before c = led-narrows c.args.edge.from c.args.edge.to c.args.graph.now (c.if-before.ensures.0 refl)

pub returns : goal.returns
returns c = added-narrows c.args.edge.from c.args.edge.to c.args.graph.now c.add.new.self c.add.result c.add.ensures
