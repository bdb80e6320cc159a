use Rattle.std.proofs.Common.{refl}
use Rattle.order_solver.proofs.Adding.{added-narrows, led-narrows}
use Rattle.order_solver.proofs.Spending.{spends-none, adds-spends, adds-short}
use Rattle.order_solver.proofs.sides.add_edge.Goals as goal

pub returns-then-before-clause-narrows : goal.returns-then-before-clause-narrows
returns-then-before-clause-narrows c = led-narrows c.args.from c.args.to c.args.graph.now (c.if-before.ensures.0 refl)

pub returns-then-before-clause-spends : goal.returns-then-before-clause-spends
returns-then-before-clause-spends c = spends-none 1 c.args.graph.now

pub returns-clause-narrows : goal.returns-clause-narrows
returns-clause-narrows c = added-narrows c.args.from c.args.to c.args.graph.now c.add.new.self c.add.result c.add.ensures

pub returns-clause-spends : goal.returns-clause-spends
returns-clause-spends c = adds-spends c.args.from c.args.to c.args.graph.now c.add.new.self c.add.result c.add.ensures

pub returns-clause-memory : goal.returns-clause-memory
returns-clause-memory c = adds-short c.args.from c.args.to c.args.graph.now c.add.new.self c.add.result c.add.ensures
