use Rattle.order_graph.specs.Shapes.{shape}
use Rattle.order_graph.proofs.Sweeping.{opening-step}
use Rattle.order_graph.proofs.Pulling.{waits-first}
use Rattle.order_graph.proofs.carry.spread.Goals as goal

pub returns-then-not-pull-clause-opening : goal.returns-then-not-pull-clause-opening
returns-then-not-pull-clause-opening c = λ o. opening-step (shape c.args.lanes.now c.args.edges.now) c.args.threads c.args.edge.from c.args.edge.to c.args.clocks.now c.pull.new.clocks c.requires.step c.requires.to c.pull.ensures.lowering o

pub returns-clause-opening : goal.returns-clause-opening
returns-clause-opening c = λ o. c.carry.ensures.opening (opening-step (shape c.args.lanes.now c.args.edges.now) c.args.threads c.args.edge.from c.args.edge.to c.args.clocks.now c.pull.new.clocks c.requires.step c.requires.to c.pull.ensures.lowering o)

pub returns-clause-closed : goal.returns-clause-closed
returns-clause-closed c = λ z h. c.carry.ensures.closed z (waits-first (shape c.args.lanes.now c.args.edges.now) c.args.threads c.args.edge.from c.args.edge.to c.args.clocks.now c.clear.new.self.items c.pull.new.clocks c.pull.new.work.items
    c.pull.ensures.lowering (c.pull.ensures.pulled c.if-not-pull.false) h)
