use Rattle.std.proofs.Common.{reverse}
use Rattle.order_solver.proofs.Forced.{chose-forced, chose-none}
use Rattle.order_solver.proofs.Memories.{chosen-memory, chosen-wants}
use Rattle.order_solver.proofs.search.choose.Goals as goal

pub returns-then-branch-clause-chose : goal.returns-then-branch-clause-chose
returns-then-branch-clause-chose g c = chose-forced (g.R.Rivals.rivalry c.args.rivals.now) c.args.at c.args.graph.now c.take_pair.new.graph c.force.new.graph (reverse c.args.frames.now.items) (reverse c.take_pair.new.frames.items) c.in_ok-take_pair.field-0 c.force.result
    c.requires.counts c.in_ok-take_pair.ensures.took c.if-branch.true c.force.ensures

pub returns-then-branch-clause-room : goal.returns-then-branch-clause-room
returns-then-branch-clause-room g c = chosen-memory (g.R.Rivals.rivalry c.args.rivals.now) c.args.at c.args.graph.now c.take_pair.new.graph c.force.new.graph (reverse c.args.frames.now.items) (reverse c.take_pair.new.frames.items) _ _ c.in_ok-take_pair.field-0 c.force.result
    c.in_ok-take_pair.ensures.took c.if-branch.true c.in_ok-take_pair.ensures.room c.force.ensures

pub returns-then-branch-clause-memory : goal.returns-then-branch-clause-memory
returns-then-branch-clause-memory g c = chosen-wants (g.R.Rivals.rivalry c.args.rivals.now) c.args.graph.now c.take_pair.new.graph c.force.new.graph (reverse c.args.frames.now.items) (reverse c.take_pair.new.frames.items) _ _ c.force.result
    c.in_ok-take_pair.ensures.room c.force.ensures

pub returns-clause-chose : goal.returns-clause-chose
returns-clause-chose g c = chose-none (g.R.Rivals.rivalry c.args.rivals.now) c.args.at c.args.graph.now c.take_pair.new.graph (reverse c.args.frames.now.items) (reverse c.take_pair.new.frames.items) c.in_ok-take_pair.field-0
    c.requires.stacked c.in_ok-take_pair.ensures.took c.if-branch.false
