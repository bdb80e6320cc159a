use Rattle.std.proofs.Common.{reverse, arith}
use Rattle.std.proofs.lemmas.List.{length-reverse}
use Rattle.order_solver.proofs.Going.{pair-lesser, pair-greater}
use Rattle.order_solver.proofs.Memories.{lesser-memory, frame-memory, lesser-wants, other-memory, other-wants}
use Rattle.order_solver.proofs.Spending.{on_err}
use Rattle.order_solver.proofs.search.take_pair.Goals as goal

pub returns-in_err-take_lesser-clause-memory : goal.returns-in_err-take_lesser-clause-memory
returns-in_err-take_lesser-clause-memory g c = on_err _ _ c.from_residual.ensures.0 (lesser-wants (g.R.Rivals.rivalry c.args.rivals.now) c.args.graph.now (reverse c.args.frames.now.items) c.args.at _ c.requires.at c.requires.undecided c.in_err-take_lesser.ensures.memory)

pub returns-in_err-push-clause-memory : goal.returns-in_err-push-clause-memory
returns-in_err-push-clause-memory g c = on_err _ _ c.from_residual-in_err-push.ensures.0
    (frame-memory (g.R.Rivals.rivalry c.args.rivals.now) c.args.graph.now c.take_lesser.new.graph (reverse c.args.frames.now.items) c.args.at _ c.in_ok-take_lesser.field-0 c.requires.at c.requires.undecided c.in_ok-take_lesser.ensures.takes
    c.in_ok-take_lesser.ensures.spends c.if-branch.true (let f = c.in_err-push.ensures.full in let k = c.args.frames.now.ok.0 in let l = length-reverse c.args.frames.now.items in omega (arith, f, k, l)))

pub returns-then-branch-clause-took : goal.returns-then-branch-clause-took
returns-then-branch-clause-took g c =
    pair-lesser (g.R.Rivals.rivalry c.args.rivals.now) c.args.graph.now c.take_lesser.new.graph c.args.frames.now.items c.push.new.self.items c.args.at c.mark-mark.result c.in_ok-take_lesser.field-0
    c.requires.counts c.requires.at c.mark-mark.ensures c.requires.stacked c.in_ok-take_lesser.ensures.takes c.if-branch.true c.in_ok-push.ensures.items

pub returns-then-branch-clause-room : goal.returns-then-branch-clause-room
returns-then-branch-clause-room g c =
    lesser-memory (g.R.Rivals.rivalry c.args.rivals.now) c.args.graph.now c.take_lesser.new.graph c.args.frames.now.items c.push.new.self.items c.args.at c.mark-mark.result _ _ c.in_ok-take_lesser.field-0
    c.requires.counts c.requires.at c.mark-mark.ensures c.requires.undecided c.in_ok-take_lesser.ensures.takes c.in_ok-take_lesser.ensures.spends c.if-branch.true c.in_ok-push.ensures.items c.in_ok-push.ensures.capacity

pub returns-clause-took : goal.returns-clause-took
returns-clause-took g c =
    pair-greater (g.R.Rivals.rivalry c.args.rivals.now) c.args.graph.now c.take_lesser.new.graph c.take_greater.new.graph (reverse c.args.frames.now.items) c.args.at c.in_ok-take_lesser.field-0 c.take_greater.result
    c.requires.counts c.requires.at c.requires.stacked c.in_ok-take_lesser.ensures.takes c.if-branch.false c.take_greater.ensures.takes

pub returns-clause-room : goal.returns-clause-room
returns-clause-room g c =
    other-memory (g.R.Rivals.rivalry c.args.rivals.now) c.args.graph.now c.take_lesser.new.graph c.take_greater.new.graph (reverse c.args.frames.now.items) c.args.at _ c.in_ok-take_lesser.field-0 c.take_greater.result
    c.requires.at c.requires.stacked c.requires.undecided c.in_ok-take_lesser.ensures.takes c.if-branch.false c.take_greater.ensures.takes c.take_greater.ensures.spends

pub returns-clause-memory : goal.returns-clause-memory
returns-clause-memory g c =
    other-wants (g.R.Rivals.rivalry c.args.rivals.now) c.args.graph.now c.take_lesser.new.graph (reverse c.args.frames.now.items) c.args.at _ c.in_ok-take_lesser.field-0 c.take_greater.result
    c.requires.at c.requires.undecided c.in_ok-take_lesser.ensures.takes c.if-branch.false c.take_greater.ensures.memory
