use Rattle.std.proofs.Common.{◌∙◌, reverse, sym, subst, arith}
use Rattle.order_solver.specs.declared.cursor.Cursor.{Cursor}
use Rattle.order_solver.specs.Cursors.{IsPlace}
use Rattle.order_solver.specs.Frames.{StandsAt}
use Rattle.order_solver.proofs.Going.{back-taken, back-shut, none-left}
use Rattle.order_solver.proofs.Memories.{went-memory, went-wants}
use Rattle.order_solver.proofs.Spending.{on_err}
use Rattle.order_solver.proofs.search.go_back.Goals as goal

pub returns-then-branch-clause-went : goal.returns-then-branch-clause-went
returns-then-branch-clause-went g c =
    let r = g.R.Rivals.rivalry c.args.rivals.now in
    let i = c.loop-frame.invariant in
    let k = back-taken r c.loop-frame.graph c.undo.new.self c.take_greater.new.graph c.loop-frame.frames.items c.pop.new.self.items c.in-Some.frame c.in_ok-take_greater.field-0
    (i.counts ∙ c.requires.counts) i.stacked c.in-Some.ensures.items c.undo.ensures c.in_ok-take_greater.ensures.takes c.if-branch.true in (
      k.0 ∙ sym c.requires.counts,
      subst (λ (n : Cursor). IsPlace r n) (sym c.next_to.ensures) k.1,
      k.2,
      λ problem dead s. subst (λ (n : Cursor). StandsAt r problem c.take_greater.new.graph.added (reverse c.pop.new.self.items) n dead) (sym c.next_to.ensures) (k.3 problem dead (i.stands problem dead s)),
    )

pub loop-frame-preserved : goal.loop-frame-preserved
loop-frame-preserved g c =
    let r = g.R.Rivals.rivalry c.args.rivals.now in
    let i = c.loop-frame.invariant in
    let k = back-shut r c.loop-frame.graph c.undo.new.self c.take_greater.new.graph c.loop-frame.frames.items c.pop.new.self.items c.in-Some.frame c.in_ok-take_greater.field-0
    (i.counts ∙ c.requires.counts) i.stacked c.in-Some.ensures.items c.undo.ensures c.in_ok-take_greater.ensures.takes c.if-branch.false in
    record {
      counts = k.0 ∙ sym c.requires.counts;
      stacked = k.1;
      stands = λ problem dead s. k.2 problem dead (i.stands problem dead s);
      room = λ memory h. went-memory r c.loop-frame.graph c.undo.new.self c.take_greater.new.graph c.loop-frame.frames.items c.pop.new.self.items c.in-Some.frame _ _ c.in_ok-take_greater.field-0 (i.counts ∙ c.requires.counts) i.stacked
          c.in-Some.ensures.items c.undo.ensures c.in_ok-take_greater.ensures.takes c.in_ok-take_greater.ensures.spends c.in-Some.ensures.capacity memory (i.room memory h);
    }

pub returns-clause-went : goal.returns-clause-went
returns-clause-went g c = λ problem dead s.
    none-left (g.R.Rivals.rivalry c.args.rivals.now) problem c.loop-frame.graph.added c.loop-frame.frames.items dead
    (let e = c.in_default.ensures.cases in let a = e.0 in let b = c.loop-frame.frames.ok.0 in omega (arith, a, b)) (c.loop-frame.invariant.stands problem dead s)

pub returns-then-branch-clause-room : goal.returns-then-branch-clause-room
returns-then-branch-clause-room g c = λ memory h.
    let r = g.R.Rivals.rivalry c.args.rivals.now in
    let i = c.loop-frame.invariant in
    went-memory r c.loop-frame.graph c.undo.new.self c.take_greater.new.graph c.loop-frame.frames.items c.pop.new.self.items c.in-Some.frame _ _ c.in_ok-take_greater.field-0 (i.counts ∙ c.requires.counts) i.stacked
    c.in-Some.ensures.items c.undo.ensures c.in_ok-take_greater.ensures.takes c.in_ok-take_greater.ensures.spends c.in-Some.ensures.capacity memory (i.room memory h)

pub returns-in_err-take_greater-clause-memory : goal.returns-in_err-take_greater-clause-memory
returns-in_err-take_greater-clause-memory g c = on_err _ _ c.from_residual.ensures.0 (λ memory h.
    let r = g.R.Rivals.rivalry c.args.rivals.now in
    let i = c.loop-frame.invariant in
    went-wants r c.loop-frame.graph c.undo.new.self c.loop-frame.frames.items c.pop.new.self.items c.in-Some.frame _ (i.counts ∙ c.requires.counts) i.stacked c.in-Some.ensures.items c.undo.ensures c.in_err-take_greater.ensures.memory
    memory (i.room memory h))
