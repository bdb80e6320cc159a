use Rattle.std.proofs.Common.{◌∙◌, ℕ, ◌+◌, reverse, length, sym, subst, arith}
use Rattle.std.proofs.lemmas.Bool.{eqb-true}
use Rattle.order_solver.specs.declared.cursor.Cursor.{Cursor}
use Rattle.order_solver.specs.Rivals.{pairs_from, problem_in}
use Rattle.order_solver.specs.Cursors.{IsPlace, pairs_at}
use Rattle.order_solver.specs.Frames.{StandsAt, StandsOrStuck}
use Rattle.order_solver.proofs.Counting.{places-within}
use Rattle.order_solver.proofs.Going.{begun-at, rooted-at, place-next, stands-passed, found-all, none-solves, went-some, budget-falls, nothing-left}
use Rattle.order_solver.proofs.Forced.{forced-there, stands-at, is-stuck}
use Rattle.order_solver.proofs.Memories.{starts-memory, forced-memory}
use Rattle.order_solver.proofs.Spending.{on_err}
use Rattle.order_solver.proofs.search.explore.Goals as goal

pub loop-stands-init : goal.loop-stands-init
loop-stands-init g c =
    let r = g.R.Rivals.rivalry c.args.rivals.now in
    let k = begun-at r c.args.graph.now c.args.frames.now.items c.first_of-at.result c.requires.begun c.requires.empty c.first_of-at.ensures in
    let h = forced-there r c.args.graph.now c.force.new.graph (reverse c.args.frames.now.items) c.first_of-at.result c.in_ok-stands.stands c.requires.begun.counts k.1 c.in_ok-stands.ensures in
    record { counts = h.0 ∙ c.requires.begun.counts; place = k.0; budget = omega arith; stacked = h.1; stands = h.2 0 k.2; memory = λ a b. forced-memory r c.args.graph.now c.force.new.graph (reverse c.args.frames.now.items) _ c.in_ok-stands.stands k.1 c.in_ok-stands.ensures _ (starts-memory r c.args.graph.now c.args.frames.now.items _ c.requires.empty a b) }

pub next_pair-requires-clause-rooted : goal.next_pair-requires-clause-rooted
next_pair-requires-clause-rooted g c =
    rooted-at (g.R.Rivals.rivalry c.args.rivals.now) c.loop-stands.graph (reverse c.loop-stands.frames.items) c.loop-stands.invariant.counts c.loop-stands.invariant.stacked

pub returns-in_default-clause-explored : goal.returns-in_default-clause-explored
returns-in_default-clause-explored g c =
    let r = g.R.Rivals.rivalry c.args.rivals.now in
    let i = c.loop-stands.invariant in (
      i.counts,
      found-all r (problem_in r) c.loop-stands.graph (reverse c.loop-stands.frames.items) c.loop-stands.at c.loop-stands.dead i.counts
          (stands-at r c.loop-stands.graph.added (reverse c.loop-stands.frames.items) c.loop-stands.at c.loop-stands.dead c.loop-stands.stands i.stands c.if-stands.true) c.in_default.ensures.passes,
    )

pub loop-stands-preserved-then-stands : goal.loop-stands-preserved-then-stands
loop-stands-preserved-then-stands g c =
    let r = g.R.Rivals.rivalry c.args.rivals.now in
    let i = c.loop-stands.invariant in
    let h = c.in_ok-stands-2.ensures.chose in
    let s = stands-passed r (problem_in r) c.loop-stands.graph (reverse c.loop-stands.frames.items) c.loop-stands.at (pairs_at r c.in-Some.pair) c.loop-stands.dead i.counts
    (stands-at r c.loop-stands.graph.added (reverse c.loop-stands.frames.items) c.loop-stands.at c.loop-stands.dead c.loop-stands.stands i.stands c.if-stands.true) c.in-Some.ensures.passes.1 in
    record {
      counts = h.0 ∙ i.counts;
      place = subst (λ (n : Cursor). IsPlace r n) (sym c.next_to-at.ensures) (place-next r c.in-Some.pair c.in-Some.ensures.passes.0);
      budget = i.budget;
      stacked = h.1;
      stands = subst (λ (n : Cursor). StandsOrStuck r c.choose.new.graph.added (reverse c.choose.new.frames.items) n c.loop-stands.dead c.in_ok-stands-2.stands) (sym c.next_to-at.ensures)
          (h.2 c.loop-stands.dead s);
      memory = λ a b. c.in_ok-stands-2.ensures.room _ (i.memory a b);
    }

pub returns-then-is_empty-clause-explored : goal.returns-then-is_empty-clause-explored
returns-then-is_empty-clause-explored g c =
    let r = g.R.Rivals.rivalry c.args.rivals.now in
    let s = is-stuck r c.loop-stands.graph.added (reverse c.loop-stands.frames.items) c.loop-stands.at c.loop-stands.dead c.loop-stands.stands c.loop-stands.invariant.stands c.if-stands.false in
    nothing-left r (problem_in r) c.loop-stands.graph c.loop-stands.frames.items (c.loop-stands.dead + 1)
    (let q = eqb-true _ 0 (sym c.is_empty.ensures ∙ c.if-is_empty.true) in let k = c.loop-stands.frames.ok.0 in omega (arith, q, k)) s

pub returns-in_default-2-clause-explored : goal.returns-in_default-2-clause-explored
returns-in_default-2-clause-explored g c =
    let r = g.R.Rivals.rivalry c.args.rivals.now in
    let s = is-stuck r c.loop-stands.graph.added (reverse c.loop-stands.frames.items) c.loop-stands.at c.loop-stands.dead c.loop-stands.stands c.loop-stands.invariant.stands c.if-stands.false in
    none-solves r (problem_in r) c.loop-stands.graph c.go_back.new.graph (reverse c.loop-stands.frames.items) (reverse c.go_back.new.frames.items) c.in_ok-next.field-0 (c.loop-stands.dead + 1) s c.in_ok-next.ensures.went c.in_default-2.is

pub loop-stands-smaller : goal.loop-stands-smaller
loop-stands-smaller g c =
    let r = g.R.Rivals.rivalry c.args.rivals.now in
    let w = went-some r c.loop-stands.graph c.go_back.new.graph (reverse c.loop-stands.frames.items) (reverse c.go_back.new.frames.items) c.in_ok-next.field-0 c.in-Some-2.next c.in_ok-next.ensures.went c.in-Some-2.is in
    budget-falls c.args.budget c.loop-stands.dead c.in-Some-one_more.more (length (pairs_from r 0 r.words)) (length (pairs_at r c.loop-stands.at)) (length (pairs_at r c.in-Some-2.next)) c.in-Some-one_more.ensures.0
    c.in-Some-one_more.ensures.1 (places-within r c.in-Some-2.next w.1)

pub loop-stands-preserved : goal.loop-stands-preserved
loop-stands-preserved g c =
    let r = g.R.Rivals.rivalry c.args.rivals.now in
    let i = c.loop-stands.invariant in
    let s = is-stuck r c.loop-stands.graph.added (reverse c.loop-stands.frames.items) c.loop-stands.at c.loop-stands.dead c.loop-stands.stands i.stands c.if-stands.false in
    let w = went-some r c.loop-stands.graph c.go_back.new.graph (reverse c.loop-stands.frames.items) (reverse c.go_back.new.frames.items) c.in_ok-next.field-0 c.in-Some-2.next c.in_ok-next.ensures.went c.in-Some-2.is in
    let n = c.in-Some-one_more.ensures.0 in
    let there = subst (λ (n : ℕ). StandsAt r (problem_in r) c.go_back.new.graph.added (reverse c.go_back.new.frames.items) c.in-Some-2.next n) (sym n) (w.3 (problem_in r) (c.loop-stands.dead + 1) s) in
    let h = forced-there r c.go_back.new.graph c.force-else-stands.new.graph (reverse c.go_back.new.frames.items) c.in-Some-2.next c.in_ok-stands-3.stands (w.0 ∙ i.counts) w.2 c.in_ok-stands-3.ensures in
    record {
      counts = h.0 ∙ w.0 ∙ i.counts;
      place = w.1;
      budget = c.in-Some-one_more.ensures.1;
      stacked = h.1;
      stands = h.2 c.in-Some-one_more.more there;
      memory = λ a b. forced-memory r c.go_back.new.graph c.force-else-stands.new.graph (reverse c.go_back.new.frames.items) _ c.in_ok-stands-3.stands w.2 c.in_ok-stands-3.ensures _ (c.in_ok-next.ensures.room _ (i.memory a b));
    }

pub returns-in_err-stands-clause-memory : goal.returns-in_err-stands-clause-memory
returns-in_err-stands-clause-memory g c =
    on_err _ _ c.from_residual.ensures.0 (λ a b. c.in_err-stands.ensures _ _ (starts-memory (g.R.Rivals.rivalry c.args.rivals.now) c.args.graph.now c.args.frames.now.items _ c.requires.empty a b).room)
