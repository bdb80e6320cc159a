use Rattle.std.proofs.Common.{◌≡◌, ℕ, ◌+◌, length, subst, sym, ap, arith}
use Rattle.order_solver.specs.Cursors.{Chained}
use Rattle.order_solver.specs.Begun.{HoldsRuns}
use Rattle.order_solver.proofs.Adding.{narrower-alike, narrower-step, narrower-cycle}
use Rattle.order_solver.proofs.Beginning.{runs-more, chained-is, run-within}
use Rattle.order_solver.proofs.Windows.{counted}
use Rattle.order_solver.proofs.begin.add_word.Goals as goal

pub add_run-requires-clause-end : goal.add_run-requires-clause-end
add_run-requires-clause-end g c =
    let r = g.R.Rivals.rivalry c.args.rivals.now in
    run-within r c.args.word c.loop-thread.thread c.group-from.result.1 c.requires.rivals c.requires.word
    (counted c.counts-thread-end.result.now r.counts c.loop-thread.thread c.counts-thread-end.ensures c.loop-thread-test.true) c.group-from.ensures.end

pub returns-in-Cycle : goal.returns-in-Cycle
returns-in-Cycle g c =
    let r = g.R.Rivals.rivalry c.args.rivals.now in
    let t = c.loop-thread.thread in
    let l = counted c.counts-thread-end.result.now r.counts c.loop-thread.thread c.counts-thread-end.ensures c.loop-thread-test.true in
    narrower-cycle (λ rank. HoldsRuns r rank c.args.word t) (λ rank. Chained r rank c.args.word c.group-from.result.0 c.group-from.result.1) (λ rank. HoldsRuns r rank c.args.word (length r.counts))
    c.args.graph.now c.loop-thread.graph c.add_run.new.graph c.in_ok-add_run.field-0 c.loop-thread.invariant c.in_ok-add_run.ensures c.in-Cycle.is
    (λ rank h. (λ u m. h u (omega (arith, m, l)), chained-is r rank c.args.word (r.start c.args.word t) (r.start c.args.word (t + 1)) c.group-from.result.0 c.group-from.result.1 (sym c.group-from.ensures.start) (sym c.group-from.ensures.end) (h t l)))

pub loop-thread-preserved : goal.loop-thread-preserved
loop-thread-preserved g c =
    let r = g.R.Rivals.rivalry c.args.rivals.now in
    let t = c.loop-thread.thread in
    narrower-step (λ rank. HoldsRuns r rank c.args.word t) (λ rank. Chained r rank c.args.word c.group-from.result.0 c.group-from.result.1) (λ rank. HoldsRuns r rank c.args.word (t + 1))
    c.args.graph.now c.loop-thread.graph c.add_run.new.graph c.in_ok-add_run.field-0 c.loop-thread.invariant c.in_ok-add_run.ensures c.in-In.is
    (λ rank p q. runs-more r rank c.args.word t p (chained-is r rank c.args.word c.group-from.result.0 c.group-from.result.1 (r.start c.args.word t) (r.start c.args.word (t + 1)) c.group-from.ensures.start c.group-from.ensures.end q))
    (λ rank h. (λ u m. h u (omega (arith, m)), chained-is r rank c.args.word (r.start c.args.word t) (r.start c.args.word (t + 1)) c.group-from.result.0 c.group-from.result.1 (sym c.group-from.ensures.start) (sym c.group-from.ensures.end) (h t (omega arith))))

pub returns : goal.returns
returns g c =
    let r = g.R.Rivals.rivalry c.args.rivals.now in
    let t = c.loop-thread-test.false in
    let a = c.loop-thread.auto.thread-end in
    let e = ap length c.counts-thread-end.ensures in
    let q : c.loop-thread.thread ≡ length r.counts = omega (arith, t, a, e) in
    narrower-alike (λ rank. HoldsRuns r rank c.args.word c.loop-thread.thread) (λ rank. HoldsRuns r rank c.args.word (length r.counts)) c.args.graph.now c.loop-thread.graph
    (λ rank h. subst (λ (n : ℕ). HoldsRuns r rank c.args.word n) q h) (λ rank h. subst (λ (n : ℕ). HoldsRuns r rank c.args.word n) (sym q) h) c.loop-thread.invariant
