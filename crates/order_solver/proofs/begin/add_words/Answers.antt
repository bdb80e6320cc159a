use Rattle.std.proofs.Common.{◌≡◌, ℕ, ◌+◌, length, subst, sym, arith}
use Rattle.order_solver.specs.Begun.{HoldsRuns, HoldsWords}
use Rattle.order_solver.proofs.Adding.{narrower-alike, narrower-step, narrower-cycle}
use Rattle.order_solver.proofs.Beginning.{words-more}
use Rattle.order_solver.proofs.begin.add_words.Goals as goal

pub returns-in-Cycle : goal.returns-in-Cycle
returns-in-Cycle g c =
    let r = g.R.Rivals.rivalry c.args.rivals.now in
    let w = c.loop-word.word in
    let l = c.loop-word-test.true in
    let e = c.words-word-end.ensures in
    narrower-cycle (λ rank. HoldsWords r rank w) (λ rank. HoldsRuns r rank w (length r.counts)) (λ rank. HoldsWords r rank r.words)
    c.args.graph.now c.loop-word.graph c.add_word.new.graph c.in_ok-add_word.field-0 c.loop-word.invariant c.in_ok-add_word.ensures c.in-Cycle.is
    (λ rank h. (λ u m. h u (omega (arith, m, l, e)), h w (omega (arith, l, e))))

pub loop-word-preserved : goal.loop-word-preserved
loop-word-preserved g c =
    let r = g.R.Rivals.rivalry c.args.rivals.now in
    let w = c.loop-word.word in
    narrower-step (λ rank. HoldsWords r rank w) (λ rank. HoldsRuns r rank w (length r.counts)) (λ rank. HoldsWords r rank (w + 1))
    c.args.graph.now c.loop-word.graph c.add_word.new.graph c.in_ok-add_word.field-0 c.loop-word.invariant c.in_ok-add_word.ensures c.in-In.is
    (λ rank p q. words-more r rank w p q) (λ rank h. (λ u m. h u (omega (arith, m)), h w (omega arith)))

pub returns : goal.returns
returns g c =
    let r = g.R.Rivals.rivalry c.args.rivals.now in
    let t = c.loop-word-test.false in
    let a = c.loop-word.auto.word-end in
    let e = c.words-word-end.ensures in
    let q : c.loop-word.word ≡ r.words = omega (arith, t, a, e) in
    narrower-alike (λ rank. HoldsWords r rank c.loop-word.word) (λ rank. HoldsWords r rank r.words) c.args.graph.now c.loop-word.graph
    (λ rank h. subst (λ (n : ℕ). HoldsWords r rank n) q h) (λ rank h. subst (λ (n : ℕ). HoldsWords r rank n) (sym q) h) c.loop-word.invariant
