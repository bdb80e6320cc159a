use Rattle.std.proofs.Common.{ℕ, ◌+◌, ◌∙◌, List, get_or, sym, ap, arith}
use Rattle.plain_search.specs.Edges.{Holds}
use Rattle.constraints.specs.Constraints.{edges_to}
use Rattle.order_solver.specs.Rivals.{source_at}
use Rattle.order_solver.specs.Cursors.{Chained}
use Rattle.order_solver.proofs.Nodes.{source-node, last_reads-nodes}
use Rattle.order_solver.proofs.Adding.{narrower-alike, narrower-step, narrower-cycle}
use Rattle.order_solver.proofs.Beginning.{ChainedTo, chained-more, side-is}
use Rattle.order_solver.proofs.begin.add_run.Goals as goal

pub add_side-requires-clause-source : goal.add_side-requires-clause-source
add_side-requires-clause-source g c =
    let e = c.requires.end in
    source-node (g.R.Rivals.rivalry c.args.rivals.now) c.loop-at.graph c.args.word (c.loop-at.at + 1) c.sources.result.now c.requires.rivals (c.loop-at.invariant.counts ∙ c.requires.counts) c.requires.word (omega (arith, e)) c.sources.ensures

pub add_side-requires-clause-last_reads : goal.add_side-requires-clause-last_reads
add_side-requires-clause-last_reads g c =
    let e = c.requires.end in
    last_reads-nodes (g.R.Rivals.rivalry c.args.rivals.now) c.loop-at.graph c.args.word c.loop-at.at c.last_reads.result.now c.requires.rivals (c.loop-at.invariant.counts ∙ c.requires.counts) c.requires.word (omega (arith, e)) c.last_reads.ensures

pub returns-in-Cycle : goal.returns-in-Cycle
returns-in-Cycle g c =
    let r = g.R.Rivals.rivalry c.args.rivals.now in
    let k = c.loop-at.at in
    narrower-cycle (λ rank. ChainedTo r rank c.args.word c.args.from c.args.end k) (λ rank. Holds rank (edges_to c.last_reads.result.now (get_or c.sources.result.now (k + 1) 0))) (λ rank. Chained r rank c.args.word c.args.from c.args.end)
    c.args.graph.now c.loop-at.graph c.add_side.new.graph c.in_ok-add_side.field-0 c.loop-at.invariant c.in_ok-add_side.ensures.narrows c.in-Cycle.is
    (λ rank h. (
      λ n a b d. h n a d,
      side-is rank (r.last_reads c.args.word (source_at r c.args.word k)) c.last_reads.result.now (source_at r c.args.word (k + 1)) (get_or c.sources.result.now (k + 1) 0) (sym c.last_reads.ensures)
          (ap (λ (xs : List ℕ). get_or xs (k + 1) 0) (sym c.sources.ensures)) (h k (omega arith) (omega arith)),
    ))

pub loop-at-preserved : goal.loop-at-preserved
loop-at-preserved g c =
    let r = g.R.Rivals.rivalry c.args.rivals.now in
    let k = c.loop-at.at in
    narrower-step (λ rank. ChainedTo r rank c.args.word c.args.from c.args.end k) (λ rank. Holds rank (edges_to c.last_reads.result.now (get_or c.sources.result.now (k + 1) 0))) (λ rank. ChainedTo r rank c.args.word c.args.from c.args.end (k + 1))
    c.args.graph.now c.loop-at.graph c.add_side.new.graph c.in_ok-add_side.field-0 c.loop-at.invariant c.in_ok-add_side.ensures.narrows c.in-In.is
    (λ rank p q. chained-more r rank c.args.word c.args.from c.args.end k p (side-is rank c.last_reads.result.now (r.last_reads c.args.word (source_at r c.args.word k)) (get_or c.sources.result.now (k + 1) 0) (source_at r c.args.word (k + 1))
    c.last_reads.ensures (ap (λ (xs : List ℕ). get_or xs (k + 1) 0) c.sources.ensures) q))
    (λ rank h. (
      λ n a b d. h n a (omega (arith, b)) d,
      side-is rank (r.last_reads c.args.word (source_at r c.args.word k)) c.last_reads.result.now (source_at r c.args.word (k + 1)) (get_or c.sources.result.now (k + 1) 0) (sym c.last_reads.ensures)
          (ap (λ (xs : List ℕ). get_or xs (k + 1) 0) (sym c.sources.ensures)) (h k (omega arith) (omega arith) (omega arith)),
    ))

pub returns : goal.returns
returns g c =
    let r = g.R.Rivals.rivalry c.args.rivals.now in
    narrower-alike (λ rank. ChainedTo r rank c.args.word c.args.from c.args.end c.loop-at.at) (λ rank. Chained r rank c.args.word c.args.from c.args.end) c.args.graph.now c.loop-at.graph
    (λ rank h k a b. h k a (omega (arith, a, b)) b) (λ rank h k a b d. h k a d) c.loop-at.invariant
