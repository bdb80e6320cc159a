use Rattle.std.proofs.Common.{refl, arith}
use Rattle.order_graph.specs.Graphs.{edges_of}
use Rattle.std.proofs.lemmas.Bool.{both_ways}
use Rattle.order_solver.proofs.Windows.{run-part, past-settled, after-settled, settled-join, next-undecided}
use Rattle.order_solver.proofs.rows.next_in_run.Goals as goal

pub first_after-after-requires-clause-run : goal.first_after-after-requires-clause-run
first_after-after-requires-clause-run g c =
    run-part (g.R.Rivals.rivalry c.args.rivals.now) (edges_of c.args.graph.now) c.args.word c.args.from c.args.end c.next_rival-first.result c.requires.run c.next_rival-first.ensures.later
    (let n = c.if-first-end.false in omega (arith, n))

pub returns-then-next-end-clause-settled : goal.returns-then-next-end-clause-settled
returns-then-next-end-clause-settled g c =
    let n = c.if-first-end.false in
    let m = c.if-next-end.true in
    let h = c.first_after-after.ensures.high in
    past-settled (g.R.Rivals.rivalry c.args.rivals.now) (edges_of c.args.graph.now) c.args.word c.args.source c.args.from c.next_rival-first.result c.first_after-after.result c.next_rival-next.result c.args.end c.args.end
    c.requires.rivals c.requires.word c.requires.source c.requires.run c.next_rival-first.ensures (omega (arith, n)) c.first_after-after.ensures.low h c.first_after-after.ensures.before c.next_rival-next.ensures
    h (omega (arith, m)) (omega arith)

pub returns-then-precedes-clause-settled : goal.returns-then-precedes-clause-settled
returns-then-precedes-clause-settled g c =
    let n = c.if-first-end.false in
    let m = c.if-next-end.false in
    let h = c.first_after-after.ensures.high in
    let a = c.next_rival-first.ensures.later in
    let b = c.first_after-after.ensures.low in
    let d = c.next_rival-next.ensures.later in
    settled-join (g.R.Rivals.rivalry c.args.rivals.now) (edges_of c.args.graph.now) c.args.word c.args.source c.args.from c.next_rival-next.result c.args.end
    (past-settled (g.R.Rivals.rivalry c.args.rivals.now) (edges_of c.args.graph.now) c.args.word c.args.source c.args.from c.next_rival-first.result c.first_after-after.result c.next_rival-next.result c.next_rival-next.result c.args.end
    c.requires.rivals c.requires.word c.requires.source c.requires.run c.next_rival-first.ensures (omega (arith, n)) b h c.first_after-after.ensures.before c.next_rival-next.ensures
    d (omega arith) (omega (arith, m)))
    (after-settled (g.R.Rivals.rivalry c.args.rivals.now) (edges_of c.args.graph.now) c.args.word c.args.source c.args.from c.args.end c.next_rival-next.result c.requires.run (omega (arith, a, b, d)) (c.if-precedes.ensures.0 refl))

pub returns-clause-settled : goal.returns-clause-settled
returns-clause-settled g c =
    let n = c.if-first-end.false in
    let m = c.if-next-end.false in
    let h = c.first_after-after.ensures.high in
    let a = c.next_rival-first.ensures.later in
    let b = c.first_after-after.ensures.low in
    let d = c.next_rival-next.ensures.later in
    let z = c.requires.run.within in (
      omega (arith, a, b, d),
      omega (arith, m),
      past-settled (g.R.Rivals.rivalry c.args.rivals.now) (edges_of c.args.graph.now) c.args.word c.args.source c.args.from c.next_rival-first.result c.first_after-after.result c.next_rival-next.result c.next_rival-next.result c.args.end
          c.requires.rivals c.requires.word c.requires.source c.requires.run c.next_rival-first.ensures (omega (arith, n)) b h c.first_after-after.ensures.before c.next_rival-next.ensures
          d (omega arith) (omega (arith, m)),
      c.next_rival-next.ensures.rival (omega (arith, m, z)),
    )

pub returns-clause-undecided : goal.returns-clause-undecided
returns-clause-undecided g c =
    let n = c.if-first-end.false in
    let m = c.if-next-end.false in
    let a = c.next_rival-first.ensures.later in
    let b = c.first_after-after.ensures.low in
    let d = c.next_rival-next.ensures.later in
    next-undecided (g.R.Rivals.rivalry c.args.rivals.now) (edges_of c.args.graph.now) c.args.word c.args.source c.args.from c.args.end c.first_after-after.result c.next_rival-next.result
    c.requires.rivals c.requires.word c.requires.source c.requires.run (omega (arith, a, b)) d (omega (arith, m)) (c.first_after-after.ensures.last (omega (arith, d, m)))
    (λ h. both_ways c.precedes.result c.if-precedes.false (c.precedes.ensures.1 h))
