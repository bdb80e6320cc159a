use Rattle.std.proofs.Common.{arith}
use Rattle.order_graph.specs.Graphs.{edges_of}
use Rattle.order_solver.specs.Cursors.{IsRun}
use Rattle.order_solver.proofs.Windows.{run-of, settled-join, counted}
use Rattle.order_solver.proofs.rows.next_in_row.Goals as goal

run : (g : Rattle.order_solver.proofs.rows.next_in_row.Given.Over) → (c : goal.Then-from-end g) → IsRun (g.R.Rivals.rivalry c.args.rivals.now) (edges_of c.args.graph.now) c.args.at.word c.loop-thread.from c.group-end.result.1
run g c =
    run-of (g.R.Rivals.rivalry c.args.rivals.now) (edges_of c.args.graph.now) c.args.at.word c.loop-thread.thread c.loop-thread.from c.group-end.result.1 c.requires.rivals c.requires.rooted c.requires.word
    (counted c.counts-thread-end.result.now (g.R.Rivals.rivalry c.args.rivals.now).counts c.loop-thread.thread c.counts-thread-end.ensures c.loop-thread-test.true)
    c.loop-thread.invariant.start (omega arith) c.group-end.ensures.end

pub next_in_run-requires-clause-run : goal.next_in_run-requires-clause-run
next_in_run-requires-clause-run g c = run g c

pub returns-in-Some-clause-settled : goal.returns-in-Some-clause-settled
returns-in-Some-clause-settled g c =
    let s = c.in-Some.ensures.settled in
    let a = s.0 in
    let b = s.1 in
    let w =
    run-of (g.R.Rivals.rivalry c.args.rivals.now) (edges_of c.args.graph.now) c.args.at.word c.loop-thread.thread c.loop-thread.from c.group-end.result.1 c.requires.rivals c.requires.rooted c.requires.word
    (counted c.counts-thread-end.result.now (g.R.Rivals.rivalry c.args.rivals.now).counts c.loop-thread.thread c.counts-thread-end.ensures c.loop-thread-test.true)
    c.loop-thread.invariant.start (omega arith) c.group-end.ensures.end in
    let z = w.within in
    let i = c.loop-thread.invariant.from in (
      omega (arith, i, a),
      omega (arith, b, z),
      settled-join (g.R.Rivals.rivalry c.args.rivals.now) (edges_of c.args.graph.now) c.args.at.word c.args.at.lesser c.args.at.greater c.loop-thread.from c.in-Some.next c.loop-thread.invariant.settled s.2,
      s.3,
    )
