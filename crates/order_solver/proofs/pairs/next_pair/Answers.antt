use Rattle.std.proofs.Common.{◌<◌, [], refl, sym, subst, arith}
use Rattle.order_graph.specs.Graphs.{edges_of}
use Rattle.order_solver.specs.declared.cursor.Cursor.{Cursor}
use Rattle.order_solver.specs.Cursors.{IsPlace, Passes, pairs_at}
use Rattle.order_solver.proofs.Passing.{passes-same, passes-on, found-at, row-over, rows-fall, rows_left, at-none}
use Rattle.order_solver.proofs.pairs.next_pair.Goals as goal

pub loop-at-init : goal.loop-at-init
loop-at-init g c = record { place = c.requires.place; passes = passes-same (edges_of c.args.graph.now) (pairs_at (g.R.Rivals.rivalry c.args.rivals.now) c.args.from) _ refl }

pub next_in_row-requires-clause-lesser : goal.next_in_row-requires-clause-lesser
next_in_row-requires-clause-lesser g c = c.loop-at.invariant.place.lesser

pub returns-in-Some-clause-passes : goal.returns-in-Some-clause-passes
returns-in-Some-clause-passes g c =
    let s = c.in-Some.ensures.settled in
    let t = c.loop-at-test.true in
    let e = c.words.ensures in
    found-at (g.R.Rivals.rivalry c.args.rivals.now) (edges_of c.args.graph.now) c.args.from c.loop-at.at c.in-Some.greater (omega (arith, t, e)) c.loop-at.invariant.place c.loop-at.invariant.passes s.0 s.1 s.2 s.3

pub loop-at-smaller : goal.loop-at-smaller
loop-at-smaller g c =
    let t = c.loop-at-test.true in
    let e = c.words.ensures in
    subst (λ (n : Cursor). rows_left (g.R.Rivals.rivalry c.args.rivals.now) n < rows_left (g.R.Rivals.rivalry c.args.rivals.now) c.loop-at.at) (sym c.next_row-at.ensures)
    (rows-fall (g.R.Rivals.rivalry c.args.rivals.now) c.loop-at.at (omega (arith, t, e)) c.loop-at.invariant.place).0

pub loop-at-preserved : goal.loop-at-preserved
loop-at-preserved g c =
    let t = c.loop-at-test.true in
    let e = c.words.ensures in
    record {
      place = subst (λ (n : Cursor). IsPlace (g.R.Rivals.rivalry c.args.rivals.now) n) (sym c.next_row-at.ensures)
          (rows-fall (g.R.Rivals.rivalry c.args.rivals.now) c.loop-at.at (omega (arith, t, e)) c.loop-at.invariant.place).1;
      passes = subst (λ (n : Cursor). Passes (edges_of c.args.graph.now) (pairs_at (g.R.Rivals.rivalry c.args.rivals.now) c.args.from) (pairs_at (g.R.Rivals.rivalry c.args.rivals.now) n)) (sym c.next_row-at.ensures)
          (row-over (g.R.Rivals.rivalry c.args.rivals.now) (edges_of c.args.graph.now) c.args.from c.loop-at.at (omega (arith, t, e)) c.loop-at.invariant.place c.loop-at.invariant.passes c.in_default.ensures.settled);
    }

pub returns-clause-passes : goal.returns-clause-passes
returns-clause-passes g c =
    let t = c.loop-at-test.false in
    let e = c.words.ensures in
    passes-on (edges_of c.args.graph.now) (pairs_at (g.R.Rivals.rivalry c.args.rivals.now) c.args.from) (pairs_at (g.R.Rivals.rivalry c.args.rivals.now) c.loop-at.at) [] c.loop-at.invariant.passes
    (passes-same (edges_of c.args.graph.now) (pairs_at (g.R.Rivals.rivalry c.args.rivals.now) c.loop-at.at) []
    (at-none (g.R.Rivals.rivalry c.args.rivals.now) c.loop-at.at.word c.loop-at.at.lesser c.loop-at.at.greater (omega (arith, t, e))))
