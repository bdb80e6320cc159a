use Rattle.std.proofs.Common.{◌<◌, arith, subst, sym, length}
use Rattle.constraints.specs.Constraints.{group_of}
use Rattle.races.specs.Shut.{IsFront, shuts}
use Rattle.races.proofs.Shuts.{group-within}
use Rattle.races.proofs.Fronts.{end-at, next-at, row-in, opens-next, opens-past}
use Rattle.races.proofs.next.next_open.Goals as goal
use Rattle.races.proofs.next.next_open.Goals.{then-at-next+else-at-next-2, else-at-next}

pub next_back-at-requires-clause-from : goal.next_back-at-requires-clause-from
next_back-at-requires-clause-from c =
    let log = c.args.problem.now in
    let f = end-at log c.args.row.word c.args.row.place c.loop-thread.thread c.args.table.now c.index-end.result.now c.requires.table (row-in log c.args.row c.requires.row) c.loop-thread-test.true c.index-end.ensures in
    let m = next-at log c.args.row.word c.loop-thread.thread c.args.table.now c.index-next.result.now c.requires.table c.loop-thread-test.true c.index-next.ensures in
    let h = f.high in
    let e = c.max.ensures in
    let l = c.if-at-next.true in
    omega (arith, h, m, e, l)

pub next_back-at-requires-clause-to : goal.next_back-at-requires-clause-to
next_back-at-requires-clause-to c =
    let m = next-at c.args.problem.now c.args.row.word c.loop-thread.thread c.args.table.now c.index-next.result.now c.requires.table c.loop-thread-test.true c.index-next.ensures in
    let g = group-within c.args.problem.now c.args.row.word c.loop-thread.thread in
    omega (arith, m, g)

pub next_back-at-requires-clause-stretch : goal.next_back-at-requires-clause-stretch
next_back-at-requires-clause-stretch c =
    let t = c.loop-thread.thread in
    let k = c.requires.table.threads in
    let y = c.loop-thread-test.true in
    let n : t < length c.args.problem.now.threads = omega (arith, k, y) in
    let m = next-at c.args.problem.now c.args.row.word t c.args.table.now c.index-next.result.now c.requires.table y c.index-next.ensures in
    let z = c.requires.table.starts.begin t n in
    let b = c.loop-thread.invariant.begin in
    let e = c.max.ensures in
    (t, n, omega (arith, z, b, e), omega (arith, m))

pub returns-then-at-next-2 : goal.returns-then-at-next-2
returns-then-at-next-2 c =
    let log = c.args.problem.now in
    let word = c.args.row.word in
    let i = c.args.row.place in
    let t = c.loop-thread.thread in
    let v = c.loop-thread.invariant in
    let f = end-at log word i t c.args.table.now c.index-end.result.now c.requires.table (row-in log c.args.row c.requires.row) c.loop-thread-test.true c.index-end.ensures in
    let m = next-at log word t c.args.table.now c.index-next.result.now c.requires.table c.loop-thread-test.true c.index-next.ensures in
    let g = subst (λ n. IsFront (shuts log word i) (group_of log word t).0 n c.index-end.result.now) (sym m) f in
    let b = v.begin in
    let z = c.requires.table.starts.begin t (let k = c.requires.table.threads in let y = c.loop-thread-test.true in omega (arith, k, y)) in
    let q = group-within log word t in
    opens-next log word i c.args.from c.loop-thread.at c.index-next.result.now _ c.index-end.result.now c.next_back-at.result c.max.result g (omega (arith, b, z)) v.low c.max.ensures c.if-at-next.true (omega (arith, m, q))
    c.next_back-at.ensures v.none c.if-at-next-2.true

pub loop-thread-preserved : goal.loop-thread-preserved
loop-thread-preserved c =
    let log = c.args.problem.now in
    let word = c.args.row.word in
    let i = c.args.row.place in
    let t = c.loop-thread.thread in
    let v = c.loop-thread.invariant in
    let m = next-at log word t c.args.table.now c.index-next.result.now c.requires.table c.loop-thread-test.true c.index-next.ensures in
    let b = v.begin in
    let a = v.low in
    let h = v.high in
    let z = c.requires.table.starts.begin t (let k = c.requires.table.threads in let y = c.loop-thread-test.true in omega (arith, k, y)) in
    let x = c.requires.table.starts.end t (let k = c.requires.table.threads in let y = c.loop-thread-test.true in omega (arith, k, y)) in
    let q = group-within log word t in
    elim c.if-at-next.branch [
      | then-at-next+else-at-next-2 w ↦ (
          let f = end-at log word i t c.args.table.now w.index-end.result.now c.requires.table (row-in log c.args.row c.requires.row) c.loop-thread-test.true w.index-end.ensures in
          let g = subst (λ n. IsFront (shuts log word i) (group_of log word t).0 n w.index-end.result.now) (sym m) f in
          let d = w.at-is in
          let e = w.max.ensures in
          let lo = w.next_back-at.ensures.low in
          let hi = w.next_back-at.ensures.high in
          let no = w.if-at-next-2.false in
          let n = opens-past log word i c.args.from c.loop-thread.at c.index-next.result.now _ w.index-end.result.now w.next_back-at.result w.max.result g (omega (arith, b, z)) w.max.ensures w.next_back-at.ensures v.none in
          record {
            low = omega (arith, a, d, e, lo);
            begin = omega (arith, d, no, m, x);
            high = omega (arith, d, hi, m, q);
            none = λ j k l. n j k (omega (arith, l, d));
          })
      | else-at-next w ↦ (
          let d = w.at-is in
          let no = w.if-at-next.false in
          record {
            low = omega (arith, a, d);
            begin = omega (arith, d, no, m, x);
            high = omega (arith, d, h);
            none = λ j k l. v.none j k (omega (arith, l, d));
          })
    ]
