use Rattle.std.proofs.Common.{◌<◌, ◌+◌, length, arith, subst, sym}
use Rattle.constraints.specs.Constraints.{group_of}
use Rattle.constraints.proofs.SideEdges.{sources_few}
use Rattle.races.specs.Shut.{IsFront, shuts}
use Rattle.races.proofs.Ranges.{counted-le}
use Rattle.races.proofs.Shuts.{group-within}
use Rattle.races.proofs.Fronts.{end-at, next-at, row-in, sticks-then, sticks-else}
use Rattle.races.proofs.count.stuck_count.Goals as goal
use Rattle.races.proofs.count.stuck_count.Goals.{Then-from-end, then-from-end, else-from-end}

pub overflow_add-from : goal.overflow_add-from
overflow_add-from c =
    let n = sources_few c.args.problem.now c.args.row.word c.events-events.ensures.rules in
    let l = row-in c.args.problem.now c.args.row c.requires.row in
    omega (arith, n, l)

pub back_count-count-requires-clause-to : goal.back_count-count-requires-clause-to
back_count-count-requires-clause-to c =
    let f = end-at c.args.problem.now c.args.row.word c.args.row.place c.loop-thread.thread c.args.table.now c.index-end.result.now c.requires.table (row-in c.args.problem.now c.args.row c.requires.row) c.loop-thread-test.true c.index-end.ensures in
    let h = f.high in
    let g = group-within c.args.problem.now c.args.row.word c.loop-thread.thread in
    omega (arith, h, g)

pub back_count-count-requires-clause-stretch : goal.back_count-count-requires-clause-stretch
back_count-count-requires-clause-stretch c =
    let t = c.loop-thread.thread in
    let k = c.requires.table.threads in
    let y = c.loop-thread-test.true in
    let m : t < length c.args.problem.now.threads = omega (arith, k, y) in
    let z = c.requires.table.starts.begin t m in
    let b = c.loop-thread.invariant.begin in
    let f = end-at c.args.problem.now c.args.row.word c.args.row.place t c.args.table.now c.index-end.result.now c.requires.table (row-in c.args.problem.now c.args.row c.requires.row) y c.index-end.ensures in
    (t, m, omega (arith, z, b), f.high)

pub overflow_add-count : goal.overflow_add-count
overflow_add-count c =
    let l = counted-le (λ j. shuts c.args.problem.now c.args.row.word j c.args.row.place) c.loop-thread.from c.index-end.result.now in
    let b = c.back_count-count.ensures in
    let w = c.loop-thread.invariant.few in
    let z = c.loop-thread.auto.count-fits in
    let x = c.if-from-end.true in
    omega arith

pub loop-thread-preserved : goal.loop-thread-preserved
loop-thread-preserved c =
    let log = c.args.problem.now in
    let word = c.args.row.word in
    let i = c.args.row.place in
    let t = c.loop-thread.thread in
    let v = c.loop-thread.invariant in
    let f = end-at log word i t c.args.table.now c.index-end.result.now c.requires.table (row-in log c.args.row c.requires.row) c.loop-thread-test.true c.index-end.ensures in
    let m = next-at log word t c.args.table.now c.index.result.now c.requires.table c.loop-thread-test.true c.index.ensures in
    let g = subst (λ n. IsFront (shuts log word i) (group_of log word t).0 n c.index-end.result.now) (sym m) f in
    let a = v.low in
    let b = v.begin in
    let h = v.high in
    let w = v.few in
    let e = c.max-from.ensures in
    let k = c.requires.table.threads in
    let z = c.requires.table.starts.begin t (let k = c.requires.table.threads in let y = c.loop-thread-test.true in omega (arith, k, y)) in
    let x = c.requires.table.starts.end t (let k = c.requires.table.threads in let y = c.loop-thread-test.true in omega (arith, k, y)) in
    let q = group-within log word t in
    elim c.if-from-end.branch [
      | then-from-end u ↦ (let d = u.count-is in
          let l = counted-le (λ j. shuts log word j i) c.loop-thread.from c.index-end.result.now in
          let o = u.back_count-count.ensures in
          let y = u.if-from-end.true in
          let hi = f.high in
          record {
            low = omega (arith, a, e);
            begin = omega (arith, e, m, x);
            high = omega (arith, e, m, q, h);
            count = sticks-then log word i (i + 1) c.loop-thread.from c.max-from.result c.index.result.now _ c.index-end.result.now c.loop-thread.count u.back_count-count.result c.if-from-end.count g (omega (arith, b, z)) a u.if-from-end.true
                v.count u.back_count-count.ensures c.max-from.ensures u.count-is;
            few = omega (arith, d, l, o, y, w, e, m, hi);
          })
      | else-from-end u ↦ (let d = u.count-is in
          let y = u.if-from-end.false in
          record {
            low = omega (arith, a, e);
            begin = omega (arith, e, m, x);
            high = omega (arith, e, m, q, h);
            count = sticks-else log word i (i + 1) c.loop-thread.from c.max-from.result c.index.result.now _ c.index-end.result.now c.loop-thread.count c.if-from-end.count g a (omega (arith, y))
                v.count c.max-from.ensures u.count-is;
            few = omega (arith, d, w, e);
          })
    ]
