use Rattle.std.proofs.Common.{arith}
use Rattle.races.specs.Shut.{shuts}
use Rattle.races.proofs.Ranges.{front-more}
use Rattle.races.proofs.Fronts.{end-at, start-at}
use Rattle.races.proofs.count.shut_count.Goals as goal

pub loop-thread-preserved : goal.loop-thread-preserved
loop-thread-preserved c =
    let t = c.loop-thread.thread in
    let tab = c.requires.table in
    let k = c.loop-thread-test.true in
    let e = tab.threads in
    let f = end-at c.args.problem.now c.args.source.word c.args.source.place t c.args.table.now c.index-end.result.now tab c.requires.place k c.index-end.ensures in
    let b = tab.starts.begin t (omega (arith, k, e)) in
    let n = tab.starts.end t (omega (arith, k, e)) in
    let s = front-more (shuts c.args.problem.now c.args.source.word c.args.source.place) _ _ _ _ _ c.loop-thread.count b n f c.loop-thread.invariant.count in
    let r = c.from-count.ensures in
    let y = start-at c.args.problem.now c.args.source.word t c.args.table.now c.index.result.now tab k c.index.ensures in
    let w = c.loop-thread.invariant.few in
    let l = f.low in
    let h = f.high in
    record {
      count = omega (arith, s, r, y, b);
      few = omega (arith, r, y, w, b, n, l, h);
    }
