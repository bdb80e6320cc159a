use Rattle.std.proofs.Common.{length, arith}
use Rattle.std.specs.List.{count_by, range_with_len}
use Rattle.constraints.specs.Constraints.{sources_of}
use Rattle.constraints.proofs.SideEdges.{sources_few}
use Rattle.races.specs.Shut.{shuts}
use Rattle.races.proofs.Ranges.{sum-more, count-few}
use Rattle.races.proofs.count.shut_total.Goals as goal

pub overflow_cast-source : goal.overflow_cast-source
overflow_cast-source c =
    let n = sources_few c.args.problem.now c.args.word c.events-events.ensures.rules in
    let e = c.requires.table.sources in
    let t = c.loop-place-test.true in
    omega (arith, n, e, t)

pub overflow_add-total : goal.overflow_add-total
overflow_add-total c =
    let n = sources_few c.args.problem.now c.args.word c.events-events.ensures.rules in
    let e = c.requires.table.sources in
    let t = c.loop-place-test.true in
    let w = c.loop-place.invariant.few in
    let r = c.shut_count-total.ensures in
    let l = count-few (shuts c.args.problem.now c.args.word c.loop-place.place) 0 (length (sources_of c.args.problem.now c.args.word)) in
    omega (arith, n, e, t, w, r, l)

pub loop-place-preserved : goal.loop-place-preserved
loop-place-preserved c =
    let s = sum-more (λ i. count_by (shuts c.args.problem.now c.args.word i) (range_with_len 0 (length (sources_of c.args.problem.now c.args.word)))) c.loop-place.place in
    let n = sources_few c.args.problem.now c.args.word c.events-events.ensures.rules in
    let i = c.loop-place.invariant.total in
    let w = c.loop-place.invariant.few in
    let r = c.shut_count-total.ensures in
    let l = count-few (shuts c.args.problem.now c.args.word c.loop-place.place) 0 (length (sources_of c.args.problem.now c.args.word)) in
    record {
      total = omega (arith, s, i, r);
      few = omega (arith, n, w, r, l);
    }
