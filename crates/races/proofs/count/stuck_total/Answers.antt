use Rattle.std.proofs.Common.{◌≡◌, ◌+◌, ◌-◌, ◌∙◌, length, arith, ap}
use Rattle.std.specs.List.{sum_by, range_with_len}
use Rattle.constraints.specs.Constraints.{sources_of}
use Rattle.constraints.proofs.SideEdges.{sources_few}
use Rattle.races.specs.Tables.{sticks}
use Rattle.races.proofs.Ranges.{sum-more, count-few}
use Rattle.races.proofs.Totals.{stuck-row, stuck-number, stuck_from}
use Rattle.races.proofs.count.stuck_total.Goals as goal

pub overflow_cast-source : goal.overflow_cast-source
overflow_cast-source c =
    let n = sources_few c.args.problem.now c.args.word c.events-events.ensures.rules in
    let e = c.requires.table.sources in
    let t = c.loop-place-test.true in
    omega (arith, n, e, t)

pub overflow_add-total : goal.overflow_add-total
overflow_add-total c =
    let n = sources_few c.args.problem.now c.args.word c.events-events.ensures.rules in
    let e = c.requires.table.sources in
    let t = c.loop-place-test.true in
    let w = c.loop-place.invariant.few in
    let r = stuck-row c.args.problem.now c.row_of.result.word c.args.word c.row_of.result.place c.loop-place.place c.stuck_count-total.result c.row_of.ensures.word c.row_of.ensures.place c.stuck_count-total.ensures in
    let l = count-few (sticks c.args.problem.now c.args.word c.loop-place.place) (c.loop-place.place + 1) (length (sources_of c.args.problem.now c.args.word) - (c.loop-place.place + 1)) in
    omega (arith, n, e, t, w, r, l)

pub loop-place-preserved : goal.loop-place-preserved
loop-place-preserved c =
    let s = sum-more (stuck_from c.args.problem.now c.args.word) c.loop-place.place in
    let n = sources_few c.args.problem.now c.args.word c.events-events.ensures.rules in
    let i = c.loop-place.invariant.total in
    let w = c.loop-place.invariant.few in
    let r = stuck-row c.args.problem.now c.row_of.result.word c.args.word c.row_of.result.place c.loop-place.place c.stuck_count-total.result c.row_of.ensures.word c.row_of.ensures.place c.stuck_count-total.ensures in
    let l = count-few (sticks c.args.problem.now c.args.word c.loop-place.place) (c.loop-place.place + 1) (length (sources_of c.args.problem.now c.args.word) - (c.loop-place.place + 1)) in
    record {
      total = omega (arith, s, i, r);
      few = omega (arith, n, w, r, l);
    }

pub returns : goal.returns
returns c =
    let e = c.requires.table.sources in
    let a = c.loop-place.auto.place-end in
    let q : c.loop-place.place ≡ length (sources_of c.args.problem.now c.args.word) = omega arith in
    let p = ap (λ n. sum_by (stuck_from c.args.problem.now c.args.word) (range_with_len 0 n)) q in
    c.loop-place.invariant.total ∙ p ∙ stuck-number c.args.problem.now c.args.word
