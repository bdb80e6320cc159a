use Rattle.std.proofs.Common.{ap, arith}
use Rattle.constraints.specs.SideEdges.{pair_count}
use Rattle.constraints.proofs.SideEdges.{sources_few}
use Rattle.races.proofs.Totals.{shut-number, kinds-number, pairs-number}
use Rattle.races.proofs.count.tally_of.Goals as goal

pub overflow_sub-shut : goal.overflow_sub-shut
overflow_sub-shut c =
    let a = shut-number c.args.problem.now c.args.word c.events-events.ensures.rules in
    let t = c.shut_total.ensures in
    let n = c.requires.table.sources in
    omega (arith, a, t, n)

pub pair_count-pairs-requires : goal.pair_count-pairs-requires
pair_count-pairs-requires c =
    let a = sources_few c.args.problem.now c.args.word c.events-events.ensures.rules in
    let n = c.requires.table.sources in
    omega (arith, a, n)

pub overflow_mul-forced : goal.overflow_mul-forced
overflow_mul-forced c =
    let k = kinds-number c.args.problem.now c.args.word in
    let p = pairs-number c.args.problem.now c.args.word in
    let q = ap pair_count c.requires.table.sources in
    let v = c.pair_count-pairs.ensures.value in
    let l = c.pair_count-pairs.ensures.small in
    let s = c.stuck_total-stuck.ensures in
    omega (arith, k, p, q, v, l, s)

pub overflow_sub-forced : goal.overflow_sub-forced
overflow_sub-forced c =
    let a = shut-number c.args.problem.now c.args.word c.events-events.ensures.rules in
    let t = c.shut_total.ensures in
    let n = c.requires.table.sources in
    let s = c.stuck_total-stuck.ensures in
    omega (arith, a, t, n, s)

pub overflow_sub-result : goal.overflow_sub-result
overflow_sub-result c =
    let a = shut-number c.args.problem.now c.args.word c.events-events.ensures.rules in
    let k = kinds-number c.args.problem.now c.args.word in
    let p = pairs-number c.args.problem.now c.args.word in
    let q = ap pair_count c.requires.table.sources in
    let v = c.pair_count-pairs.ensures.value in
    let t = c.shut_total.ensures in
    let n = c.requires.table.sources in
    let s = c.stuck_total-stuck.ensures in
    omega (arith, a, k, p, q, v, t, n, s)

pub overflow_sub-result-2 : goal.overflow_sub-result-2
overflow_sub-result-2 c =
    let a = shut-number c.args.problem.now c.args.word c.events-events.ensures.rules in
    let k = kinds-number c.args.problem.now c.args.word in
    let p = pairs-number c.args.problem.now c.args.word in
    let q = ap pair_count c.requires.table.sources in
    let v = c.pair_count-pairs.ensures.value in
    let t = c.shut_total.ensures in
    let n = c.requires.table.sources in
    let s = c.stuck_total-stuck.ensures in
    omega (arith, a, k, p, q, v, t, n, s)

pub returns-clause-value : goal.returns-clause-value
returns-clause-value c =
    let a = shut-number c.args.problem.now c.args.word c.events-events.ensures.rules in
    let k = kinds-number c.args.problem.now c.args.word in
    let p = pairs-number c.args.problem.now c.args.word in
    let q = ap pair_count c.requires.table.sources in
    let v = c.pair_count-pairs.ensures.value in
    let t = c.shut_total.ensures in
    let n = c.requires.table.sources in
    let s = c.stuck_total-stuck.ensures in
    record {
      pairs = omega (arith, p, q, v);
      left_open = omega (arith, a, k, p, q, v, t, n, s);
      forced = omega (arith, a, t, n, s);
      stuck = s;
    }
