use Rattle.std.proofs.Common.{◌∙◌, ap, length, arith}
use Rattle.constraints.proofs.SideEdges.{sources_few}
use Rattle.races.proofs.Opened.{number-more, pairs-all}
use Rattle.races.proofs.open.pair_total.Goals as goal

pub pair_count-total-requires : goal.pair_count-total-requires
pair_count-total-requires c =
    let n = sources_few c.args.problem.now c.loop-word.word c.events-events.ensures.rules in
    let e = ap (λ xs. length xs) c.sources.ensures in
    omega (arith, n, e)

pub loop-word-preserved : goal.loop-word-preserved
loop-word-preserved c =
    let i = c.loop-word.invariant in
    let w = i.few in
    let v = c.pair_count-total.ensures.value in
    let s = c.pair_count-total.ensures.small in
    let m = number-more c.args.problem.now c.loop-word.word c.loop-word.total _ i.total (ap (λ xs. length xs) c.sources.ensures) in
    record {
      end = i.end;
      total = omega (arith, m, v);
      few = omega (arith, w, s);
    }

pub returns : goal.returns
returns c =
    let e = c.loop-word.invariant.end in
    let a = c.loop-word.auto.word-end in
    let q = ap (λ xs. length xs) (pairs-all c.args.problem.now c.loop-word.word (omega arith)) in
    c.loop-word.invariant.total ∙ q
