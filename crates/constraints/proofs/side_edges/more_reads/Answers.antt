use Rattle.std.proofs.Common.{sym, ap, ◌∙◌, arith, List, ℕ, length}
use Rattle.constraints.specs.Constraints.{sources_of, last_reads_from}
use Rattle.constraints.proofs.Groups.{logs_are_small}
use Rattle.constraints.proofs.PairSums.{capped-none}
use Rattle.constraints.proofs.SideEdges.{sources_few, counted-few, counted-pairs, capped-more, capped-end}
use Rattle.constraints.proofs.side_edges.more_reads.Goals as goal

pub pair_count-all-requires : goal.pair_count-all-requires
pair_count-all-requires c =
    let n = sources_few c.args.problem.now c.args.word c.requires.rules in
    let e = ap (λ (xs : List ℕ). length xs) c.sources.ensures in
    omega (arith, n, e)

pub loop-most-init : goal.loop-most-init
loop-most-init c = record {
  end = ap (λ (xs : List ℕ). length xs) c.counts-most-end.ensures ∙ (logs_are_small c.args.problem.now c.requires.rules).threads;
  total = sym (capped-none (last_reads_from c.args.problem.now c.args.word) (sources_of c.args.problem.now c.args.word));
  few = omega arith;
}

pub pair_count-requires : goal.pair_count-requires
pair_count-requires c =
    let n = counted-few c.args.problem.now c.args.word c.loop-most.most c.requires.rules in
    let e = c.count_up_to.ensures in
    omega (arith, n, e)

pub overflow_sub-total : goal.overflow_sub-total
overflow_sub-total c =
    let l = counted-pairs c.args.problem.now c.args.word c.loop-most.most c.sources.result.now c.count_up_to.result c.sources.ensures c.count_up_to.ensures in
    let a = c.pair_count-all.ensures.value in
    let b = c.pair_count.ensures.value in
    omega (arith, l, a, b)

pub loop-most-preserved : goal.loop-most-preserved
loop-most-preserved c =
    let i = c.loop-most.invariant in
    let a = c.pair_count-all.ensures.value in
    let s = c.pair_count-all.ensures.small in
    let b = c.pair_count.ensures.value in
    let l = counted-pairs c.args.problem.now c.args.word c.loop-most.most c.sources.result.now c.count_up_to.result c.sources.ensures c.count_up_to.ensures in
    let m = capped-more c.args.problem.now c.args.word c.loop-most.most c.sources.result.now c.count_up_to.result c.sources.ensures c.count_up_to.ensures in
    let t = i.total in
    let f = i.few in
    record {
      end = i.end;
      total = omega (arith, a, b, l, m, t);
      few = omega (arith, a, b, s, f);
    }

pub returns-clause-value : goal.returns-clause-value
returns-clause-value c =
    let i = c.loop-most.invariant in
    i.total ∙ capped-end c.args.problem.now c.args.word c.loop-most.most c.requires.rules (let e = i.end in omega (arith, e))
