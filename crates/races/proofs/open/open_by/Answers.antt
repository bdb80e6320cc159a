use Rattle.std.proofs.Common.{refl, ap, arith}
use Rattle.races.specs.declared.tally.Tally.{Tally}
use Rattle.races.proofs.Opened.{tally-more, list-more, all-open}
use Rattle.races.proofs.open.open_by.Goals as goal

pub loop-word-preserved : goal.loop-word-preserved
loop-word-preserved c =
    let i = c.loop-word.invariant in
    let w = i.few in
    let s = c.tally_of.ensures.small in
    let q = ap (λ (x : Tally). x.pairs) c.added-all.ensures in
    record {
      end = i.end;
      tally = tally-more c.args.problem.now c.loop-word.word c.loop-word.all c.tally_of.result c.added-all.result i.tally c.tally_of.ensures.value c.added-all.ensures;
      few = omega (arith, w, s, q);
      first = list-more c.args.problem.now c.loop-word.word c.args.most c.loop-word.first.items c.list_word.new.first.items i.first c.in_ok-list_word.ensures;
    }

pub returns : goal.returns
returns c = all-open c.args.problem.now c.loop-word.word c.args.most c.loop-word.all _ (let e = c.loop-word.invariant.end in let a = c.loop-word.auto.word-end in omega arith) c.loop-word.invariant.tally c.loop-word.invariant.first refl refl refl refl
