use Rattle.std.proofs.Common.{arith, sym}
use Rattle.races.specs.Shut.{shuts}
use Rattle.races.proofs.Ranges.{counted-yes, counted-no, counted-none}
use Rattle.races.proofs.Fronts.{back-yes, back-no}
use Rattle.races.proofs.count.back_count.Goals as goal
use Rattle.races.proofs.count.back_count.Goals.{then-row-index, else-row-index}

pub loop-place-preserved : goal.loop-place-preserved
loop-place-preserved c =
    let i = c.loop-place.invariant in
    let a = i.low in
    let b = i.few in
    let h = c.loop-place-test.true in
    let g = c.requires.to in
    elim c.if-row-index.branch [
      | then-row-index w ↦ (let q = w.count-is in record {
        low = omega (arith, a);
        high = omega (arith, h);
        count = counted-yes (λ j. shuts c.args.problem.now c.args.row.word j c.args.row.place) c.args.from c.loop-place.place c.loop-place.count c.if-row-index.count a
            (back-yes c.args.problem.now c.args.row c.args.table.now c.loop-place.place c.index.result.now c.requires.table c.requires.row (omega (arith, h, g)) c.index.ensures w.if-row-index.true) i.count w.count-is;
        few = omega (arith, q, b, a);
      })
      | else-row-index w ↦ (let q = w.count-is in record {
        low = omega (arith, a);
        high = omega (arith, h);
        count = counted-no (λ j. shuts c.args.problem.now c.args.row.word j c.args.row.place) c.args.from c.loop-place.place c.loop-place.count c.if-row-index.count a
            (back-no c.args.problem.now c.args.row c.args.table.now c.loop-place.place c.index.result.now c.requires.table c.requires.row (omega (arith, h, g)) c.index.ensures (let z = w.if-row-index.false in omega (arith, z))) i.count w.count-is;
        few = omega (arith, q, b, a);
      })
    ]

pub returns-then-none_is_back : goal.returns-then-none_is_back
returns-then-none_is_back c = sym (counted-none (λ j. shuts c.args.problem.now c.args.row.word j c.args.row.place) c.args.from c.args.to (c.none_is_back.ensures c.if-none_is_back.true))
