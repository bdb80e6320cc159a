use Rattle.std.proofs.Common.{◌∙◌, arith}
use Rattle.constraints.proofs.SideEdges.{sources_few}
use Rattle.races.proofs.Listing.{rows-listed, listed-few, row-alike}
use Rattle.races.proofs.list.list_word.Goals as goal

pub overflow_cast-source : goal.overflow_cast-source
overflow_cast-source c =
    let n = sources_few c.args.problem.now c.args.word c.events-events.ensures.rules in
    let e = c.requires.table.sources in
    let t = c.loop-place-test.true in
    omega (arith, n, e, t)

pub loop-place-preserved : goal.loop-place-preserved
loop-place-preserved c =
    let t = c.loop-place-test.true in
    let e = c.requires.table.sources in
    let v = c.loop-place.invariant in
    let r = row-alike c.args.problem.now c.row_of.result.word c.args.word c.row_of.result.place c.loop-place.place c.args.most c.loop-place.first.items c.list_row.new.first.items c.row_of.ensures.word c.row_of.ensures.place c.in_ok-list_row.ensures in
    record {
      high = omega (arith, t);
      few = listed-few c.args.most _ _ r;
      list = rows-listed c.args.problem.now c.args.word c.loop-place.place c.args.most c.loop-place.first.items c.list_row.new.first.items (omega (arith, t, e)) r ∙ v.list;
    }
