use Rattle.std.proofs.Common.{◌<◌, ℕ, List, [], length, refl, ◌∙◌, subst, arith}
use Rattle.std.proofs.lemmas.List.{get_or_default}
use Rattle.audit.specs.Rows.{IsOrdered}
use Rattle.audit.proofs.Rowing.{ordered-more}
use Rattle.audit.proofs.rows.order_all.Goals as goal

pub loop-row-preserved : goal.loop-row-preserved
loop-row-preserved c =
    let o = c.args.rows.now.ok.0 in
    let n = c.loop-row.invariant.counted in
    let l : c.loop-row.row < length c.loop-row.rows.items = omega (arith, o, n, c.loop-row-test.true, c.len-row-end.ensures) in
    let P : List ℕ → Type 0 = λ xs. IsOrdered xs c.order.new.self in
    ordered-more c.args.rows.now.items c.loop-row.rows.items _ c.loop-row.row c.order.new.self c.loop-row.invariant l refl
    (subst P (c.index_mut.ensures.value ∙ get_or_default c.loop-row.rows.items c.loop-row.row c.index_mut.result.now [] l) c.order.ensures)
