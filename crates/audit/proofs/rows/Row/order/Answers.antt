use Rattle.std.proofs.Common.{ℕ, List, sym, subst}
use Rattle.std.proofs.lemmas.List.Filters.{dedup_is}
use Rattle.audit.specs.Rows.{IsOrdered}
use Rattle.audit.proofs.Rowing.{ordered-by}
use Rattle.audit.proofs.rows.Row.order.Goals as goal

pub returns : goal.returns
returns c =
    let P : List ℕ → Type 0 = λ xs. IsOrdered xs c.dedup.new.self.items in
    subst P c.self.view_is
    (subst (IsOrdered c.self.inside.numbers.items) (sym (dedup_is _ _ _ c.dedup.ensures.filtered)) (ordered-by _ _ c.sort_unstable.ensures.permutation c.sort_unstable.ensures.sorted))
