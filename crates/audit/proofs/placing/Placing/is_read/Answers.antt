use Rattle.std.proofs.Common.{◌≡◌, subst, eqb, length}
use Rattle.audit.specs.Tables.{Audited, IsPlacing}
use Rattle.audit.proofs.Looking.{read-is}
use Rattle.audit.proofs.placing.Placing.is_read.Goals as goal

pub returns : goal.returns
returns c =
    let is : IsPlacing c.args.self.now c.self.inside.steps.items c.self.inside.counts.items c.self.inside.base.items c.self.inside.sources.items c.self.inside.lasts.items c.self.inside.starts.items c.self.inside.nexts.items =
    subst (λ (a : Audited). IsPlacing a c.self.inside.steps.items c.self.inside.counts.items c.self.inside.base.items c.self.inside.sources.items c.self.inside.lasts.items c.self.inside.starts.items c.self.inside.nexts.items)
    c.self.view_is c.self.invariant in
    read-is c.args.self.now _ _ _ _ _ _ _ is c.args.position c.index.result.now c.is_empty.result c.requires c.index.ensures (subst (λ xs. c.is_empty.result ≡ eqb (length xs) 0) c.numbers.ensures c.is_empty.ensures)
