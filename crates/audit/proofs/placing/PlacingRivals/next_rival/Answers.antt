use Rattle.std.proofs.Common.{◌≡◌, ℕ, List, false, length, get_or, ◌∙◌, sym, ap, subst, arith}
use Rattle.order_solver.specs.Rivals.{IsNextRival}
use Rattle.audit.specs.Positions.{placed_at}
use Rattle.audit.specs.Constraints.{writes_to, is_read}
use Rattle.audit.specs.Tables.{Audited, runs_in, rivalry_in, IsPlacing}
use Rattle.audit.proofs.Looking.{row-is, write-inside, next-unread}
use Rattle.audit.proofs.placing.PlacingRivals.next_rival.Goals as goal

pub is_read-requires : goal.is_read-requires
is_read-requires c =
    let is : IsPlacing c.args.self.now c.self.inside.steps.items c.self.inside.counts.items c.self.inside.base.items c.self.inside.sources.items c.self.inside.lasts.items c.self.inside.starts.items c.self.inside.nexts.items =
    subst (λ (a : Audited). IsPlacing a c.self.inside.steps.items c.self.inside.counts.items c.self.inside.base.items c.self.inside.sources.items c.self.inside.lasts.items c.self.inside.starts.items c.self.inside.nexts.items)
    c.self.view_is c.self.invariant in
    let w : c.numbers-writes.result.now ≡ writes_to c.args.self.now.log (runs_in c.args.self.now) c.args.word = c.numbers-writes.ensures ∙ row-is c.args.self.now _ _ _ _ _ _ _ is c.args.word c.index.result.now c.requires.word (c.index.ensures ∙ ap (λ (n : ℕ). get_or c.self.inside.sources.items n c.index.result.now) c.from.ensures) in
    write-inside c.args.self.now _ _ _ _ _ _ _ is c.args.word c.args.source c.numbers-writes.result.now w c.requires.source

pub returns : goal.returns
returns c =
    let is : IsPlacing c.args.self.now c.self.inside.steps.items c.self.inside.counts.items c.self.inside.base.items c.self.inside.sources.items c.self.inside.lasts.items c.self.inside.starts.items c.self.inside.nexts.items =
    subst (λ (a : Audited). IsPlacing a c.self.inside.steps.items c.self.inside.counts.items c.self.inside.base.items c.self.inside.sources.items c.self.inside.lasts.items c.self.inside.starts.items c.self.inside.nexts.items)
    c.self.view_is c.self.invariant in
    let w : c.numbers-writes.result.now ≡ writes_to c.args.self.now.log (runs_in c.args.self.now) c.args.word = c.numbers-writes.ensures ∙ row-is c.args.self.now _ _ _ _ _ _ _ is c.args.word c.index.result.now c.requires.word (c.index.ensures ∙ ap (λ (n : ℕ). get_or c.self.inside.sources.items n c.index.result.now) c.from.ensures) in
    let n = ap (λ (xs : List ℕ). length xs) w in
    let f : is_read c.args.self.now.log (placed_at c.args.self.now.log (runs_in c.args.self.now) (get_or (writes_to c.args.self.now.log (runs_in c.args.self.now) c.args.word) c.args.source 0)) ≡ false =
    ap (λ (xs : List ℕ). is_read c.args.self.now.log (placed_at c.args.self.now.log (runs_in c.args.self.now) (get_or xs c.args.source 0))) (sym w) ∙ sym c.is_read.ensures ∙ c.if-is_read.false in
    let next = next-unread c.args.self.now _ _ _ _ _ _ _ is c.args.word c.args.source c.args.from c.index-2.result.now c.requires.word
    (c.index-2.ensures ∙ ap (λ (k : ℕ). get_or c.self.inside.nexts.items k c.index-2.result.now) c.from-2.ensures) (omega (arith, n, c.if-from-writes.false)) f in
    subst (λ (xs : List ℕ). IsNextRival (rivalry_in c.args.self.now) c.args.word c.args.source c.args.from (get_or xs c.args.from 0)) (sym c.numbers.ensures) next
