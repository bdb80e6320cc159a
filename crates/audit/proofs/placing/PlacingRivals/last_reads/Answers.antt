use Rattle.std.proofs.Common.{◌≡◌, ℕ, List, eqb, length, get_or, ◌∙◌, ap, subst, arith}
use Rattle.audit.specs.Constraints.{writes_to, last_reads_of}
use Rattle.audit.specs.Tables.{Audited, runs_in, IsPlacing}
use Rattle.audit.proofs.Looking.{row-is, write-inside, last-some, last-none}
use Rattle.audit.proofs.placing.PlacingRivals.last_reads.Goals as goal

pub index-requires-2 : goal.index-requires-2
index-requires-2 c =
    let is : IsPlacing c.args.self.now c.self.inside.steps.items c.self.inside.counts.items c.self.inside.base.items c.self.inside.sources.items c.self.inside.lasts.items c.self.inside.starts.items c.self.inside.nexts.items =
    subst (λ (a : Audited). IsPlacing a c.self.inside.steps.items c.self.inside.counts.items c.self.inside.base.items c.self.inside.sources.items c.self.inside.lasts.items c.self.inside.starts.items c.self.inside.nexts.items)
    c.self.view_is c.self.invariant in
    let w : c.numbers-writes.result.now ≡ writes_to c.args.self.now.log (runs_in c.args.self.now) c.args.word = c.numbers-writes.ensures ∙ row-is c.args.self.now _ _ _ _ _ _ _ is c.args.word c.index.result.now c.requires.word (c.index.ensures ∙ ap (λ (n : ℕ). get_or c.self.inside.sources.items n c.index.result.now) c.from.ensures) in
    let i = write-inside c.args.self.now _ _ _ _ _ _ _ is c.args.word c.args.source c.numbers-writes.result.now w c.requires.source in
    let o = c.self.inside.lasts.ok.0 in
    let m = is.rows.positions in
    omega (arith, i, o, m)

pub returns-then-is_empty : goal.returns-then-is_empty
returns-then-is_empty c =
    let is : IsPlacing c.args.self.now c.self.inside.steps.items c.self.inside.counts.items c.self.inside.base.items c.self.inside.sources.items c.self.inside.lasts.items c.self.inside.starts.items c.self.inside.nexts.items =
    subst (λ (a : Audited). IsPlacing a c.self.inside.steps.items c.self.inside.counts.items c.self.inside.base.items c.self.inside.sources.items c.self.inside.lasts.items c.self.inside.starts.items c.self.inside.nexts.items)
    c.self.view_is c.self.invariant in
    let w : c.numbers-writes.result.now ≡ writes_to c.args.self.now.log (runs_in c.args.self.now) c.args.word = c.numbers-writes.ensures ∙ row-is c.args.self.now _ _ _ _ _ _ _ is c.args.word c.index.result.now c.requires.word (c.index.ensures ∙ ap (λ (n : ℕ). get_or c.self.inside.sources.items n c.index.result.now) c.from.ensures) in
    let q : c.is_empty.result ≡ eqb (length c.index-2.result.now) 0 = c.is_empty.ensures ∙ ap (λ (xs : List ℕ). eqb (length xs) 0) c.numbers-reads.ensures in
    last-none c.args.self.now _ _ _ _ _ _ _ is c.args.word c.args.source c.numbers-writes.result.now c.index-2.result.now c.is_empty.result w c.requires.source c.index-2.ensures q c.if-is_empty.true

pub returns-else-is_empty : goal.returns-else-is_empty
returns-else-is_empty c =
    let is : IsPlacing c.args.self.now c.self.inside.steps.items c.self.inside.counts.items c.self.inside.base.items c.self.inside.sources.items c.self.inside.lasts.items c.self.inside.starts.items c.self.inside.nexts.items =
    subst (λ (a : Audited). IsPlacing a c.self.inside.steps.items c.self.inside.counts.items c.self.inside.base.items c.self.inside.sources.items c.self.inside.lasts.items c.self.inside.starts.items c.self.inside.nexts.items)
    c.self.view_is c.self.invariant in
    let w : c.numbers-writes.result.now ≡ writes_to c.args.self.now.log (runs_in c.args.self.now) c.args.word = c.numbers-writes.ensures ∙ row-is c.args.self.now _ _ _ _ _ _ _ is c.args.word c.index.result.now c.requires.word (c.index.ensures ∙ ap (λ (n : ℕ). get_or c.self.inside.sources.items n c.index.result.now) c.from.ensures) in
    let i = write-inside c.args.self.now _ _ _ _ _ _ _ is c.args.word c.args.source c.numbers-writes.result.now w c.requires.source in
    let q : c.is_empty.result ≡ eqb (length c.index-2.result.now) 0 = c.is_empty.ensures ∙ ap (λ (xs : List ℕ). eqb (length xs) 0) c.numbers-reads.ensures in
    c.numbers-reads.ensures ∙ last-some c.args.self.now _ _ _ _ _ _ _ is (get_or c.numbers-writes.result.now c.args.source 0) c.index-2.result.now c.is_empty.result i c.index-2.ensures q c.if-is_empty.false ∙
    ap (λ (xs : List ℕ). last_reads_of c.args.self.now.log (runs_in c.args.self.now) (get_or xs c.args.source 0)) w
