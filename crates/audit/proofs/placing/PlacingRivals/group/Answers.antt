use Rattle.std.proofs.Common.{ℕ, List, ◌+◌, length, get_or, ◌∙◌, ap, subst, arith}
use Rattle.audit.specs.Tables.{Audited, IsPlacing}
use Rattle.audit.proofs.Looking.{starts-long, start-at, threads-long}
use Rattle.audit.proofs.placing.PlacingRivals.group.Goals as goal

pub bounds-starts-place : goal.bounds-starts-place
bounds-starts-place c =
    let is : IsPlacing c.args.self.now c.self.inside.steps.items c.self.inside.counts.items c.self.inside.base.items c.self.inside.sources.items c.self.inside.lasts.items c.self.inside.starts.items c.self.inside.nexts.items =
    subst (λ (a : Audited). IsPlacing a c.self.inside.steps.items c.self.inside.counts.items c.self.inside.base.items c.self.inside.sources.items c.self.inside.lasts.items c.self.inside.starts.items c.self.inside.nexts.items)
    c.self.view_is c.self.invariant in
    let n = threads-long c.args.self.now _ _ _ _ _ _ _ is in
    let m = starts-long c.args.self.now _ _ _ _ _ _ _ is c.args.word c.index.result.now c.requires.word (c.index.ensures ∙ ap (λ (n : ℕ). get_or c.self.inside.starts.items n c.index.result.now) c.from.ensures) in
    let e = ap (λ (xs : List ℕ). length xs) c.numbers-starts.ensures in
    let t = c.requires.thread in
    omega (arith, n, m, e, t, c.from-place.ensures)

pub bounds-starts-place-2 : goal.bounds-starts-place-2
bounds-starts-place-2 c =
    let is : IsPlacing c.args.self.now c.self.inside.steps.items c.self.inside.counts.items c.self.inside.base.items c.self.inside.sources.items c.self.inside.lasts.items c.self.inside.starts.items c.self.inside.nexts.items =
    subst (λ (a : Audited). IsPlacing a c.self.inside.steps.items c.self.inside.counts.items c.self.inside.base.items c.self.inside.sources.items c.self.inside.lasts.items c.self.inside.starts.items c.self.inside.nexts.items)
    c.self.view_is c.self.invariant in
    let n = threads-long c.args.self.now _ _ _ _ _ _ _ is in
    let m = starts-long c.args.self.now _ _ _ _ _ _ _ is c.args.word c.index.result.now c.requires.word (c.index.ensures ∙ ap (λ (n : ℕ). get_or c.self.inside.starts.items n c.index.result.now) c.from.ensures) in
    let e = ap (λ (xs : List ℕ). length xs) c.numbers-starts.ensures in
    let t = c.requires.thread in
    omega (arith, n, m, e, t, c.from-place.ensures)

pub returns-clause-start : goal.returns-clause-start
returns-clause-start c =
    let is : IsPlacing c.args.self.now c.self.inside.steps.items c.self.inside.counts.items c.self.inside.base.items c.self.inside.sources.items c.self.inside.lasts.items c.self.inside.starts.items c.self.inside.nexts.items =
    subst (λ (a : Audited). IsPlacing a c.self.inside.steps.items c.self.inside.counts.items c.self.inside.base.items c.self.inside.sources.items c.self.inside.lasts.items c.self.inside.starts.items c.self.inside.nexts.items)
    c.self.view_is c.self.invariant in
    let n = threads-long c.args.self.now _ _ _ _ _ _ _ is in
    let t = c.requires.thread in
    ap (λ (xs : List ℕ). get_or xs c.from-place.result 0) c.numbers-starts.ensures ∙ ap (λ (k : ℕ). get_or c.index.result.now k 0) c.from-place.ensures ∙
    start-at c.args.self.now _ _ _ _ _ _ _ is c.args.word c.args.thread c.index.result.now c.requires.word (c.index.ensures ∙ ap (λ (n : ℕ). get_or c.self.inside.starts.items n c.index.result.now) c.from.ensures) (omega (arith, n, t))

pub returns-clause-end : goal.returns-clause-end
returns-clause-end c =
    let is : IsPlacing c.args.self.now c.self.inside.steps.items c.self.inside.counts.items c.self.inside.base.items c.self.inside.sources.items c.self.inside.lasts.items c.self.inside.starts.items c.self.inside.nexts.items =
    subst (λ (a : Audited). IsPlacing a c.self.inside.steps.items c.self.inside.counts.items c.self.inside.base.items c.self.inside.sources.items c.self.inside.lasts.items c.self.inside.starts.items c.self.inside.nexts.items)
    c.self.view_is c.self.invariant in
    let n = threads-long c.args.self.now _ _ _ _ _ _ _ is in
    let t = c.requires.thread in
    ap (λ (xs : List ℕ). get_or xs (c.from-place.result + 1) 0) c.numbers-starts.ensures ∙ ap (λ (k : ℕ). get_or c.index.result.now (k + 1) 0) c.from-place.ensures ∙
    start-at c.args.self.now _ _ _ _ _ _ _ is c.args.word (c.args.thread + 1) c.index.result.now c.requires.word (c.index.ensures ∙ ap (λ (n : ℕ). get_or c.self.inside.starts.items n c.index.result.now) c.from.ensures) (omega (arith, n, t))
