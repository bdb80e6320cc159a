use Rattle.std.proofs.Common.{◌≡◌, ◌<◌, ℕ, length, ◌∙◌, ap, subst, arith}
use Rattle.std.specs.Prelude.{All}
use Rattle.std.proofs.lemmas.Result.{IfOk-weaker}
use Rattle.light_base.specs.declared.tag.Event.{Event}
use Rattle.audit_laws.specs.Placings.{placing_turns}
use Rattle.audit.specs.Tables.{Audited, IsPlacing}
use Rattle.audit.proofs.Looking.{threads-long, steps-inside}
use Rattle.audit.proofs.placing.Placing.turns.Goals as goal

pub overflow_cast-len : goal.overflow_cast-len
overflow_cast-len c =
    let is : IsPlacing c.args.self.now c.self.inside.steps.items c.self.inside.counts.items c.self.inside.base.items c.self.inside.sources.items c.self.inside.lasts.items c.self.inside.starts.items c.self.inside.nexts.items =
    subst (λ (a : Audited). IsPlacing a c.self.inside.steps.items c.self.inside.counts.items c.self.inside.base.items c.self.inside.sources.items c.self.inside.lasts.items c.self.inside.starts.items c.self.inside.nexts.items)
    c.self.view_is c.self.invariant in
    let o = c.self.inside.counts.ok.0 in
    let m = ap length is.counted in
    let n = threads-long c.args.self.now _ _ _ _ _ _ _ is in
    let t = is.formed.range.threads in
    omega (arith, o, m, n, t, c.len.ensures)

pub turns_of-requires : goal.turns_of-requires
turns_of-requires c =
    let is : IsPlacing c.args.self.now c.self.inside.steps.items c.self.inside.counts.items c.self.inside.base.items c.self.inside.sources.items c.self.inside.lasts.items c.self.inside.starts.items c.self.inside.nexts.items =
    subst (λ (a : Audited). IsPlacing a c.self.inside.steps.items c.self.inside.counts.items c.self.inside.base.items c.self.inside.sources.items c.self.inside.lasts.items c.self.inside.starts.items c.self.inside.nexts.items)
    c.self.view_is c.self.invariant in
    let o = c.self.inside.counts.ok.0 in
    let m = ap length is.counted in
    let n = threads-long c.args.self.now _ _ _ _ _ _ _ is in
    let q : length c.args.self.now.log.threads ≡ c.len.result = omega (arith, o, m, n, c.len.ensures) in
    subst (λ (k : ℕ). All (λ (e : Event). e.thread < k) c.deref.result.now) q
    (steps-inside c.args.self.now _ _ _ _ _ _ _ is c.args.line.now c.deref.result.now c.requires (c.deref.ensures.value ∙ c.in_ok-order.ensures))

pub returns : goal.returns
returns c =
    let is : IsPlacing c.args.self.now c.self.inside.steps.items c.self.inside.counts.items c.self.inside.base.items c.self.inside.sources.items c.self.inside.lasts.items c.self.inside.starts.items c.self.inside.nexts.items =
    subst (λ (a : Audited). IsPlacing a c.self.inside.steps.items c.self.inside.counts.items c.self.inside.base.items c.self.inside.sources.items c.self.inside.lasts.items c.self.inside.starts.items c.self.inside.nexts.items)
    c.self.view_is c.self.invariant in
    let o = c.self.inside.counts.ok.0 in
    let m = ap length is.counted in
    let n = threads-long c.args.self.now _ _ _ _ _ _ _ is in
    let q : c.len.result ≡ length c.args.self.now.log.threads = omega (arith, o, m, n, c.len.ensures) in
    IfOk-weaker c.turns_of.result _ _
    (λ turns h. h ∙ ap (λ (k : ℕ). placing_turns k c.deref.result.now) q ∙ ap (placing_turns (length c.args.self.now.log.threads)) (c.deref.ensures.value ∙ c.in_ok-order.ensures)) c.turns_of.ensures
