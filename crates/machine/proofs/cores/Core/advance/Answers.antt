use Rattle.std.proofs.Common.{◌≡◌, ◌<◌, length, refl, sym, ◌∙◌, ap, subst}
use Rattle.std.specs.Prelude.{None, Some, IfOk, OnErr}
use Rattle.machine.specs.Cores.{State}
use Rattle.machine.proofs.Going.{settled_already}
use Rattle.machine.proofs.Rests.{settled-none}
use Rattle.machine.proofs.cores.Core.advance.Goals as goal

pub returns-in-Some-clause-ok : goal.returns-in-Some-clause-ok
returns-in-Some-clause-ok c =
    settled_already c.args.program.now c.args.limits.now c.args.inputs.now c.args.full c.args.self.now c.args.self.now c.in-Some.wanted refl (sym (ap (λ (n : State). n.pending) c.self.view_is) ∙ c.in-Some.is)

pub returns-in-Some-expected-clause-ok : goal.returns-in-Some-expected-clause-ok
returns-in-Some-expected-clause-ok c =
    let none = sym (ap (λ (n : State). n.pending) c.self.view_is) ∙ c.in_default.is in
    let second = sym (ap (λ (n : State). n.expected) c.self.view_is) ∙ c.in-Some-expected.is in (
      c.go_on.ensures.state ∙ sym (settled-none c.args.program.now c.args.limits.now c.args.inputs.now c.args.full c.args.self.now (Some c.in-Some-expected.expected) none second),
      ap (λ (n : State). n.pending) c.go_on.ensures.state ∙ ap Some (sym c.go_on.ensures.value),
    )

pub returns-in-None-clause-ok : goal.returns-in-None-clause-ok
returns-in-None-clause-ok c =
    let none = sym (ap (λ (n : State). n.pending) c.self.view_is) ∙ c.in_default.is in
    let local = sym (ap (λ (n : State). n.expected) c.self.view_is) ∙ c.in-None.is in
    let P : State → Type 0 = λ n. IfOk c.run.result (λ wanted. (c.run.new.self ≡ n) × (c.run.new.self.pending ≡ Some wanted)) in
    subst P (sym (settled-none c.args.program.now c.args.limits.now c.args.inputs.now c.args.full c.args.self.now None none local)) c.run.ensures.ok

pub returns-in-None-clause-memory : goal.returns-in-None-clause-memory
returns-in-None-clause-memory c =
    let none = sym (ap (λ (n : State). n.pending) c.self.view_is) ∙ c.in_default.is in
    let local = sym (ap (λ (n : State). n.expected) c.self.view_is) ∙ c.in-None.is in
    let P : State → Type 0 = λ n. OnErr c.run.result (length c.args.self.now.output < length n.output) in
    subst P (sym (settled-none c.args.program.now c.args.limits.now c.args.inputs.now c.args.full c.args.self.now None none local)) c.run.ensures.memory
