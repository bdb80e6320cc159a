use Rattle.std.proofs.Common.{◌≡◌, ℕ, List, true, false, refl, sym, ◌∙◌, ap}
use Rattle.std.specs.Global.{Vec}
use Rattle.machine.specs.Inputs.{are_inputs, input_lists}
use Rattle.machine.proofs.InputLists.{inputs_keep, inputs_pass}
use Rattle.machine.proofs.inputs.Inputs.of.Goals as goal

pub returns-then-not-are_inputs : goal.returns-then-not-are_inputs
returns-then-not-are_inputs c = λ rules.
    let tested : are_inputs (input_lists c.args.threads.items) ≡ false = ap (λ (lists : List (Vec ℕ)). are_inputs (input_lists lists)) (sym c.deref.ensures.value) ∙ sym c.are_inputs.ensures ∙ c.if-not-are_inputs.true in
    let passed = inputs_pass (input_lists c.args.threads.items) rules in
    absurd cc

pub returns : goal.returns
returns c =
    let tested : are_inputs (input_lists c.args.threads.items) ≡ true = ap (λ (lists : List (Vec ℕ)). are_inputs (input_lists lists)) (sym c.deref.ensures.value) ∙ sym c.are_inputs.ensures ∙ c.if-not-are_inputs.false in
    (inputs_keep (input_lists c.args.threads.items) tested, refl)
