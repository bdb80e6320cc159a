use Rattle.std.proofs.Common.{Ok, Err, ◌∙◌, arith}
use Rattle.std.proofs.lemmas.Result.{err_from_is_err_and}
use Rattle.machine.specs.Inputs.{InputsValue, input_lists}
use Rattle.machine.proofs.InputLaws.{only_is, refused_is, inputs_take}
use Rattle.machine.proofs.input_reading.read_inputs.Goals as goal

pub returns-in_err-lists-clause-only : goal.returns-in_err-lists-clause-only
returns-in_err-lists-clause-only c =
    let p = err_from_is_err_and c.from_residual.result c.from_residual.ensures.1 in
    rw (p.1, p.2) (λ inputs is. only_is c.args.bytes.now (Err c.in_err-lists.field-0.0) inputs c.in_err-lists.ensures is)

pub returns-in_err-lists-clause-refused : goal.returns-in_err-lists-clause-refused
returns-in_err-lists-clause-refused c =
    let p = err_from_is_err_and c.from_residual.result c.from_residual.ensures.1 in
    rw (p.1, p.2) (refused_is c.args.bytes.now (Err c.in_err-lists.field-0.0) c.in_err-lists.ensures)

pub sound-requires : goal.sound-requires
sound-requires c =
    let value : InputsValue = input_lists c.in_ok-lists.lists.items in
    (inputs_take c.args.bytes.now value (λ i. omega (arith, c.type_inv.bytes i)) c.in_ok-lists.ensures).rules

pub returns-clause-found : goal.returns-clause-found
returns-clause-found c =
    let value : InputsValue = input_lists c.in_ok-lists.lists.items in
    rw c.sound.ensures (inputs_take c.args.bytes.now value (λ i. omega (arith, c.type_inv.bytes i)) c.in_ok-lists.ensures)

pub returns-clause-only : goal.returns-clause-only
returns-clause-only c =
    let value : InputsValue = input_lists c.in_ok-lists.lists.items in
    λ inputs is. c.sound.ensures ∙ only_is c.args.bytes.now (Ok value) inputs c.in_ok-lists.ensures is
