use Rattle.std.proofs.Common.{get_or, Option, sym, ◌∙◌, ap}
use Rattle.machine.specs.Programs.{Instr}
use Rattle.machine.specs.Faults.{ImageKind}
use Rattle.machine.specs.ImageReading.{kept}
use Rattle.machine.proofs.ImageSteps.{instr_at_is}
use Rattle.machine.proofs.image.instr_of.Goals as goal

pub returns-in-Some-fault : goal.returns-in-Some-fault
returns-in-Some-fault c =
    let bytes = c.args.bytes.now in
    let i : Instr = record { op = c.in-Some.op; a = get_or bytes 1 0; b = get_or bytes 2 0; c = get_or bytes 3 0; imm = c.unwrap.result } in
    sym (instr_at_is c.args.len bytes c.in-Some.op c.unwrap.result (sym c.from_code.ensures.value ∙ c.in-Some.is) (sym c.u32_at.ensures.value ∙ c.unwrap.ensures) ∙ ap (λ (f : Option ImageKind). kept f i) (sym c.fault.ensures ∙ c.in-Some-fault.is))

pub returns-in-None : goal.returns-in-None
returns-in-None c =
    let bytes = c.args.bytes.now in
    let i : Instr = record { op = c.in-Some.op; a = get_or bytes 1 0; b = get_or bytes 2 0; c = get_or bytes 3 0; imm = c.unwrap.result } in
    sym (instr_at_is c.args.len bytes c.in-Some.op c.unwrap.result (sym c.from_code.ensures.value ∙ c.in-Some.is) (sym c.u32_at.ensures.value ∙ c.unwrap.ensures) ∙ ap (λ (f : Option ImageKind). kept f i) (sym c.fault.ensures ∙ c.in-None.is))
