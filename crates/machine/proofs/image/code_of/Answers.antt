use Rattle.std.proofs.Common.{◌≡◌, ◌*◌, drop, Ok, Err, sym, ◌∙◌, ap}
use Rattle.std.proofs.lemmas.List.{take_rest}
use Rattle.machine.specs.ImageReading.{instr_at, code_at}
use Rattle.machine.proofs.ImageSteps.{code_goes_on, code_stops, code_ends}
use Rattle.machine.proofs.image.code_of.Goals as goal

pub returns-in-Err : goal.returns-in-Err
returns-in-Err c =
    let at = c.loop-at.at in
    let bytes = c.args.bytes.now in
    let read : instr_at c.args.len (drop (8 * at) bytes) ≡ Err c.in-Err.kind = ap (instr_at c.args.len) (sym (take_rest bytes (8 * at))) ∙ sym c.instr_of.ensures ∙ c.in-Err.is in
    λ _. code_stops c.args.len c.args.thread at bytes c.in-Err.kind c.loop-at.code.items (code_at c.args.len c.args.thread 0 c.args.len bytes) c.loop-at-test.true read c.loop-at.invariant

pub loop-at-preserved : goal.loop-at-preserved
loop-at-preserved c =
    let at = c.loop-at.at in
    let bytes = c.args.bytes.now in
    let read : instr_at c.args.len (drop (8 * at) bytes) ≡ Ok c.in-Ok.instr = ap (instr_at c.args.len) (sym (take_rest bytes (8 * at))) ∙ sym c.instr_of.ensures ∙ c.in-Ok.is in
    rw c.in_ok-push-in-Ok.ensures.items (code_goes_on c.args.len c.args.thread at bytes c.in-Ok.instr c.loop-at.code.items (code_at c.args.len c.args.thread 0 c.args.len bytes) c.loop-at-test.true read c.loop-at.invariant)

pub returns : goal.returns
returns c =
    code_ends c.args.len c.args.thread c.loop-at.at (drop (8 * c.loop-at.at) c.args.bytes.now) c.loop-at.code.items (code_at c.args.len c.args.thread 0 c.args.len c.args.bytes.now) c.loop-at-test.false c.loop-at.invariant
