use Rattle.std.proofs.Common.{◌≡◌, ◌<◌, length, get_or, sym, ◌∙◌, Some, None, [], arith}
use Rattle.std.specs.Global.{Vec}
use Rattle.std.proofs.lemmas.List.{length-map}
use Rattle.machine.specs.Programs.{Instr, code_lists}
use Rattle.machine.specs.Faults.{code_fault}
use Rattle.machine.proofs.Faults.{codes_fault_stops, codes_fault_goes_on, codes_fault_ends}
use Rattle.machine.proofs.Rules.{short_at, code_at}
use Rattle.machine.proofs.program.codes_fault.Goals as goal

pub code_fault-requires : goal.code_fault-requires
code_fault-requires c =
    rw c.deref.ensures.value (short_at c.args.threads.now c.loop-thread.thread c.index-threads-thread.result c.loop-thread-test.true c.index-threads-thread.is c.requires.short)

pub returns-in-Some : goal.returns-in-Some
returns-in-Some c =
    let t = c.loop-thread.thread in
    let codes = code_lists c.args.threads.now in
    let lt : t < length codes = omega (arith, length-map c.args.threads.now (λ (code : Vec Instr). code.items), c.loop-thread-test.true) in
    let code : get_or codes t [] ≡ c.deref.result.now = code_at c.args.threads.now t c.index-threads-thread.result [] c.loop-thread-test.true c.index-threads-thread.is ∙ sym c.deref.ensures.value in
    let fault : code_fault (length (get_or codes t [])) t 0 (get_or codes t []) ≡ Some c.in-Some.fault = rw code (sym c.code_fault.ensures ∙ c.in-Some.is) in
    sym (codes_fault_stops t codes [] c.in-Some.fault lt fault) ∙ c.loop-thread.invariant

pub loop-thread-preserved : goal.loop-thread-preserved
loop-thread-preserved c =
    let t = c.loop-thread.thread in
    let codes = code_lists c.args.threads.now in
    let lt : t < length codes = omega (arith, length-map c.args.threads.now (λ (code : Vec Instr). code.items), c.loop-thread-test.true) in
    let code : get_or codes t [] ≡ c.deref.result.now = code_at c.args.threads.now t c.index-threads-thread.result [] c.loop-thread-test.true c.index-threads-thread.is ∙ sym c.deref.ensures.value in
    let fault : code_fault (length (get_or codes t [])) t 0 (get_or codes t []) ≡ None = rw code (sym c.code_fault.ensures ∙ c.in_default.is) in
    sym (codes_fault_goes_on t codes [] lt fault) ∙ c.loop-thread.invariant

pub returns : goal.returns
returns c =
    let t = c.loop-thread.thread in
    let codes = code_lists c.args.threads.now in
    sym (codes_fault_ends t codes (omega (arith, length-map c.args.threads.now (λ (code : Vec Instr). code.items), c.loop-thread-test.false))) ∙ c.loop-thread.invariant
