use Rattle.std.proofs.Common.{length, sym, ◌∙◌}
use Rattle.machine.proofs.Faults.{code_fault_stops, code_fault_goes_on, code_fault_ends}
use Rattle.machine.proofs.program.code_fault.Goals as goal

pub returns-in-Some : goal.returns-in-Some
returns-in-Some c =
    sym (code_fault_stops (length c.args.code.now) c.args.thread c.loop-at.at c.args.code.now _ c.in-Some.kind c.loop-at-test.true (sym c.fault.ensures ∙ c.in-Some.is)) ∙ c.loop-at.invariant

pub loop-at-preserved : goal.loop-at-preserved
loop-at-preserved c =
    sym (code_fault_goes_on (length c.args.code.now) c.args.thread c.loop-at.at c.args.code.now _ c.loop-at-test.true (sym c.fault.ensures ∙ c.in_default.is)) ∙ c.loop-at.invariant

pub returns : goal.returns
returns c = sym (code_fault_ends (length c.args.code.now) c.args.thread c.loop-at.at c.args.code.now c.loop-at-test.false) ∙ c.loop-at.invariant
