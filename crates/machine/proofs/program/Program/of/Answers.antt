use Rattle.std.proofs.Common.{◌≡◌, sym, ◌∙◌, Some, None, refl}
use Rattle.machine.specs.Programs.{code_lists}
use Rattle.machine.specs.Faults.{program_fault}
use Rattle.machine.proofs.Rules.{program_keeps, program_fault_none}
use Rattle.machine.proofs.program.Program.of.Goals as goal

pub invariant_of-result : goal.invariant_of-result
invariant_of-result c =
    let e : program_fault (record { words = c.args.words.items; threads = code_lists c.args.threads.items }) ≡ None = rw (← c.deref.ensures.value, ← c.deref-2.ensures.value) (sym c.fault_of.ensures ∙ c.in-None.is) in
    program_keeps (record { words = c.args.words.items; threads = code_lists c.args.threads.items }) e

pub returns-in-Some-clause-exact : goal.returns-in-Some-clause-exact
returns-in-Some-clause-exact c =
    let e : program_fault (record { words = c.args.words.items; threads = code_lists c.args.threads.items }) ≡ Some c.in-Some.fault = rw (← c.deref.ensures.value, ← c.deref-2.ensures.value) (sym c.fault_of.ensures ∙ c.in-Some.is) in
    (λ h. absurd cc, λ rules. absurd cc (program_fault_none (record { words = c.args.words.items; threads = code_lists c.args.threads.items }) rules, e))

pub returns-in-None-clause-exact : goal.returns-in-None-clause-exact
returns-in-None-clause-exact c =
    let e : program_fault (record { words = c.args.words.items; threads = code_lists c.args.threads.items }) ≡ None = rw (← c.deref.ensures.value, ← c.deref-2.ensures.value) (sym c.fault_of.ensures ∙ c.in-None.is) in
    (λ h. program_keeps (record { words = c.args.words.items; threads = code_lists c.args.threads.items }) e, λ rules. refl)
