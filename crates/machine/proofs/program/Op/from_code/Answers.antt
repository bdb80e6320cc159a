use Rattle.std.proofs.Common.{◌≡◌, ℕ, Option, Some, sym, ◌∙◌, ap, rules}
use Rattle.machine.specs.declared.program.Op.{Op}
use Rattle.machine.specs.Programs.{op_of, code_of_op}
use Rattle.machine.proofs.ImageInstrs.{op_of-code_of_op, code_of_op-op_of}
use Rattle.machine.proofs.program.Op.from_code.Goals as goal

-- what is the operation with a number is it exactly
exactly : (code : ℕ) (r : Option Op) → r ≡ op_of code → (o : Op) → (r ≡ Some o → code ≡ code_of_op o) × (code ≡ code_of_op o → r ≡ Some o)
exactly code r value o = (λ h. code_of_op-op_of code o (sym value ∙ h), λ e. value ∙ ap op_of e ∙ op_of-code_of_op o)

pub returns-then-at-lt22-clause-value : goal.returns-then-at-lt22-clause-value
returns-then-at-lt22-clause-value c = search rules

pub returns-then-at-lt22-clause-exact : goal.returns-then-at-lt22-clause-exact
returns-then-at-lt22-clause-exact c = exactly c.args.code _ (returns-then-at-lt22-clause-value c)
