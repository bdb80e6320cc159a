use Rattle.history.specs.declared.plain.Stepped.{Stepped}
use Rattle.history.specs.Stepping.{IsStep}
use Rattle.std.proofs.Common.{subst}
use Rattle.history.proofs.Turns.{step-turn, step-idle}
use Rattle.history.proofs.plain.Plain.turn.Goals as goal

pub returns-in-Ok-Took-clause-ok : goal.returns-in-Ok-Took-clause-ok
returns-in-Ok-Took-clause-ok c = step-turn c.args.self.now c.args.thread c.in-Ok-Took.field-0 c.step.new.self c.in-Ok-Took.ensures.ok

pub returns-in-Ok-Ended-clause-ok : goal.returns-in-Ok-Ended-clause-ok
returns-in-Ok-Ended-clause-ok c = step-turn c.args.self.now c.args.thread c.in-Ok-Ended.field-0 c.step.new.self c.in-Ok-Ended.ensures.ok

pub returns-in-Ok-Ended-clause-idle : goal.returns-in-Ok-Ended-clause-idle
returns-in-Ok-Ended-clause-idle c = λ h.
    let P : Stepped → Type 0 = λ s. IsStep c.args.self.now c.args.thread s c.step.new.self in
    step-idle c.args.self.now c.args.thread c.in-Ok-Ended.field-0-0 c.step.new.self (subst P c.in-Ok-Ended.field-0-is c.in-Ok-Ended.ensures.ok)
