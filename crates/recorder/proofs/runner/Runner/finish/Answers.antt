use Rattle.std.proofs.Common.{ℕ, take, sym, ap, ◌∙◌, subst, arith}
use Rattle.replay_model.specs.declared.End.{End}
use Rattle.replay_model.specs.Logs.{ThreadLog}
use Rattle.machine.specs.Cores.{Report}
use Rattle.recorder.specs.Running.{Running, IsAtEnd, HasRun}
use Rattle.recorder.proofs.Finishing.{within-steps, finished}
use Rattle.recorder.proofs.runner.Runner.finish.Goals as goal

pub finish-log-requires-clause-steps : goal.finish-log-requires-clause-steps
finish-log-requires-clause-steps c = λ k d l.
    let on = c.self.inside.on in
    let last = within-steps on.program.now on.limits.now on.inputs.now c.self.inside.thread c.self.inside.at c.self.inside.taken.items c.self.invariant (subst IsAtEnd (sym c.self.view_is) c.requires) k d l in
    let steps = c.steps.ensures ∙ ap (λ (x : Report). x.steps) c.report-report.ensures in
    omega (arith, last, steps)

pub returns-clause-run : goal.returns-clause-run
returns-clause-run c =
    let on = c.self.inside.on in
    let thread = c.self.inside.thread in
    let P : Running → Type 0 = λ x. HasRun x.program x.limits x.list x.hand.thread x.hand.steps c.finish-log.result c.report-report.result in
    let made : ℕ → ℕ → End → ThreadLog = λ n m e. record { entries = thread.log.entries; steps = n; instr = m; end = e; taken = c.truncate.new.self.items } in
    subst P c.self.view_is (finished on.program.now on.limits.now on.inputs.now thread c.self.inside.at c.self.inside.taken.items c.self.invariant (subst IsAtEnd (sym c.self.view_is) c.requires) c.truncate.new.self.items c.finish-log.result c.report-report.result
    (c.truncate.ensures.items ∙ ap (λ (n : ℕ). take n c.self.inside.taken.items) c.taken.ensures) c.report-report.ensures
    (c.finish-log.ensures ∙ ap (λ (n : ℕ). made n c.instr.result c.end.result) c.steps.ensures ∙ ap (λ (n : ℕ). made c.report-report.result.steps n c.end.result) c.instr.ensures ∙ ap (made c.report-report.result.steps c.report-report.result.instr) c.end.ensures))
