use Rattle.std.proofs.Common.{◌+◌, subst, arith}
use Rattle.std.specs.Prelude.{Option}
use Rattle.replay_model.specs.declared.End.{End}
use Rattle.running_thread.specs.Threads.{HasRun}
use Rattle.running_thread.proofs.Running.{never-none}
use Rattle.running_thread.proofs.thread.RunningThread.run_to_end.Goals as goal

pub unreachable-requires : goal.unreachable-requires
unreachable-requires g c =
    let P : Option End → Type 0 = λ end.
    HasRun g.W.StepWords.ready g.W.StepWords.takes c.args.on.now.program.now c.args.on.now.limits.now c.args.on.now.inputs.now c.args.self.now.core.thread c.requires.0 (c.steps-last.result + 1) c.args.words.now end c.run_to.new.words c.run_to.new.self in
    never-none g.W.StepWords.ready g.W.StepWords.takes c.args.on.now.program.now c.args.on.now.limits.now c.args.on.now.inputs.now c.args.self.now.core.thread c.requires.0 (c.steps-last.result + 1) c.args.words.now
    c.run_to.new.words c.run_to.new.self (omega (arith, c.steps-last.ensures.value)) (subst P c.in-None.is (c.in_ok-end.ensures.ok c.requires.0 c.requires.1 c.requires.2))
