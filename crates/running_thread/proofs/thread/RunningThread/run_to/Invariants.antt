use Rattle.std.proofs.Common.{◌≡◌, List, length}
use Rattle.replay_model.specs.Steps.{Step}
use Rattle.running_thread.specs.Threads.{IsThread}
use Rattle.running_thread.proofs.Running.{HasCome}
use Rattle.running_thread.proofs.thread.RunningThread.run_to.Given as goal

abbrev pub invariant-loop-step : goal.invariant-loop-step
invariant-loop-step g l = record {
  own : l.self.core.thread ≡ l.fn.self.core.thread;
  come : (steps : List Step) → IsThread l.on.program.now l.on.limits.now l.on.inputs.now l.fn.self.core.thread steps l.fn.self → g.W.StepWords.ready l.fn.words (length l.on.program.now.words) l.fn.self.core.thread steps →
      HasCome g.W.StepWords.ready g.W.StepWords.takes l.on.program.now l.on.limits.now l.on.inputs.now l.fn.self.core.thread steps l.last l._step l.fn.words l.words l.self;
}
