use Rattle.std.proofs.Common.{◌≡◌, ℕ, ◌++◌, true, List, length, sym, ◌∙◌, subst, arith}
use Rattle.machine.proofs.Turning.{on_err}
use Rattle.replay_model.specs.Steps.{Step}
use Rattle.machine.specs.Programs.{code_of}
use Rattle.running_thread.specs.Running.{puts_out}
use Rattle.running_thread.specs.Threads.{IsThread, Moves, HasStopped}
use Rattle.running_thread.proofs.Running.{come-start, come-step, come-end, come-done, come-stopped}
use Rattle.running_thread.proofs.thread.RunningThread.run_to.Goals as goal

pub loop-step-init : goal.loop-step-init
loop-step-init g c = record {
  own = λ j. c.args.self.now.core.thread;
  come = λ steps is still.
      come-start g.W.StepWords.ready g.W.StepWords.takes c.args.on.now.program.now c.args.on.now.limits.now c.args.on.now.inputs.now c.args.self.now.core.thread steps c.args.last c.steps-step.result c.args.words.now c.args.self.now
      c.steps-step.ensures is still;
}

pub step-requires : goal.step-requires
step-requires g c =
    let come = c.loop-step.invariant.come c.requires.0 c.requires.1 c.requires.2 in
    let own = sym c.loop-step.invariant.own in (
      search,
      (
        c.requires.0 ++ come.added,
        subst (λ (t : ℕ). IsThread c.args.on.now.program.now c.args.on.now.limits.now c.args.on.now.inputs.now t (c.requires.0 ++ come.added) c.loop-step.self) own come.has.is,
        subst (λ (t : ℕ). g.W.StepWords.ready c.loop-step.words (length c.args.on.now.program.now.words) t (c.requires.0 ++ come.added)) own come.has.still,
      ),
    )

pub loop-step-preserved : goal.loop-step-preserved
loop-step-preserved g c = record {
  own = c.step.ensures.thread ∙ c.loop-step.invariant.own;
  come = λ steps is still.
      let come = c.loop-step.invariant.come steps is still in
      let P : ℕ → Type 0 = λ t. IsThread c.args.on.now.program.now c.args.on.now.limits.now c.args.on.now.inputs.now t (steps ++ come.added) c.loop-step.self →
      g.W.StepWords.ready c.loop-step.words (length c.args.on.now.program.now.words) t (steps ++ come.added) →
      Moves g.W.StepWords.ready g.W.StepWords.takes c.args.on.now.program.now c.args.on.now.limits.now c.args.on.now.inputs.now t (steps ++ come.added) c.loop-step.words c.in_ok-end.field-0 c.step.new.words c.step.new.self in
      come-step g.W.StepWords.ready g.W.StepWords.takes c.args.on.now.program.now c.args.on.now.limits.now c.args.on.now.inputs.now c.args.self.now.core.thread steps c.args.last c.loop-step._step c.args.words.now c.loop-step.words
      c.loop-step.self come c.step.new.words c.step.new.self c.in_ok-end.field-0 c.loop-step-test.true c.in_default.not-Ended
      (subst P c.loop-step.invariant.own (c.in_ok-end.ensures.ok (steps ++ come.added)) come.has.is come.has.still);
}

pub returns-in_err-end-clause-err : goal.returns-in_err-end-clause-err
returns-in_err-end-clause-err g c =
    let P : Type 0 = (steps : List Step) → IsThread c.args.on.now.program.now c.args.on.now.limits.now c.args.on.now.inputs.now c.args.self.now.core.thread steps c.args.self.now →
    g.W.StepWords.ready c.args.words.now (length c.args.on.now.program.now.words) c.args.self.now.core.thread steps →
    HasStopped g.W.StepWords.ready g.W.StepWords.takes c.args.on.now.program.now c.args.on.now.limits.now c.args.on.now.inputs.now c.args.self.now.core.thread steps c.args.last c.args.words.now c.step.new.words c.step.new.self in
    on_err {P = P} _ (λ steps is still.
    let come = c.loop-step.invariant.come steps is still in
    let Q : ℕ → Type 0 = λ t. IsThread c.args.on.now.program.now c.args.on.now.limits.now c.args.on.now.inputs.now t (steps ++ come.added) c.loop-step.self →
    IsThread c.args.on.now.program.now c.args.on.now.limits.now c.args.on.now.inputs.now t (steps ++ come.added) c.step.new.self in
    come-stopped g.W.StepWords.ready g.W.StepWords.takes c.args.on.now.program.now c.args.on.now.limits.now c.args.on.now.inputs.now c.args.self.now.core.thread steps c.args.last c.loop-step._step c.args.words.now c.loop-step.words
    c.loop-step.self come c.step.new.words c.step.new.self c.loop-step-test.true c.in_err-end.ensures.words (subst Q c.loop-step.invariant.own (c.in_err-end.ensures.err (steps ++ come.added)) come.has.is))

pub returns-in_err-end-clause-memory : goal.returns-in_err-end-clause-memory
returns-in_err-end-clause-memory g c =
    on_err _ (subst (λ (t : ℕ). puts_out (code_of c.args.on.now.program.now t) ≡ true) c.loop-step.invariant.own c.in_err-end.ensures.memory)

pub returns-in-Ended-clause-ok : goal.returns-in-Ended-clause-ok
returns-in-Ended-clause-ok g c = λ steps is still.
    let come = c.loop-step.invariant.come steps is still in
    let P : ℕ → Type 0 = λ t. IsThread c.args.on.now.program.now c.args.on.now.limits.now c.args.on.now.inputs.now t (steps ++ come.added) c.loop-step.self →
    g.W.StepWords.ready c.loop-step.words (length c.args.on.now.program.now.words) t (steps ++ come.added) →
    Moves g.W.StepWords.ready g.W.StepWords.takes c.args.on.now.program.now c.args.on.now.limits.now c.args.on.now.inputs.now t (steps ++ come.added) c.loop-step.words c.in_ok-end.field-0 c.step.new.words c.step.new.self in
    come-end g.W.StepWords.ready g.W.StepWords.takes c.args.on.now.program.now c.args.on.now.limits.now c.args.on.now.inputs.now c.args.self.now.core.thread steps c.args.last c.loop-step._step c.args.words.now c.loop-step.words
    c.loop-step.self come c.step.new.words c.step.new.self c.in_ok-end.field-0 c.in-Ended.end c.loop-step-test.true c.in-Ended.is
    (subst P c.loop-step.invariant.own (c.in_ok-end.ensures.ok (steps ++ come.added)) come.has.is come.has.still)

pub returns-clause-ok : goal.returns-clause-ok
returns-clause-ok g c = λ steps is still.
    let come = c.loop-step.invariant.come steps is still in
    come-done g.W.StepWords.ready g.W.StepWords.takes c.args.on.now.program.now c.args.on.now.limits.now c.args.on.now.inputs.now c.args.self.now.core.thread steps c.args.last c.loop-step._step c.args.words.now c.loop-step.words
    c.loop-step.self come (omega (arith, c.loop-step-test.false))
