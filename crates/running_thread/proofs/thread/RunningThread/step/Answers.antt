use Rattle.std.proofs.Common.{◌≡◌, ℕ, ◌+◌, ◌++◌, ◌∷◌, [], false, List, length, sym, ◌∙◌, ap, subst, arith}
use Rattle.machine.proofs.Turning.{on_err}
use Rattle.machine.proofs.Took.{took_takes}
use Rattle.machine.specs.Cores.{State}
use Rattle.replay_model.specs.Steps.{Event, Step, has_ended}
use Rattle.running_thread.specs.Running.{Asks, event_after, step_that}
use Rattle.running_thread.specs.Threads.{IsThread}
use Rattle.running_thread.proofs.Outputs.{grows-puts_out}
use Rattle.running_thread.proofs.Stepping.{lives_from, under-way, ran-core, ran-own, ran-counted, ran-thread, ran-want, few-steps, asks, log-word, log-later, log-room, stepped}
use Rattle.running_thread.proofs.thread.RunningThread.step.Goals as goal

pub returns-in_err-want-clause-err : goal.returns-in_err-want-clause-err
returns-in_err-want-clause-err g c =
    let P : Type 0 = (steps : List Step) → IsThread c.args.on.now.program.now c.args.on.now.limits.now c.args.on.now.inputs.now c.args.self.now.core.thread steps c.args.self.now →
    IsThread c.args.on.now.program.now c.args.on.now.limits.now c.args.on.now.inputs.now c.args.self.now.core.thread steps (record c.args.self.now { core = c.advance.new.self }) in
    on_err {P = P} _ (λ steps is. under-way c.args.on.now.program.now c.args.on.now.limits.now c.args.on.now.inputs.now c.args.self.now.core.thread steps c.args.self.now is c.is_full-full.result c.is_full-full.ensures c.advance.new.self c.in_err-want.ensures.err)

pub returns-in_err-want-clause-memory : goal.returns-in_err-want-clause-memory
returns-in_err-want-clause-memory g c =
    on_err _ (grows-puts_out c.args.on.now.program.now c.args.on.now.limits.now c.args.on.now.inputs.now c.is_full-full.result c.args.self.now.core c.in_err-want.ensures.memory)

pub returns-in_err-want-clause-thread : goal.returns-in_err-want-clause-thread
returns-in_err-want-clause-thread g c = sym (ap (λ (s : State). s.thread) c.in_err-want.ensures.err.rest)

pub returns-in-Ended-clause-ok : goal.returns-in-Ended-clause-ok
returns-in-Ended-clause-ok g c = λ steps is still. record {
  wants = ran-want c.args.on.now.program.now c.args.on.now.limits.now c.args.on.now.inputs.now c.args.self.now.core.thread steps c.args.self.now is c.is_full-full.result c.is_full-full.ensures c.advance.new.self c.in_ok-want.ensures.ok.0 c.in_ok-want.want c.in_ok-want.ensures.ok.1 ∙ c.in-Ended.is;
  same = λ j. c.args.words.now;
  is = ran-thread c.args.on.now.program.now c.args.on.now.limits.now c.args.on.now.inputs.now c.args.self.now.core.thread steps c.args.self.now is c.is_full-full.result c.is_full-full.ensures c.advance.new.self c.in_ok-want.ensures.ok.0;
  settled = ran-core c.args.on.now.program.now c.args.on.now.limits.now c.args.on.now.inputs.now c.args.self.now.core.thread steps c.args.self.now is c.is_full-full.result c.is_full-full.ensures c.advance.new.self c.in_ok-want.ensures.ok.0;
}

pub returns-in-Ended-clause-thread : goal.returns-in-Ended-clause-thread
returns-in-Ended-clause-thread g c = ran-own c.args.on.now.program.now c.args.on.now.limits.now c.args.on.now.inputs.now c.args.self.now.core.thread c.requires.0 c.args.self.now c.requires.1 c.is_full-full.result c.is_full-full.ensures c.advance.new.self c.in_ok-want.ensures.ok.0

pub overflow_add-step : goal.overflow_add-step
overflow_add-step g c =
    let lives : has_ended c.in_ok-want.want ≡ false = lives_from c.in_ok-want.want c.in_default.not-Ended in
    let few = few-steps c.args.on.now.program.now c.args.on.now.limits.now c.args.on.now.inputs.now c.args.self.now.core.thread c.requires.0 c.args.self.now c.requires.1 c.is_full-full.result c.is_full-full.ensures c.advance.new.self c.in_ok-want.ensures.ok.0 c.in_ok-want.want c.in_ok-want.ensures.ok.1 lives in
    omega (arith, few, c.steps-step.ensures)

pub take-found-requires : goal.take-found-requires
take-found-requires g c =
    let lives : has_ended c.in_ok-want.want ≡ false = lives_from c.in_ok-want.want c.in_default.not-Ended in
    let own : c.thread.result ≡ c.args.self.now.core.thread = c.thread.ensures ∙ ran-own c.args.on.now.program.now c.args.on.now.limits.now c.args.on.now.inputs.now c.args.self.now.core.thread c.requires.0 c.args.self.now c.requires.1 c.is_full-full.result c.is_full-full.ensures c.advance.new.self c.in_ok-want.ensures.ok.0 in (
      length c.args.on.now.program.now.words,
      c.requires.0,
      subst (λ (u : ℕ). g.W.StepWords.ready c.args.words.now (length c.args.on.now.program.now.words) u c.requires.0) (sym own) c.requires.2,
      asks c.args.on.now.program.now c.args.on.now.limits.now c.args.on.now.inputs.now c.args.self.now.core.thread c.requires.0 c.args.self.now c.requires.1 c.is_full-full.result c.is_full-full.ensures c.advance.new.self c.in_ok-want.ensures.ok.0 c.in_ok-want.want c.in_ok-want.ensures.ok.1 lives (record { thread = c.thread.result; step = c.steps-step.result + 1 }) c.thread.ensures (ap (λ (n : ℕ). n + 1) c.steps-step.ensures),
    )

pub tell-requires : goal.tell-requires
tell-requires g c =
    let lives : has_ended c.in_ok-want.want ≡ false = lives_from c.in_ok-want.want c.in_default.not-Ended in
    record {
      pending = c.in_ok-want.ensures.ok.1;
      lives = lives;
      found = c.take-found.ensures.found;
      word = log-word c.args.on.now.program.now c.args.on.now.limits.now c.args.on.now.inputs.now c.args.self.now.core.thread c.requires.0 c.args.self.now c.requires.1 c.is_full-full.result c.is_full-full.ensures c.advance.new.self c.in_ok-want.ensures.ok.0 c.in_ok-want.want c.in_ok-want.ensures.ok.1 lives;
      number = omega arith;
      later = log-later c.args.on.now.program.now c.args.on.now.limits.now c.args.on.now.inputs.now c.args.self.now.core.thread c.requires.0 c.args.self.now c.requires.1 c.is_full-full.result c.is_full-full.ensures c.advance.new.self c.in_ok-want.ensures.ok.0 c.in_ok-want.want c.in_ok-want.ensures.ok.1 lives (c.steps-step.result + 1) (ap (λ (n : ℕ). n + 1) c.steps-step.ensures);
      room = log-room c.args.on.now.program.now c.args.on.now.limits.now c.args.on.now.inputs.now c.args.self.now.core.thread c.requires.0 c.args.self.now c.requires.1 c.is_full-full.result c.is_full-full.ensures c.advance.new.self c.in_ok-want.ensures.ok.0 c.in_ok-want.want c.in_ok-want.ensures.ok.1 lives;
    }

pub returns : goal.returns
returns g c =
    let lives : has_ended c.in_ok-want.want ≡ false = lives_from c.in_ok-want.want c.in_default.not-Ended in
    let size = length c.args.on.now.program.now.words in
    let t = c.args.self.now.core.thread in
    let number : c.steps-step.result + 1 ≡ c.advance.new.self.steps + 1 = ap (λ (n : ℕ). n + 1) c.steps-step.ensures in
    record {
      ok = λ steps is still.
          let own : c.thread.result ≡ t = c.thread.ensures ∙ ran-own c.args.on.now.program.now c.args.on.now.limits.now c.args.on.now.inputs.now c.args.self.now.core.thread steps c.args.self.now is c.is_full-full.result c.is_full-full.ensures c.advance.new.self c.in_ok-want.ensures.ok.0 in
          let counted : c.steps-step.result ≡ length steps = c.steps-step.ensures ∙ ran-counted c.args.on.now.program.now c.args.on.now.limits.now c.args.on.now.inputs.now c.args.self.now.core.thread steps c.args.self.now is c.is_full-full.result c.is_full-full.ensures c.advance.new.self c.in_ok-want.ensures.ok.0 in
          let event : Event = record { thread = c.thread.result; step = c.steps-step.result + 1 } in
          let event-is : event ≡ event_after t steps = ap (λ (u : ℕ). record { thread = u; step = c.steps-step.result + 1 }) own ∙ ap (λ (n : ℕ). record { thread = t; step = n + 1 }) counted in
          let asked : Asks size event steps c.in_ok-want.want = asks c.args.on.now.program.now c.args.on.now.limits.now c.args.on.now.inputs.now c.args.self.now.core.thread steps c.args.self.now is c.is_full-full.result c.is_full-full.ensures c.advance.new.self c.in_ok-want.ensures.ok.0 c.in_ok-want.want c.in_ok-want.ensures.ok.1 lives event c.thread.ensures number in
          let more = c.take-found.ensures.ready size steps (subst (λ (u : ℕ). g.W.StepWords.ready c.args.words.now size u steps) (sym own) still) asked in (
            ap (λ (n : ℕ). n + 1) counted,
            record {
              wants = ran-want c.args.on.now.program.now c.args.on.now.limits.now c.args.on.now.inputs.now c.args.self.now.core.thread steps c.args.self.now is c.is_full-full.result c.is_full-full.ensures c.advance.new.self c.in_ok-want.ensures.ok.0 c.in_ok-want.want c.in_ok-want.ensures.ok.1;
              lives = lives;
              taken = subst (λ (e : Event). g.W.StepWords.takes c.args.words.now e c.in_ok-want.want c.take-found.result c.take-found.new.self) event-is c.take-found.ensures.step;
              still = subst (λ (u : ℕ). g.W.StepWords.ready c.take-found.new.self size u (steps ++ step_that c.in_ok-want.want c.take-found.result ∷ [])) own more;
              is = stepped c.args.on.now.program.now c.args.on.now.limits.now c.args.on.now.inputs.now c.args.self.now.core.thread steps c.args.self.now is c.is_full-full.result c.is_full-full.ensures c.advance.new.self c.in_ok-want.ensures.ok.0 c.in_ok-want.want c.in_ok-want.ensures.ok.1 lives c.take-found.result c.tell.new.core c.tell.new.log (c.steps-step.result + 1) c.take-found.ensures.found number c.tell.ensures.core c.tell.ensures.words c.tell.ensures.limit c.tell.ensures.entries;
            },
          );
      err = tt;
      words = tt;
      memory = tt;
      thread = ap (λ (s : State). s.thread) c.tell.ensures.core ∙ (took_takes c.advance.new.self c.take-found.result).thread ∙ ran-own c.args.on.now.program.now c.args.on.now.limits.now c.args.on.now.inputs.now c.args.self.now.core.thread c.requires.0 c.args.self.now c.requires.1 c.is_full-full.result c.is_full-full.ensures c.advance.new.self c.in_ok-want.ensures.ok.0;
    }
