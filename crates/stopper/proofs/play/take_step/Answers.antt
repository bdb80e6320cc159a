use Rattle.std.proofs.Common.{◌≡◌, ◌+◌, ℕ, false, ◌∙◌, ap, arith}
use Rattle.replay_model.specs.Steps.{has_ended}
use Rattle.machine.specs.Inputs.{inputs_of}
use Rattle.machine.specs.Laws.{taken_in}
use Rattle.running_thread.proofs.Stepping.{lives_from}
use Rattle.stopper.proofs.Stepping.{over, few, may-take, may-tell, took-by}
use Rattle.stopper.proofs.play.take_step.Goals as goal

pub returns-in-Ended : goal.returns-in-Ended
returns-in-Ended c = λ world at.
    over c.args.program.now c.args.log.now c.args.thread.now.core.thread c.limits.result.now c.inputs_of-inputs.result.now c.limits.ensures
    (c.inputs_of-inputs.ensures.value ∙ ap (inputs_of (taken_in c.args.log.now)) c.thread.ensures)
    world c.args.words.now c.args.thread.now at c.is_full-full.result c.is_full-full.ensures c.advance.new.self c.in_ok-want.ensures.ok.0 c.in_ok-want.want c.in_ok-want.ensures.ok.1
    (ap has_ended c.in-Ended.is)

pub overflow_add-step : goal.overflow_add-step
overflow_add-step c =
    let lives : has_ended c.in_ok-want.want ≡ false = lives_from c.in_ok-want.want c.in_default.not-Ended in
    let l = few c.args.program.now c.args.log.now c.args.thread.now.core.thread c.limits.result.now c.inputs_of-inputs.result.now c.limits.ensures
    (c.inputs_of-inputs.ensures.value ∙ ap (inputs_of (taken_in c.args.log.now)) c.thread.ensures)
    c.requires.shown.0 c.args.words.now c.args.thread.now c.requires.shown.1 c.is_full-full.result c.is_full-full.ensures c.advance.new.self c.in_ok-want.ensures.ok.0 c.in_ok-want.want c.in_ok-want.ensures.ok.1 lives in
    omega (arith, l, c.steps-step.ensures)

pub take-found-requires : goal.take-found-requires
take-found-requires c =
    may-take c.args.program.now c.args.log.now c.args.thread.now.core.thread c.limits.result.now c.inputs_of-inputs.result.now c.limits.ensures
    (c.inputs_of-inputs.ensures.value ∙ ap (inputs_of (taken_in c.args.log.now)) c.thread.ensures)
    c.requires.shown.0 c.args.words.now c.args.thread.now c.requires.shown.1 c.is_full-full.result c.is_full-full.ensures c.advance.new.self c.in_ok-want.ensures.ok.0 c.in_ok-want.want c.in_ok-want.ensures.ok.1
    (lives_from c.in_ok-want.want c.in_default.not-Ended) (record { thread = c.thread-2.result; step = c.steps-step.result + 1 }) c.thread-2.ensures (ap (λ (n : ℕ). n + 1) c.steps-step.ensures)

pub tell-requires : goal.tell-requires
tell-requires c =
    let can = may-tell c.args.program.now c.args.log.now c.args.thread.now.core.thread c.limits.result.now c.inputs_of-inputs.result.now c.limits.ensures
    (c.inputs_of-inputs.ensures.value ∙ ap (inputs_of (taken_in c.args.log.now)) c.thread.ensures)
    c.requires.shown.0 c.args.words.now c.args.thread.now c.requires.shown.1 c.is_full-full.result c.is_full-full.ensures c.advance.new.self c.in_ok-want.ensures.ok.0 c.in_ok-want.want c.in_ok-want.ensures.ok.1
    (lives_from c.in_ok-want.want c.in_default.not-Ended) c.take-found.result c.take-found.ensures.found (c.steps-step.result + 1) (ap (λ (n : ℕ). n + 1) c.steps-step.ensures) in
    record {
      pending = can.pending;
      lives = can.lives;
      found = can.found;
      word = can.word;
      number = can.number;
      later = can.later;
      room = can.room;
    }

pub returns : goal.returns
returns c = λ world at.
    took-by c.args.program.now c.args.log.now c.args.thread.now.core.thread c.limits.result.now c.inputs_of-inputs.result.now c.limits.ensures
    (c.inputs_of-inputs.ensures.value ∙ ap (inputs_of (taken_in c.args.log.now)) c.thread.ensures)
    world c.args.words.now c.args.thread.now at c.is_full-full.result c.is_full-full.ensures c.advance.new.self c.in_ok-want.ensures.ok.0 c.in_ok-want.want c.in_ok-want.ensures.ok.1
    (lives_from c.in_ok-want.want c.in_default.not-Ended) (record { thread = c.thread-2.result; step = c.steps-step.result + 1 }) c.thread-2.ensures (ap (λ (n : ℕ). n + 1) c.steps-step.ensures)
    c.take-found.result c.take-found.new.self c.tell.new.core c.tell.new.log c.take-found.ensures.step c.take-found.ensures.ready c.take-found.ensures.found
    c.tell.ensures.core c.tell.ensures.words c.tell.ensures.limit c.tell.ensures.entries
