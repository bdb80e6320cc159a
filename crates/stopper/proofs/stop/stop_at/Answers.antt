use Rattle.std.proofs.lemmas.Result.{IfOk-weaker}
use Rattle.stopper.proofs.Answering.{stops-by, as-it-ran, tells-unlike}
use Rattle.stopper.proofs.stop.stop_at.Goals as goal

pub returns-clause-stopped : goal.returns-clause-stopped
returns-clause-stopped c =
    IfOk-weaker c.answer.result _ _
    (λ stopped h. (
      c.in_ok-numbers.numbers.items,
      c.in_ok-numbers.ensures,
      stops-by c.args.program.now c.args.log.now c.args.order.now c.args.thread c.args.step c.in_ok-numbers.numbers.items c.deref.result.now c.in_ok-seats.seats.items c.deref-2.result.now stopped
          c.requires.threads c.requires.thread c.deref.ensures.value c.deref-2.ensures.value c.in_ok-seats.ensures h,
    )) c.answer.ensures

pub returns-clause-ran : goal.returns-clause-ran
returns-clause-ran c =
    IfOk-weaker c.answer.result _ _
    (λ stopped h. as-it-ran c.args.program.now c.args.log.now c.args.order.now c.args.thread c.args.step c.in_ok-numbers.numbers.items stopped c.requires.order c.requires.thread c.requires.step
    c.in_ok-numbers.ensures
    (stops-by c.args.program.now c.args.log.now c.args.order.now c.args.thread c.args.step c.in_ok-numbers.numbers.items c.deref.result.now c.in_ok-seats.seats.items c.deref-2.result.now stopped
    c.requires.threads c.requires.thread c.deref.ensures.value c.deref-2.ensures.value c.in_ok-seats.ensures h)) c.answer.ensures

pub returns-clause-unlike : goal.returns-clause-unlike
returns-clause-unlike c =
    IfOk-weaker c.answer.result _ _
    (λ stopped h. tells-unlike c.args.program.now c.args.log.now c.args.order.now c.args.thread c.in_ok-numbers.numbers.items stopped
    (stops-by c.args.program.now c.args.log.now c.args.order.now c.args.thread c.args.step c.in_ok-numbers.numbers.items c.deref.result.now c.in_ok-seats.seats.items c.deref-2.result.now stopped
    c.requires.threads c.requires.thread c.deref.ensures.value c.deref-2.ensures.value c.in_ok-seats.ensures h)) c.answer.ensures
