use Rattle.std.proofs.Common.{arith, ◌<◌}
use Rattle.std.proofs.lemmas.Result.{on_ok_weaker}
use Rattle.stopper.proofs.Going.{gone-before, gone-by}
use Rattle.stopper.proofs.play.go_to.Goals as goal

pub returns-then-last-steps : goal.returns-then-last-steps
returns-then-last-steps c =
    λ world at. gone-before c.args.program.now c.args.log.now c.args.thread.now.core.thread c.args.last world c.args.words.now c.args.thread.now at
    (omega (arith, c.if-last-steps.true, c.steps.ensures))

pub returns : goal.returns
returns c =
    let less : c.args.thread.now.core.steps < c.args.last = omega (arith, c.if-last-steps.false, c.steps.ensures) in
    on_ok_weaker c.take_step.result
    (λ steps world at. gone-by c.args.program.now c.args.log.now c.args.last c.args.words.now c.run_to.new.words c.take_step.new.words c.args.thread.now c.run_to.new.thread c.take_step.new.thread
    world c.in_ok-run_to.field-0 at less (c.in_ok-run_to.ensures.ok world at) steps) c.take_step.ensures
