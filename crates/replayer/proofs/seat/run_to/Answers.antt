use Rattle.std.proofs.Common.{◌∙◌, ap, arith}
use Rattle.std.proofs.lemmas.Result.{IfOk-weaker, on_err_weaker}
use Rattle.machine.specs.Inputs.{inputs_of}
use Rattle.machine.specs.Laws.{taken_in}
use Rattle.replayer.proofs.Running.{may-run, run-by, stopped-by}
use Rattle.replayer.proofs.seat.run_to.Goals as goal

pub run_to-requires : goal.run_to-requires
run_to-requires c = (
  search,
  may-run c.args.program.now c.args.log.now c.args.thread.now.core.thread c.limits.result.now c.inputs_of.result.now c.limits.ensures (c.inputs_of.ensures.value ∙ ap (inputs_of (taken_in c.args.log.now)) c.thread.ensures)
      c.requires.shown.0 c.args.words.now c.args.thread.now c.requires.shown.1,
)

pub returns-clause-ok : goal.returns-clause-ok
returns-clause-ok c =
    IfOk-weaker c.run_to.result _ _
    (λ end ran world at. run-by c.args.program.now c.args.log.now c.args.thread.now.core.thread c.limits.result.now c.inputs_of.result.now c.limits.ensures (c.inputs_of.ensures.value ∙ ap (inputs_of (taken_in c.args.log.now)) c.thread.ensures)
    c.args.words.now c.run_to.new.words c.args.thread.now c.run_to.new.self world at c.args.last end ran) c.run_to.ensures.ok

pub returns-clause-err : goal.returns-clause-err
returns-clause-err c =
    on_err_weaker c.run_to.result
    (λ ran world at. stopped-by c.args.program.now c.args.log.now c.args.thread.now.core.thread c.limits.result.now c.inputs_of.result.now c.limits.ensures (c.inputs_of.ensures.value ∙ ap (inputs_of (taken_in c.args.log.now)) c.thread.ensures)
    c.args.words.now c.run_to.new.words c.args.thread.now c.run_to.new.self world at c.args.last ran) c.run_to.ensures.err

pub inputs_of-requires : goal.inputs_of-requires
inputs_of-requires c = let h = c.requires.shown.1.seated.there in let n = c.requires.counted in let t = c.thread.ensures in omega (arith, h, n, t)
