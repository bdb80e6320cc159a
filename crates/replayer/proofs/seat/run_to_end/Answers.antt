use Rattle.std.proofs.Common.{◌∙◌, ap, arith}
use Rattle.machine.specs.Inputs.{inputs_of}
use Rattle.machine.specs.Laws.{taken_in}
use Rattle.replayer.proofs.Running.{may-run, ended-by}
use Rattle.replayer.proofs.seat.run_to_end.Goals as goal

pub run_to_end-requires : goal.run_to_end-requires
run_to_end-requires c = (
  search,
  may-run c.args.program.now c.args.log.now c.args.thread.now.core.thread c.limits.result.now c.inputs_of.result.now c.limits.ensures (c.inputs_of.ensures.value ∙ ap (inputs_of (taken_in c.args.log.now)) c.thread.ensures)
      c.requires.shown.0 c.args.words.now c.args.thread.now c.requires.shown.1,
)

pub returns : goal.returns
returns c =
    λ world at.
    ended-by c.args.program.now c.args.log.now c.args.thread.now.core.thread c.limits.result.now c.inputs_of.result.now c.limits.ensures (c.inputs_of.ensures.value ∙ ap (inputs_of (taken_in c.args.log.now)) c.thread.ensures)
    c.args.words.now c.run_to_end.new.words c.args.thread.now c.run_to_end.new.self world at c.in_ok-run_to_end.field-0 c.in_ok-run_to_end.ensures

pub inputs_of-requires : goal.inputs_of-requires
inputs_of-requires c = let h = c.requires.shown.1.seated.there in let n = c.requires.counted in let t = c.thread.ensures in omega (arith, h, n, t)
