use Rattle.std.proofs.Common.{[]}
use Rattle.std.proofs.lemmas.Result.{IfOk-weaker}
use Rattle.replayer.proofs.Running.{seat-new}
use Rattle.replayer.proofs.seat.new_seat.Goals as goal

pub returns : goal.returns
returns c =
    IfOk-weaker c.new.result _ _
    (λ seat h. seat-new c.args.program.now c.args.log.now c.args.thread c.limits.result.now c.inputs_of.result.now c.limits.ensures c.inputs_of.ensures.value [] seat h) c.new.ensures.is
