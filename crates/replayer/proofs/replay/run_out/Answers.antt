use Rattle.std.proofs.Common.{arith, ◌<◌, length, subst, sym}
use Rattle.replay_model.specs.Histories.{World}
use Rattle.running_thread.specs.declared.thread.RunningThread.{RunningThread}
use Rattle.replayer.specs.Seats.{IsAt, HasRunOut}
use Rattle.replayer.proofs.Ending.{out-start, out-more}
use Rattle.replayer.proofs.replay.run_out.Goals as goal

pub loop-thread-init : goal.loop-thread-init
loop-thread-init c = out-start c.args.program.now c.args.log.now c.args.words.now c.args.seats.now

pub loop-thread-preserved : goal.loop-thread-preserved
loop-thread-preserved c =
    let n = c.loop-thread.invariant.counted in
    let l : c.loop-thread.thread < length c.loop-thread.seats = omega (arith, n, c.loop-thread-test.true) in
    let P : RunningThread → Type 0 = λ seat. (world : World) → IsAt c.args.program.now c.args.log.now world seat.core.thread c.loop-thread.words seat →
    HasRunOut c.args.program.now c.args.log.now seat.core.thread world c.run_to_end.new.words c.run_to_end.new.thread in
    out-more c.args.program.now c.args.log.now c.loop-thread.thread c.args.words.now c.loop-thread.words c.run_to_end.new.words c.args.seats.now c.loop-thread.seats c.index-seats-thread.result c.run_to_end.new.thread
    c.loop-thread.invariant l c.index-seats-thread.is (subst P (sym c.index-seats-thread.is) c.in_ok-run_to_end.ensures)
