use Rattle.std.proofs.Common.{◌+◌, List, sym, subst}
use Rattle.running_thread.specs.declared.thread.RunningThread.{RunningThread}
use Rattle.replayer.specs.Seats.{AreFresh}
use Rattle.replayer.proofs.Ending.{fresh-push}
use Rattle.replayer.proofs.replay.opening_seats.Goals as goal

pub loop-thread-preserved : goal.loop-thread-preserved
loop-thread-preserved c =
    let P : List RunningThread → Type 0 = λ seats. AreFresh c.args.program.now c.args.log.now (c.loop-thread.thread + 1) seats in
    subst P (sym c.in_ok-push.ensures.items) (fresh-push c.args.program.now c.args.log.now c.loop-thread.thread c.loop-thread.seats.items c.in_ok-new_seat.field-0 c.loop-thread.invariant c.in_ok-new_seat.ensures)
