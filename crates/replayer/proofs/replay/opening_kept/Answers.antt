use Rattle.std.proofs.Common.{ℕ, ◌+◌, List, sym, subst}
use Rattle.replayer.specs.Seats.{AreAllLeft}
use Rattle.replayer.proofs.Ending.{left-push}
use Rattle.replayer.proofs.replay.opening_kept.Goals as goal

pub loop-thread-preserved : goal.loop-thread-preserved
loop-thread-preserved c =
    let P : List (List ℕ) → Type 0 = λ kept. AreAllLeft c.args.log.now (c.loop-thread.thread + 1) kept in
    subst P (sym c.in_ok-push.ensures.items) (left-push c.args.log.now c.loop-thread.thread c.loop-thread.kept.items c.in_ok-of.field-0 c.loop-thread.invariant c.in_ok-of.ensures)
