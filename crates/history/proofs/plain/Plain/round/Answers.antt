use Rattle.std.proofs.Common.{sym, ◌∙◌, length, arith}
use Rattle.machine.proofs.Turning.{on_err}
use Rattle.history.proofs.Turns.{round-begins, round-more, round-begun}
use Rattle.history.proofs.plain.Plain.round.Goals as goal
use Rattle.history.proofs.plain.Plain.round.Goals.{then-branch, else-branch}

pub loop-thread-init : goal.loop-thread-init
loop-thread-init c = round-begins c.args.self.now

pub loop-thread-preserved : goal.loop-thread-preserved
loop-thread-preserved c =
    round-more c.args.self.now c.loop-thread.self c.turn.new.self c.loop-thread.thread c.loop-thread.went c.in_ok-turn.field-0 c.if-branch.went c.loop-thread.invariant
    c.in_ok-turn.ensures.ok c.in_ok-turn.ensures.idle
    (elim c.if-branch.branch [ then-branch w ↦ λ h. absurd (let a = w.went-is in cc) | else-branch w ↦ λ h. (sym w.went-is ∙ h, w.if-branch.false) ])

pub returns-in_err-turn-clause-err : goal.returns-in_err-turn-clause-err
returns-in_err-turn-clause-err c =
    on_err _ (round-begun c.args.self.now c.loop-thread.self c.turn.new.self c.loop-thread.thread c.loop-thread.went (length c.args.self.now.program.threads) c.loop-thread.invariant
    (omega (arith, c.loop-thread-test.true, c.loop-thread.auto.thread-end, c.threads_count-thread-end.ensures.count)) c.in_err-turn.ensures.err)
