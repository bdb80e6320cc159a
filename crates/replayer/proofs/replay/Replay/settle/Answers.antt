use Rattle.std.proofs.Common.{◌≡◌, List, ◌++◌, take, drop, length, sym, subst}
use Rattle.std.specs.Prelude.{All, IfSome}
use Rattle.replay_model.specs.Steps.{Cell}
use Rattle.running_thread.specs.declared.thread.RunningThread.{RunningThread}
use Rattle.replayer.specs.Replays.{Replaying, ended}
use Rattle.replayer.specs.Notes.{AreWrites}
use Rattle.replayer.specs.Seats.{HasEnded, IsAnswer}
use Rattle.replayer.proofs.Finishing.{seats-back, ends-all, end-shown, verdict-of}
use Rattle.replayer.proofs.Exactness.{exact-by-order}
use Rattle.replayer.proofs.replay.Replay.settle.Goals as goal

pub answer-requires-clause-ended : goal.answer-requires-clause-ended
answer-requires-clause-ended c =
    let r : Replaying = record { program = c.self.inside.program.now; log = c.self.inside.log.now; turns = c.self.inside.turns.items } in
    subst (All HasEnded) (sym (seats-back r c.self.inside.words c.self.inside.seats.items c.deref_mut.result.now c.run_out.new.words c.run_out.new.seats c.self.invariant c.deref_mut.ensures.value c.in_ok-run_out.ensures.shown c.in_ok-run_out.ensures.settled _ c.deref_mut.ensures.len)) (ends-all r c.self.inside.words c.self.inside.seats.items c.deref_mut.result.now c.run_out.new.words c.run_out.new.seats c.self.invariant c.deref_mut.ensures.value c.in_ok-run_out.ensures.shown c.in_ok-run_out.ensures.settled)

pub returns-clause-verdict : goal.returns-clause-verdict
returns-clause-verdict c =
    let r : Replaying = record { program = c.self.inside.program.now; log = c.self.inside.log.now; turns = c.self.inside.turns.items } in
    let P : List Cell → Type 0 = λ cells. IsAnswer r.log cells (take c.self.inside.seats.len (c.run_out.new.seats ++ drop (length c.run_out.new.seats) c.self.inside.seats.items)) c.in_ok-replayed.replayed in
    let Q : List RunningThread → Type 0 = λ seats. IsAnswer r.log c.run_out.new.words.cells.items seats c.in_ok-replayed.replayed in
    verdict-of r c.self.inside.words c.self.inside.seats.items c.deref_mut.result.now c.run_out.new.words c.run_out.new.seats c.self.invariant c.deref_mut.ensures.value c.in_ok-run_out.ensures.shown c.in_ok-run_out.ensures.settled c.args.self
    c.in_ok-replayed.replayed c.self.view_is
    (subst Q (seats-back r c.self.inside.words c.self.inside.seats.items c.deref_mut.result.now c.run_out.new.words c.run_out.new.seats c.self.invariant c.deref_mut.ensures.value c.in_ok-run_out.ensures.shown c.in_ok-run_out.ensures.settled _ c.deref_mut.ensures.len) (subst P c.deref.ensures.value c.in_ok-replayed.ensures))

pub returns-clause-exact : goal.returns-clause-exact
returns-clause-exact c =
    let counted : length c.args.self.program.threads ≡ length c.args.self.log.threads = subst (λ (x : Replaying). length x.program.threads ≡ length x.log.threads) c.self.view_is c.self.invariant.threads in
    exact-by-order c.args.self c.in_ok-replayed.replayed counted (returns-clause-verdict c)

pub returns-clause-noted : goal.returns-clause-noted
returns-clause-noted c =
    let r : Replaying = record { program = c.self.inside.program.now; log = c.self.inside.log.now; turns = c.self.inside.turns.items } in
    subst (λ (x : Replaying). IfSome c.run_out.new.words.notes (λ writes. AreWrites (ended x).threads writes.items)) c.self.view_is
    (end-shown r c.self.inside.words c.self.inside.seats.items c.deref_mut.result.now c.run_out.new.words c.run_out.new.seats c.self.invariant c.deref_mut.ensures.value c.in_ok-run_out.ensures.shown c.in_ok-run_out.ensures.settled).are.noted
