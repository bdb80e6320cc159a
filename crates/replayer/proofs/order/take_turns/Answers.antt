use Rattle.std.proofs.Common.{◌≡◌, ◌+◌, ◌≤◌, List, [], ◌∷◌, ◌++◌, length, take, sym, ap, subst, arith}
use Rattle.std.specs.Prelude.{slice_index_or}
use Rattle.std.proofs.lemmas.List.{take_all, take_more}
use Rattle.replay_model.specs.Steps.{Event}
use Rattle.machine.specs.Programs.{ProgramValue}
use Rattle.replayer.specs.Replays.{Replaying, IsBy}
use Rattle.replayer.proofs.Exactness.{by-none, by-more, by-nothing}
use Rattle.replayer.proofs.order.take_turns.Goals as goal
use Rattle.replayer.proofs.order.take_turns.Goals.{then-from-threads+in_ok-turn, else-from-threads}

pub loop-event-init : goal.loop-event-init
loop-event-init c = by-none c.args.program.now c.args.replay.now c.requires.program c.requires.begins

pub turn-requires : goal.turn-requires
turn-requires c =
    let same : length c.loop-event.replay.program.threads ≡ length c.args.program.now.threads = ap (λ (p : ProgramValue). length p.threads) c.loop-event.invariant.of_program in
    omega (arith, same, c.if-from-threads.true, c.from.ensures, c.threads_count-threads.ensures.value)

pub loop-event-preserved : goal.loop-event-preserved
loop-event-preserved c =
    let order : List Event = c.args.order.now in
    let event : Event = slice_index_or order c.loop-event.event-index (record { thread = 0; step = 0 }) in
    let more : take (c.loop-event.event-index + 1) order ≡ take c.loop-event.event-index order ++ event ∷ [] = take_more order c.loop-event.event-index (record { thread = 0; step = 0 }) c.loop-event-test.true in
    let P : List Event → Type 0 = λ events. IsBy c.args.program.now c.args.replay.now.log events c.if-from-threads.replay in
    let Q : Replaying → Type 0 = λ replay. IsBy c.args.program.now c.args.replay.now.log (take c.loop-event.event-index order ++ event ∷ []) replay in
    subst P (sym more) (elim c.if-from-threads.branch [
      | then-from-threads+in_ok-turn w ↦
          subst Q (sym w.replay-is)
          (by-more c.args.program.now c.args.replay.now.log (take c.loop-event.event-index order) event c.loop-event.replay w.turn.new.self c.loop-event.invariant w.in_ok-turn.ensures.after)
      | else-from-threads w ↦
          (let far : length c.args.program.now.threads ≤ event.thread = omega (arith, w.if-from-threads.false, c.from.ensures, c.threads_count-threads.ensures.value) in
          subst Q (sym w.replay-is) (by-nothing c.args.program.now c.args.replay.now.log (take c.loop-event.event-index order) event c.loop-event.replay c.loop-event.invariant far))
    ])

pub returns : goal.returns
returns c =
    let all : take c.loop-event.event-index c.args.order.now ≡ c.args.order.now = take_all c.loop-event.event-index c.args.order.now (omega (arith, c.loop-event-test.false)) in
    subst (λ (o : List Event). IsBy c.args.program.now c.args.replay.now.log o c.loop-event.replay) all c.loop-event.invariant
