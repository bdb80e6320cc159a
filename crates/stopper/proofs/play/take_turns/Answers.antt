use Rattle.std.proofs.Common.{◌≡◌, ◌+◌, ◌<◌, ◌≤◌, List, [], ◌∷◌, ◌++◌, length, take, sym, ap, subst, arith, Vec, Global}
use Rattle.std.specs.Prelude.{slice_index_or}
use Rattle.std.proofs.lemmas.List.{take_more}
use Rattle.replay_model.specs.Steps.{Event}
use Rattle.replayer.specs.declared.words.ReplayWords.{ReplayWords}
use Rattle.running_thread.specs.declared.thread.RunningThread.{RunningThread}
use Rattle.stopper.specs.Plays.{TurnsTaken}
use Rattle.stopper.proofs.Going.{turns-none, turns-by, turns-nothing, taken-shown}
use Rattle.stopper.proofs.play.take_turns.Goals as goal
use Rattle.stopper.proofs.play.take_turns.Goals.{then-place-len+in_ok-go_to, else-place-len}

pub loop-event-init : goal.loop-event-init
loop-event-init c = turns-none c.args.plan.now.program.now c.args.plan.now.log.now c.args.plan.now.numbers.now c.args.words.now c.args.seats.now.items

pub loop-event-preserved : goal.loop-event-preserved
loop-event-preserved c =
    let p = c.args.plan.now.program.now in
    let log = c.args.plan.now.log.now in
    let cut = c.args.plan.now.numbers.now in
    let order = c.args.order.now in
    let event : Event = slice_index_or order c.loop-event.event-index (record { thread = 0; step = 0 }) in
    let before : List Event = take c.loop-event.event-index order in
    let more : take (c.loop-event.event-index + 1) order ≡ before ++ event ∷ [] = take_more order c.loop-event.event-index (record { thread = 0; step = 0 }) c.loop-event-test.true in
    let P : List Event → Type 0 = λ o. TurnsTaken p log cut o c.args.words.now c.args.seats.now.items c.if-place-len.words c.if-place-len.seats.items in
    let Q : ReplayWords → Type 0 = λ words. TurnsTaken p log cut (before ++ event ∷ []) c.args.words.now c.args.seats.now.items words c.if-place-len.seats.items in
    subst P (sym more) (elim c.if-place-len.branch [
      | then-place-len+in_ok-go_to w ↦
          (let R : List RunningThread → Type 0 = λ seats. TurnsTaken p log cut (before ++ event ∷ []) c.args.words.now c.args.seats.now.items w.go_to.new.words seats in
          let l : c.from-place.result < length c.loop-event.seats.items = omega (arith, w.if-place-len.true, c.len.ensures) in
          subst Q (sym w.words-is) (subst R (sym (ap (λ (v : Vec RunningThread Global). v.items) w.seats-is))
          (turns-by p log cut before event c.args.words.now c.loop-event.words w.go_to.new.words c.args.seats.now.items c.loop-event.seats.items w.index_mut.result.now w.go_to.new.thread
          c.from-place.result w.cut_off-last.result c.loop-event.invariant l c.from-place.ensures w.cut_off-last.ensures w.index_mut.ensures.value w.in_ok-go_to.ensures)))
      | else-place-len w ↦
          (let R : List RunningThread → Type 0 = λ seats. TurnsTaken p log cut (before ++ event ∷ []) c.args.words.now c.args.seats.now.items c.loop-event.words seats in
          let n : length c.loop-event.seats.items ≡ length p.threads =
          taken-shown p log cut before c.args.words.now c.loop-event.words c.args.seats.now.items c.loop-event.seats.items c.requires.shown.0 c.loop-event.invariant c.requires.shown.1 in
          let far : length p.threads ≤ event.thread = omega (arith, n, w.if-place-len.false, c.from-place.ensures, c.len.ensures) in
          subst Q (sym w.words-is) (subst R (sym (ap (λ (v : Vec RunningThread Global). v.items) w.seats-is))
          (turns-nothing p log cut before event c.args.words.now c.loop-event.words c.args.seats.now.items c.loop-event.seats.items c.loop-event.invariant far)))
    ])
