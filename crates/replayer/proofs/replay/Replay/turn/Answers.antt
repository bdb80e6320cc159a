use Rattle.std.proofs.Common.{◌≡◌, ℕ, List, ◌++◌, ◌∷◌, [], sym, ap, subst, ◌∙◌}
use Rattle.replay_model.specs.Steps.{Event}
use Rattle.replayer.specs.Replays.{Replaying, world_of}
use Rattle.replayer.specs.Seats.{IsAt, turned}
use Rattle.replayer.proofs.Turns.{Begins, begins, stands, after-turn, turned-done, turned-short, begun, step-is}
use Rattle.replayer.proofs.replay.Replay.turn.Goals as goal

pub invariant_of-self-in-Ok-None : goal.invariant_of-self-in-Ok-None
invariant_of-self-in-Ok-None c =
    let r : Replaying = record { program = c.self.inside.program.now; log = c.self.inside.log.now; turns = c.self.inside.turns.items } in
    let b : Begins r c.self.inside.words c.self.inside.seats.items c.args.event c.from-place.result c.index_mut-seat.result.now =
    begins c.args.self.now r c.self.inside.words c.self.inside.seats.items c.args.event c.from-place.result c.index_mut-seat.result.now c.self.view_is c.self.invariant c.requires c.from-place.ensures c.index_mut-seat.ensures.value in
    let run = c.in-Ok-None.ensures.ok (world_of r) (stands r c.self.inside.words c.self.inside.seats.items c.args.event c.from-place.result c.index_mut-seat.result.now b) in
    after-turn r c.self.inside.words c.self.inside.seats.items c.args.event c.from-place.result c.index_mut-seat.result.now b c.run_to.new.words c.run_to.new.thread c.args.event.step _ run.at
    (c.push_reserved.ensures.items ∙ ap (λ (l : List Event). l ++ c.args.event ∷ []) c.reserve.ensures.items)

pub invariant_of-self-in-Ok-Some : goal.invariant_of-self-in-Ok-Some
invariant_of-self-in-Ok-Some c =
    let r : Replaying = record { program = c.self.inside.program.now; log = c.self.inside.log.now; turns = c.self.inside.turns.items } in
    let b : Begins r c.self.inside.words c.self.inside.seats.items c.args.event c.from-place.result c.index_mut-seat.result.now =
    begins c.args.self.now r c.self.inside.words c.self.inside.seats.items c.args.event c.from-place.result c.index_mut-seat.result.now c.self.view_is c.self.invariant c.requires c.from-place.ensures c.index_mut-seat.ensures.value in
    let run = c.in-Ok-Some.ensures.ok (world_of r) (stands r c.self.inside.words c.self.inside.seats.items c.args.event c.from-place.result c.index_mut-seat.result.now b) in
    after-turn r c.self.inside.words c.self.inside.seats.items c.args.event c.from-place.result c.index_mut-seat.result.now b c.run_to.new.words c.run_to.new.thread c.args.event.step _ run.at
    (c.push_reserved-in-Ok-Some.ensures.items ∙ ap (λ (l : List Event). l ++ c.args.event ∷ []) c.reserve.ensures.items)

pub invariant_of-self-in-Err : goal.invariant_of-self-in-Err
invariant_of-self-in-Err c =
    let r : Replaying = record { program = c.self.inside.program.now; log = c.self.inside.log.now; turns = c.self.inside.turns.items } in
    let b : Begins r c.self.inside.words c.self.inside.seats.items c.args.event c.from-place.result c.index_mut-seat.result.now =
    begins c.args.self.now r c.self.inside.words c.self.inside.seats.items c.args.event c.from-place.result c.index_mut-seat.result.now c.self.view_is c.self.invariant c.requires c.from-place.ensures c.index_mut-seat.ensures.value in
    let stopped = c.in-Err.ensures.err (world_of r) (stands r c.self.inside.words c.self.inside.seats.items c.args.event c.from-place.result c.index_mut-seat.result.now b) in
    let step : c.steps-step.result ≡ c.run_to.new.thread.core.steps = step-is r c.self.inside.words c.self.inside.seats.items c.args.event c.from-place.result c.index_mut-seat.result.now b c.run_to.new.thread c.index.result.now c.steps-step.result c.index.ensures c.steps-step.ensures in
    let P : ℕ → Type 0 = λ n. IsAt r.program r.log (turned r.program r.log c.index_mut-seat.result.now.core.thread n (world_of r)) c.index_mut-seat.result.now.core.thread c.run_to.new.words c.run_to.new.thread in
    let at = subst P (sym step) stopped.at in
    after-turn r c.self.inside.words c.self.inside.seats.items c.args.event c.from-place.result c.index_mut-seat.result.now b c.run_to.new.words c.run_to.new.thread c.steps-step.result _ at
    (c.push_reserved-in-Err.ensures.items ∙ ap (λ (l : List Event). l ++ record { thread = c.args.event.thread; step = c.steps-step.result } ∷ []) c.reserve.ensures.items)

pub returns-in-Ok-None-clause-turned : goal.returns-in-Ok-None-clause-turned
returns-in-Ok-None-clause-turned c =
    let r : Replaying = record { program = c.self.inside.program.now; log = c.self.inside.log.now; turns = c.self.inside.turns.items } in
    let b : Begins r c.self.inside.words c.self.inside.seats.items c.args.event c.from-place.result c.index_mut-seat.result.now =
    begins c.args.self.now r c.self.inside.words c.self.inside.seats.items c.args.event c.from-place.result c.index_mut-seat.result.now c.self.view_is c.self.invariant c.requires c.from-place.ensures c.index_mut-seat.ensures.value in
    turned-done r c.self.inside.words c.self.inside.seats.items c.args.event c.from-place.result c.index_mut-seat.result.now b c.in-Ok-None.field-0 c.run_to.new.words c.run_to.new.thread _ (c.in-Ok-None.ensures.ok (world_of r) (stands r c.self.inside.words c.self.inside.seats.items c.args.event c.from-place.result c.index_mut-seat.result.now b)) c.in-Ok-None.field-0-is
    (c.push_reserved.ensures.items ∙ ap (λ (l : List Event). l ++ c.args.event ∷ []) c.reserve.ensures.items)

pub returns-in-Ok-Some-clause-turned : goal.returns-in-Ok-Some-clause-turned
returns-in-Ok-Some-clause-turned c =
    let r : Replaying = record { program = c.self.inside.program.now; log = c.self.inside.log.now; turns = c.self.inside.turns.items } in
    let b : Begins r c.self.inside.words c.self.inside.seats.items c.args.event c.from-place.result c.index_mut-seat.result.now =
    begins c.args.self.now r c.self.inside.words c.self.inside.seats.items c.args.event c.from-place.result c.index_mut-seat.result.now c.self.view_is c.self.invariant c.requires c.from-place.ensures c.index_mut-seat.ensures.value in
    turned-short r c.self.inside.words c.self.inside.seats.items c.args.event c.from-place.result c.index_mut-seat.result.now b c.in-Ok-Some.field-0 c.in-Ok-Some.end c.run_to.new.words c.run_to.new.thread _ (c.in-Ok-Some.ensures.ok (world_of r) (stands r c.self.inside.words c.self.inside.seats.items c.args.event c.from-place.result c.index_mut-seat.result.now b)) c.in-Ok-Some.field-0-is
    (c.push_reserved-in-Ok-Some.ensures.items ∙ ap (λ (l : List Event). l ++ c.args.event ∷ []) c.reserve.ensures.items)

pub returns-in-Err-clause-err : goal.returns-in-Err-clause-err
returns-in-Err-clause-err c =
    let r : Replaying = record { program = c.self.inside.program.now; log = c.self.inside.log.now; turns = c.self.inside.turns.items } in
    let b : Begins r c.self.inside.words c.self.inside.seats.items c.args.event c.from-place.result c.index_mut-seat.result.now =
    begins c.args.self.now r c.self.inside.words c.self.inside.seats.items c.args.event c.from-place.result c.index_mut-seat.result.now c.self.view_is c.self.invariant c.requires c.from-place.ensures c.index_mut-seat.ensures.value in
    begun r c.self.inside.words c.self.inside.seats.items c.args.event c.from-place.result c.index_mut-seat.result.now b c.args.self.now c.run_to.new.words c.run_to.new.thread c.index.result.now c.steps-step.result _ c.self.view_is (c.in-Err.ensures.err (world_of r) (stands r c.self.inside.words c.self.inside.seats.items c.args.event c.from-place.result c.index_mut-seat.result.now b)) c.index.ensures c.steps-step.ensures
    (c.push_reserved-in-Err.ensures.items ∙ ap (λ (l : List Event). l ++ record { thread = c.args.event.thread; step = c.steps-step.result } ∷ []) c.reserve.ensures.items)
