use Rattle.std.proofs.Common.{List, ℕ, ◌++◌, ◌∷◌, [], ◌∙◌, ap}
use Rattle.history.specs.Played.{Played, thread_steps}
use Rattle.history.proofs.Playing.{begins, stands, sized, kept, moved, stayed, is-step, is-end}
use Rattle.history.proofs.plain.Plain.step.Goals as goal

pub step-requires : goal.step-requires
step-requires c =
    let played : Played = record { program = c.self.inside.program.now; limits = c.self.inside.limits; inputs = c.self.inside.inputs.now; taken = c.self.inside.taken.items } in
    let b = begins c.args.self.now played c.self.inside.words c.self.inside.seats.items c.args.thread c.from-place.result c.threads.result.now c.index_mut.result.now c.self.view_is c.self.invariant c.requires c.from-place.ensures c.threads.ensures.value c.index_mut.ensures.value in
    (thread_steps played c.from-place.result, stands played c.self.inside.words c.self.inside.seats.items c.args.thread c.from-place.result c.threads.result.now c.index_mut.result.now b, sized played c.self.inside.words c.self.inside.seats.items c.args.thread c.from-place.result c.threads.result.now c.index_mut.result.now b)

pub invariant_of-self-in_err-access : goal.invariant_of-self-in_err-access
invariant_of-self-in_err-access c =
    let played : Played = record { program = c.self.inside.program.now; limits = c.self.inside.limits; inputs = c.self.inside.inputs.now; taken = c.self.inside.taken.items } in
    let b = begins c.args.self.now played c.self.inside.words c.self.inside.seats.items c.args.thread c.from-place.result c.threads.result.now c.index_mut.result.now c.self.view_is c.self.invariant c.requires c.from-place.ensures c.threads.ensures.value c.index_mut.ensures.value in
    kept played c.self.inside.words c.self.inside.seats.items c.args.thread c.from-place.result c.threads.result.now c.index_mut.result.now b
    c.reserve.new.self.items c.step.new.words c.step.new.self c.reserve.ensures.items c.in_err-access.ensures.words (c.in_err-access.ensures.err (thread_steps played c.from-place.result) (stands played c.self.inside.words c.self.inside.seats.items c.args.thread c.from-place.result c.threads.result.now c.index_mut.result.now b))

pub invariant_of-self-in-Took : goal.invariant_of-self-in-Took
invariant_of-self-in-Took c =
    let played : Played = record { program = c.self.inside.program.now; limits = c.self.inside.limits; inputs = c.self.inside.inputs.now; taken = c.self.inside.taken.items } in
    let b = begins c.args.self.now played c.self.inside.words c.self.inside.seats.items c.args.thread c.from-place.result c.threads.result.now c.index_mut.result.now c.self.view_is c.self.invariant c.requires c.from-place.ensures c.threads.ensures.value c.index_mut.ensures.value in
    moved played c.self.inside.words c.self.inside.seats.items c.args.thread c.from-place.result c.threads.result.now c.index_mut.result.now b c.in_ok-access.field-0
    c.step.new.words c.step.new.self c.in_ok-access.ensures.ok c.in-Took.access c.in-Took.is c.push_reserved.new.self.items (c.push_reserved.ensures.items ∙ ap (λ (l : List ℕ). l ++ c.args.thread ∷ []) c.reserve.ensures.items)

pub invariant_of-self-in-Ended : goal.invariant_of-self-in-Ended
invariant_of-self-in-Ended c =
    let played : Played = record { program = c.self.inside.program.now; limits = c.self.inside.limits; inputs = c.self.inside.inputs.now; taken = c.self.inside.taken.items } in
    let b = begins c.args.self.now played c.self.inside.words c.self.inside.seats.items c.args.thread c.from-place.result c.threads.result.now c.index_mut.result.now c.self.view_is c.self.invariant c.requires c.from-place.ensures c.threads.ensures.value c.index_mut.ensures.value in
    stayed played c.self.inside.words c.self.inside.seats.items c.args.thread c.from-place.result c.threads.result.now c.index_mut.result.now b c.in_ok-access.field-0
    c.step.new.words c.step.new.self c.in_ok-access.ensures.ok c.in-Ended.end c.in-Ended.is c.reserve.new.self.items c.reserve.ensures.items

pub returns-in-Took-clause-ok : goal.returns-in-Took-clause-ok
returns-in-Took-clause-ok c =
    let played : Played = record { program = c.self.inside.program.now; limits = c.self.inside.limits; inputs = c.self.inside.inputs.now; taken = c.self.inside.taken.items } in
    let b = begins c.args.self.now played c.self.inside.words c.self.inside.seats.items c.args.thread c.from-place.result c.threads.result.now c.index_mut.result.now c.self.view_is c.self.invariant c.requires c.from-place.ensures c.threads.ensures.value c.index_mut.ensures.value in
    is-step played c.self.inside.words c.self.inside.seats.items c.args.thread c.from-place.result c.threads.result.now c.index_mut.result.now b c.in_ok-access.field-0
    c.step.new.words c.step.new.self c.in_ok-access.ensures.ok c.in-Took.access c.in-Took.is c.push_reserved.new.self.items (c.push_reserved.ensures.items ∙ ap (λ (l : List ℕ). l ++ c.args.thread ∷ []) c.reserve.ensures.items) c.args.self.now c.self.view_is

pub returns-in-Ended-clause-ok : goal.returns-in-Ended-clause-ok
returns-in-Ended-clause-ok c =
    let played : Played = record { program = c.self.inside.program.now; limits = c.self.inside.limits; inputs = c.self.inside.inputs.now; taken = c.self.inside.taken.items } in
    let b = begins c.args.self.now played c.self.inside.words c.self.inside.seats.items c.args.thread c.from-place.result c.threads.result.now c.index_mut.result.now c.self.view_is c.self.invariant c.requires c.from-place.ensures c.threads.ensures.value c.index_mut.ensures.value in
    is-end played c.self.inside.words c.self.inside.seats.items c.args.thread c.from-place.result c.threads.result.now c.index_mut.result.now b c.in_ok-access.field-0
    c.step.new.words c.step.new.self c.in_ok-access.ensures.ok c.in-Ended.end c.in-Ended.is c.reserve.new.self.items c.reserve.ensures.items c.args.self.now c.self.view_is
