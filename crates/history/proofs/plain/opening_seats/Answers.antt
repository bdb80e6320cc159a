use Rattle.std.proofs.Common.{ℕ, List, ◌+◌, [], sym, ◌∙◌, ap, subst}
use Rattle.machine.specs.Inputs.{inputs_of}
use Rattle.history.specs.declared.seat.Seat.{Seat}
use Rattle.history.specs.Playing.{AreFresh, IsSeat}
use Rattle.history.proofs.Playing.{fresh-push}
use Rattle.history.proofs.plain.opening_seats.Goals as goal

pub loop-thread-preserved : goal.loop-thread-preserved
loop-thread-preserved c =
    let P : List Seat → Type 0 = λ l. AreFresh c.args.program.now c.args.limits.now c.args.inputs.now (c.loop-thread.thread + 1) l in
    let Q : List ℕ → Type 0 = λ l. IsSeat c.args.program.now c.args.limits.now l c.loop-thread.thread [] c.in_ok-new.field-0 in
    subst P (sym c.in_ok-push.ensures.items) (fresh-push c.args.program.now c.args.limits.now c.args.inputs.now c.loop-thread.thread c.loop-thread.seats.items c.in_ok-new.field-0 c.loop-thread.invariant
    (subst Q (c.threads.ensures.value ∙ ap (inputs_of c.args.inputs.now) c.from.ensures) c.in_ok-new.ensures))
