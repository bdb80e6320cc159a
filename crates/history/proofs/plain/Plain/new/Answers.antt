use Rattle.std.proofs.Common.{List, ℕ, sym, ◌∙◌, ap, subst}
use Rattle.replay_model.specs.Steps.{initial_cells}
use Rattle.history.specs.Playing.{IsPlaying}
use Rattle.history.proofs.Playing.{playing-new}
use Rattle.history.proofs.plain.Plain.new.Goals as goal

pub invariant_of-result : goal.invariant_of-result
invariant_of-result c =
    let P : List ℕ → Type 0 = λ l. IsPlaying (record { program = c.args.program.now; limits = c.args.limits; inputs = c.args.inputs.now; taken = l }) (record { cells = c.in_ok-cells.cells }) c.in_ok-seats.seats.items in
    subst P (sym c.new.ensures.items) (playing-new c.args.program.now c.args.limits c.args.inputs.now (record { cells = c.in_ok-cells.cells }) c.in_ok-seats.seats.items c.requires
    (c.in_ok-cells.ensures ∙ ap initial_cells c.words.ensures.value) c.in_ok-seats.ensures)
