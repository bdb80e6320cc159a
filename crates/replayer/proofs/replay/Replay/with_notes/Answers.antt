use Rattle.std.proofs.Common.{ℕ, List, sym, subst, ap, ◌∙◌}
use Rattle.replay_model.specs.Steps.{Event, initial_cells}
use Rattle.replayer.specs.Seats.{IsReplaying, AreAllLeft}
use Rattle.replayer.proofs.Ending.{replaying-start}
use Rattle.replayer.proofs.replay.Replay.with_notes.Goals as goal

pub invariant_of-result : goal.invariant_of-result
invariant_of-result c =
    let P : List Event → Type 0 = λ turns. IsReplaying (record { program = c.args.program.now; log = c.args.log.now; turns = turns }) (record { cells = c.in_ok-cells.cells; kept = c.in_ok-kept.kept; notes = c.args.notes }) c.in_ok-seats.seats.items in
    let Q : ℕ → Type 0 = λ n. AreAllLeft c.args.log.now n c.in_ok-kept.kept.items in
    subst P (sym c.new.ensures.items)
    (replaying-start c.args.program.now c.args.log.now (record { cells = c.in_ok-cells.cells; kept = c.in_ok-kept.kept; notes = c.args.notes }) c.in_ok-seats.seats.items c.requires.threads c.requires.words
    (c.in_ok-cells.ensures ∙ ap initial_cells c.words.ensures.value) (subst Q c.threads_count.ensures.value c.in_ok-kept.ensures) c.requires.notes c.in_ok-seats.ensures)
