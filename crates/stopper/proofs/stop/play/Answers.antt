use Rattle.std.proofs.Common.{◌≡◌, ℕ, length, ap, ◌∙◌, subst}
use Rattle.std.specs.Prelude.{None}
use Rattle.replay_model.specs.Steps.{initial_cells}
use Rattle.replay_model.specs.Histories.{opening}
use Rattle.replayer.specs.Seats.{AreAllLeft}
use Rattle.replayer.proofs.Ending.{replaying-start}
use Rattle.stopper.specs.Plays.{HaveCome, after_turns}
use Rattle.stopper.proofs.Going.{come-start, come-end}
use Rattle.stopper.proofs.stop.play.Goals as goal

pub take_turns-requires-clause-shown : goal.take_turns-requires-clause-shown
take_turns-requires-clause-shown c =
    let p = c.args.plan.now.program.now in
    let log = c.args.plan.now.log.now in
    let Q : ℕ → Type 0 = λ n. AreAllLeft log n c.in_ok-kept.kept.items in (
      opening p.words (length log.threads),
      come-start p log c.args.plan.now.numbers.now (record { cells = c.in_ok-cells.cells; kept = c.in_ok-kept.kept; notes = None }) c.in_ok-seats.seats.items
          (replaying-start p log (record { cells = c.in_ok-cells.cells; kept = c.in_ok-kept.kept; notes = None }) c.in_ok-seats.seats.items c.requires.threads c.requires.words
          (c.in_ok-cells.ensures ∙ ap initial_cells c.words.ensures.value) (subst Q c.threads_count.ensures.value c.in_ok-kept.ensures) tt c.in_ok-seats.ensures),
    )

pub go_to_numbers-requires-clause-shown : goal.go_to_numbers-requires-clause-shown
go_to_numbers-requires-clause-shown c =
    let p = c.args.plan.now.program.now in
    let log = c.args.plan.now.log.now in
    let Q : ℕ → Type 0 = λ n. AreAllLeft log n c.in_ok-kept.kept.items in (
      after_turns p log c.args.plan.now.numbers.now c.args.order.now (opening p.words (length log.threads)),
      c.in_ok-take_turns.ensures (opening p.words (length log.threads))
          (come-start p log c.args.plan.now.numbers.now (record { cells = c.in_ok-cells.cells; kept = c.in_ok-kept.kept; notes = None }) c.in_ok-seats.seats.items
          (replaying-start p log (record { cells = c.in_ok-cells.cells; kept = c.in_ok-kept.kept; notes = None }) c.in_ok-seats.seats.items c.requires.threads c.requires.words
          (c.in_ok-cells.ensures ∙ ap initial_cells c.words.ensures.value) (subst Q c.threads_count.ensures.value c.in_ok-kept.ensures) tt c.in_ok-seats.ensures)),
    )

pub returns : goal.returns
returns c =
    let p = c.args.plan.now.program.now in
    let log = c.args.plan.now.log.now in
    let cut = c.args.plan.now.numbers.now in
    let Q : ℕ → Type 0 = λ n. AreAllLeft log n c.in_ok-kept.kept.items in
    let turned : HaveCome p log cut (after_turns p log cut c.args.order.now (opening p.words (length log.threads))) c.take_turns.new.words c.take_turns.new.seats.items =
    c.in_ok-take_turns.ensures (opening p.words (length log.threads))
    (come-start p log cut (record { cells = c.in_ok-cells.cells; kept = c.in_ok-kept.kept; notes = None }) c.in_ok-seats.seats.items
    (replaying-start p log (record { cells = c.in_ok-cells.cells; kept = c.in_ok-kept.kept; notes = None }) c.in_ok-seats.seats.items c.requires.threads c.requires.words
    (c.in_ok-cells.ensures ∙ ap initial_cells c.words.ensures.value) (subst Q c.threads_count.ensures.value c.in_ok-kept.ensures) tt c.in_ok-seats.ensures)) in
    come-end p log c.args.order.now cut c.go_to_numbers.new.words c.go_to_numbers.new.seats.items (length c.take_turns.new.seats.items) (turned.shown.seated ∙ c.requires.threads)
    (c.in_ok-go_to_numbers.ensures (after_turns p log cut c.args.order.now (opening p.words (length log.threads))) turned)
