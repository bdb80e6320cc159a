use Rattle.std.proofs.Common.{◌∙◌, ap, sym, length}
use Rattle.std.specs.Prelude.{slice_index_or}
use Rattle.std.proofs.lemmas.List.{length-set}
use Rattle.replay_model.specs.Steps.{Event}
use Rattle.audit.proofs.Going.{turns-next, turns-end}
use Rattle.audit.proofs.turns.turns_of.Goals as goal

pub loop-event-preserved : goal.loop-event-preserved
loop-event-preserved c =
    let e : Event = slice_index_or c.args.order.now c.loop-event.event-index (record { thread = 0; step = 0 }) in (
      ap length c.in_ok-go_on.ensures.taken ∙ length-set c.loop-event.taken.items e.thread e.step ∙ c.loop-event.invariant.0,
      turns-next c.loop-event.turns.items c.loop-event.taken.items c.go_on.new.turns.items c.go_on.new.taken.items c.args.order.now c.loop-event.event-index
          (record { thread = 0; step = 0 }) c.in_ok-go_on.ensures.turns c.in_ok-go_on.ensures.taken c.loop-event-test.true ∙ c.loop-event.invariant.1,
    )

pub returns : goal.returns
returns c =
    sym (turns-end c.loop-event.turns.items c.loop-event.taken.items c.args.order.now c.loop-event.event-index c.loop-event-test.false) ∙ c.loop-event.invariant.1
