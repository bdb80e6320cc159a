use Rattle.std.proofs.Common.{[], ◌∷◌, Some, None, length, length-append, ap, ◌∙◌, arith}
use Rattle.log_file.specs.Schedules.{fault, next_event, events_in}
use Rattle.log_file.specs.declared.sched_fault.SchedKind.TheVariants as kind
use Rattle.log_file.proofs.RowSteps.{rows_go_on, rows_stop, rows_end}
use Rattle.log_file.proofs.ScheduleLaws.{event_read}
use Rattle.log_file.proofs.schedule.events_of.Goals as goal

pub returns-in-None : goal.returns-in-None
returns-in-None c =
    let bytes = c.args.bytes.now in
    let before = c.loop-place.events.items in
    rw c.new.ensures
    (λ _. rows_stop (next_event bytes) before c.args.count c.loop-place.place (fault kind.Event c.loop-place.place) (events_in bytes c.args.count) c.loop-place-test.true
    (event_read bytes before c.loop-place.place c.number_at.result None c.loop-place.invariant.count c.number_at.ensures c.in-None.ensures) c.loop-place.invariant.read)

pub loop-place-preserved : goal.loop-place-preserved
loop-place-preserved c =
    let bytes = c.args.bytes.now in
    let before = c.loop-place.events.items in
    let event = c.in-Some.event in
    record {
      read = rw c.in_ok-push-in-Some.ensures.items
          (rows_go_on (next_event bytes) before c.args.count c.loop-place.place event (events_in bytes c.args.count) c.loop-place-test.true
          (event_read bytes before c.loop-place.place c.number_at.result (Some event) c.loop-place.invariant.count c.number_at.ensures c.in-Some.ensures) c.loop-place.invariant.read);
      count = ap length c.in_ok-push-in-Some.ensures.items ∙ omega (arith, length-append before (event ∷ []), c.loop-place.invariant.count);
    }

pub returns : goal.returns
returns c =
    rows_end (next_event c.args.bytes.now) c.loop-place.events.items c.args.count c.loop-place.place (events_in c.args.bytes.now c.args.count) c.loop-place-test.false c.loop-place.invariant.read
