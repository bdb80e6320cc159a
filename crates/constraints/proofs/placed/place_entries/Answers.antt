use Rattle.std.proofs.Common.{List, sym, subst}
use Rattle.std.specs.Prelude.{All}
use Rattle.light_base.specs.declared.tag.Event.{Event}
use Rattle.constraints.specs.Positions.{event_list}
use Rattle.constraints.specs.Building.{HasEvents}
use Rattle.constraints.proofs.Naming.{item_thread, of_thread_entries}
use Rattle.constraints.proofs.Placing.{entries_listed, listed-as, few-as, place_more}
use Rattle.constraints.proofs.placed.place_entries.Goals as goal

pub place_thread-requires-clause-order : goal.place_thread-requires-clause-order
place_thread-requires-clause-order c = listed-as c.args.log.now c.args.events.now c.requires

pub place_thread-requires-clause-small : goal.place_thread-requires-clause-small
place_thread-requires-clause-small c = few-as c.args.log.now c.args.events.now c.threads-thread-items.ensures.rules c.requires

pub place_thread-requires-clause-listed : goal.place_thread-requires-clause-listed
place_thread-requires-clause-listed c =
    let (l, e) = item_thread c.args.log.now c.threads-thread-items.result.now c.loop-t.t c.thread-item.result c.threads-thread-items.ensures.value c.loop-t-test.true c.thread-item.is in
    let P : List Event → Type 0 = λ events. All (HasEvents events c.loop-t.t) c.entries.result.now in
    subst P (sym c.requires)
    (of_thread_entries (All (HasEvents (event_list c.args.log.now) c.loop-t.t)) c.args.log.now c.loop-t.t c.thread-item.result c.entries.result.now e c.entries.ensures
    (entries_listed c.args.log.now c.threads-thread-items.ensures.rules c.loop-t.t))

pub loop-t-preserved : goal.loop-t-preserved
loop-t-preserved c =
    let (l, e) = item_thread c.args.log.now c.threads-thread-items.result.now c.loop-t.t c.thread-item.result c.threads-thread-items.ensures.value c.loop-t-test.true c.thread-item.is in
    place_more c.args.log.now c.loop-t.t c.thread-item.result c.entries.result.now c.args.events.now c.loop-t.placed.items c.place_thread.new.placed.items e c.entries.ensures c.requires c.loop-t.invariant c.in_ok-place_thread.ensures
