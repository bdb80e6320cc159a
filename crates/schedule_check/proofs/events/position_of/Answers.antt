use Rattle.std.proofs.Common.{◌≡◌, get_or, true, sym, ◌∙◌, subst, arith, rules}
use Rattle.std.proofs.lemmas.Bool.{both_ways}
use Rattle.std.proofs.lemmas.List.{get_or_default}
use Rattle.std.proofs.lemmas.List.Sorted.{IsPartitionPoint-from_clause}
use Rattle.light_base.specs.declared.tag.Event.{Event}
use Rattle.replay_model.specs.Steps.{same_event}
use Rattle.replay_model.proofs.Tags.{same_event-true, same_event-same}
use Rattle.constraints.specs.Positions.{is_before}
use Rattle.constraints.specs.Positions.{no_event}
use Rattle.constraints.proofs.Listing.{listed-partitioned}
use Rattle.schedule_check.proofs.Indices.{IsPoint, point-found, point-none}
use Rattle.schedule_check.proofs.events.position_of.Goals as goal
use Rattle.schedule_check.proofs.events.position_of.Goals.{else-position-events-via-then-position-events+else-eq, else-position-events-via-else-position-events}

pub returns-then-eq : goal.returns-then-eq
returns-then-eq c =
    let p : IsPoint c.args.events.now c.args.event.now c.partition_point-position.result =
    IsPartitionPoint-from_clause (λ (x : Event). is_before x c.args.event.now) c.args.events.now c.partition_point-position.result c.partition_point-position.ensures.partitioned
    (listed-partitioned c.args.events.now c.args.event.now c.requires.order) (λ a r f' k. search rules) in
    point-found c.args.events.now c.args.event.now c.partition_point-position.result c.requires.order c.if-position-events.true p
    (get_or_default c.args.events.now c.partition_point-position.result c.args.event.now no_event c.if-position-events.true ∙
    same_event-true (get_or c.args.events.now c.partition_point-position.result no_event) c.args.event.now (sym c.if-eq.ensures))

pub returns-else-position-events : goal.returns-else-position-events
returns-else-position-events c =
    let p : IsPoint c.args.events.now c.args.event.now c.partition_point-position.result =
    IsPartitionPoint-from_clause (λ (x : Event). is_before x c.args.event.now) c.args.events.now c.partition_point-position.result c.partition_point-position.ensures.partitioned
    (listed-partitioned c.args.events.now c.args.event.now c.requires.order) (λ a r f' k. search rules) in
    point-none c.args.events.now c.args.event.now c.partition_point-position.result c.requires.order c.partition_point-position.ensures.bound p
    (elim c.else-position-events.branch [
      | else-position-events-via-then-position-events+else-eq w ↦ λ l e.
          let P : Event → Type 0 = λ x. same_event x c.args.event.now ≡ true in
          both_ways _ (sym w.if-eq.ensures)
          (subst P (sym (sym (get_or_default c.args.events.now c.partition_point-position.result c.args.event.now no_event l) ∙ e)) (same_event-same c.args.event.now))
      | else-position-events-via-else-position-events w ↦ λ l e. let m = w.if-position-events.false in absurd (omega (arith, l, m))
    ])
