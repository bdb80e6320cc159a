use Rattle.std.proofs.Common.{◌≡◌, ◌↔◌, List, map, Result, Ok, Err, IfOk, sym, ◌∙◌, ap, subst, arith}
use Rattle.light_base.specs.declared.memory.Memory.{Memory}
use Rattle.light_base.specs.declared.tag.Event.{Event}
use Rattle.replay_model.specs.Logs.{Log}
use Rattle.replay_model.specs.Orders.{place, Respects}
use Rattle.replay_model.specs.WellFormed.{IsWellFormed}
use Rattle.order_judge.specs.Places.{IsPlacing}
use Rattle.constraints.proofs.Placing.{listed-as, few-as}
use Rattle.schedule_check.specs.declared.faults.Verdict.{Verdict}
use Rattle.schedule_check.specs.declared.faults.Verdict.TheVariants as verdict
use Rattle.schedule_check.specs.Faults.{verdict_of}
use Rattle.schedule_check.specs.Placed.{IsPlaced}
use Rattle.schedule_check.proofs.Openings.{IsIndexed, verdict_unknown, verdict_twice, verdict_missing, all_placed, respects_told}
use Rattle.schedule_check.proofs.checking.check.Goals as goal

pub positions_of-requires-clause-order : goal.positions_of-requires-clause-order
positions_of-requires-clause-order c = listed-as c.args.log.now c.deref.result.now (c.deref.ensures.value ∙ c.in_ok-events.ensures.value)

pub positions_of-requires-clause-small : goal.positions_of-requires-clause-small
positions_of-requires-clause-small c = few-as c.args.log.now c.deref.result.now c.in_ok-events.ensures.rules (c.deref.ensures.value ∙ c.in_ok-events.ensures.value)

pub overflow_cast-len : goal.overflow_cast-len
overflow_cast-len c =
    let few = few-as c.args.log.now c.in_ok-events.events.items c.in_ok-events.ensures.rules c.in_ok-events.ensures.value in
    let n = c.len.ensures in
    omega (arith, few, n)

pub check_placed-requires-clause-placed : goal.check_placed-requires-clause-placed
check_placed-requires-clause-placed c =
    let i : IsIndexed c.args.log.now c.args.order.now c.in_ok-events.events.items c.deref-2.result.now c.len.result = record {
      formed = c.in_ok-events.ensures.rules;
      listed = c.in_ok-events.ensures.value;
      indexed = c.deref-2.ensures.value ∙ c.in_ok-positions.ensures ∙ ap (λ (es : List Event). map (place es) c.args.order.now) c.deref.ensures.value;
      counted = omega arith;
    } in
    let p = all_placed c.args.log.now c.args.order.now c.in_ok-events.events.items c.deref-2.result.now c.len.result c.in-Placed.places i
    (subst (IsPlacing c.len.result c.deref-2.result.now) c.in-Placed.is c.in_ok-places.ensures) c.requires in
    let P : List Event → Type 0 = λ es. IsPlaced c.args.log.now c.args.order.now es c.in-Placed.places.items in
    subst (IsPlaced c.args.log.now c.args.order.now c.deref-in-Placed.result.now) (sym c.deref-in-Placed-2.ensures.value) (subst P (sym c.deref-in-Placed.ensures.value) p)

told_all : (log : Log) (order : List Event) (answer : Result Verdict Memory) → IsWellFormed log → IfOk answer (λ given. given ≡ verdict_of log order) → IfOk answer (λ given. (given ≡ verdict.Respects) ↔ Respects log order)
told_all log order (Ok given) formed e = respects_told log order given formed e
told_all log order (Err e) formed h = h

pub returns-in-Placed-clause-respects : goal.returns-in-Placed-clause-respects
returns-in-Placed-clause-respects c = told_all c.args.log.now c.args.order.now c.check_placed.result c.in_ok-events.ensures.rules c.check_placed.ensures

pub returns-in-Unknown-clause-first : goal.returns-in-Unknown-clause-first
returns-in-Unknown-clause-first c =
    let i : IsIndexed c.args.log.now c.args.order.now c.in_ok-events.events.items c.deref-2.result.now c.len.result = record {
      formed = c.in_ok-events.ensures.rules;
      listed = c.in_ok-events.ensures.value;
      indexed = c.deref-2.ensures.value ∙ c.in_ok-positions.ensures ∙ ap (λ (es : List Event). map (place es) c.args.order.now) c.deref.ensures.value;
      counted = omega arith;
    } in
    c.fault.ensures ∙
    verdict_unknown c.args.log.now c.args.order.now c.in_ok-events.events.items c.deref-2.result.now c.len.result c.in-Unknown.k i
    (subst (IsPlacing c.len.result c.deref-2.result.now) c.in-Unknown.is c.in_ok-places.ensures)

pub returns-in-Unknown-clause-respects : goal.returns-in-Unknown-clause-respects
returns-in-Unknown-clause-respects c =
    let i : IsIndexed c.args.log.now c.args.order.now c.in_ok-events.events.items c.deref-2.result.now c.len.result = record {
      formed = c.in_ok-events.ensures.rules;
      listed = c.in_ok-events.ensures.value;
      indexed = c.deref-2.ensures.value ∙ c.in_ok-positions.ensures ∙ ap (λ (es : List Event). map (place es) c.args.order.now) c.deref.ensures.value;
      counted = omega arith;
    } in
    respects_told c.args.log.now c.args.order.now c.fault.result c.in_ok-events.ensures.rules
    (c.fault.ensures ∙
    verdict_unknown c.args.log.now c.args.order.now c.in_ok-events.events.items c.deref-2.result.now c.len.result c.in-Unknown.k i
    (subst (IsPlacing c.len.result c.deref-2.result.now) c.in-Unknown.is c.in_ok-places.ensures))

pub returns-in-Twice-clause-first : goal.returns-in-Twice-clause-first
returns-in-Twice-clause-first c =
    let i : IsIndexed c.args.log.now c.args.order.now c.in_ok-events.events.items c.deref-2.result.now c.len.result = record {
      formed = c.in_ok-events.ensures.rules;
      listed = c.in_ok-events.ensures.value;
      indexed = c.deref-2.ensures.value ∙ c.in_ok-positions.ensures ∙ ap (λ (es : List Event). map (place es) c.args.order.now) c.deref.ensures.value;
      counted = omega arith;
    } in
    c.fault-in-Twice.ensures ∙
    verdict_twice c.args.log.now c.args.order.now c.in_ok-events.events.items c.deref-2.result.now c.len.result c.in-Twice.k i
    (subst (IsPlacing c.len.result c.deref-2.result.now) c.in-Twice.is c.in_ok-places.ensures)

pub returns-in-Twice-clause-respects : goal.returns-in-Twice-clause-respects
returns-in-Twice-clause-respects c =
    let i : IsIndexed c.args.log.now c.args.order.now c.in_ok-events.events.items c.deref-2.result.now c.len.result = record {
      formed = c.in_ok-events.ensures.rules;
      listed = c.in_ok-events.ensures.value;
      indexed = c.deref-2.ensures.value ∙ c.in_ok-positions.ensures ∙ ap (λ (es : List Event). map (place es) c.args.order.now) c.deref.ensures.value;
      counted = omega arith;
    } in
    respects_told c.args.log.now c.args.order.now c.fault-in-Twice.result c.in_ok-events.ensures.rules
    (c.fault-in-Twice.ensures ∙
    verdict_twice c.args.log.now c.args.order.now c.in_ok-events.events.items c.deref-2.result.now c.len.result c.in-Twice.k i
    (subst (IsPlacing c.len.result c.deref-2.result.now) c.in-Twice.is c.in_ok-places.ensures))

pub returns-clause-first : goal.returns-clause-first
returns-clause-first c =
    let i : IsIndexed c.args.log.now c.args.order.now c.in_ok-events.events.items c.deref-2.result.now c.len.result = record {
      formed = c.in_ok-events.ensures.rules;
      listed = c.in_ok-events.ensures.value;
      indexed = c.deref-2.ensures.value ∙ c.in_ok-positions.ensures ∙ ap (λ (es : List Event). map (place es) c.args.order.now) c.deref.ensures.value;
      counted = omega arith;
    } in
    c.fault-in-Missing.ensures ∙
    verdict_missing c.args.log.now c.args.order.now c.in_ok-events.events.items c.deref-2.result.now c.len.result c.in-Missing.k i
    (subst (IsPlacing c.len.result c.deref-2.result.now) c.in-Missing.is c.in_ok-places.ensures)

pub returns-clause-respects : goal.returns-clause-respects
returns-clause-respects c =
    let i : IsIndexed c.args.log.now c.args.order.now c.in_ok-events.events.items c.deref-2.result.now c.len.result = record {
      formed = c.in_ok-events.ensures.rules;
      listed = c.in_ok-events.ensures.value;
      indexed = c.deref-2.ensures.value ∙ c.in_ok-positions.ensures ∙ ap (λ (es : List Event). map (place es) c.args.order.now) c.deref.ensures.value;
      counted = omega arith;
    } in
    respects_told c.args.log.now c.args.order.now c.fault-in-Missing.result c.in_ok-events.ensures.rules
    (c.fault-in-Missing.ensures ∙
    verdict_missing c.args.log.now c.args.order.now c.in_ok-events.events.items c.deref-2.result.now c.len.result c.in-Missing.k i
    (subst (IsPlacing c.len.result c.deref-2.result.now) c.in-Missing.is c.in_ok-places.ensures))
