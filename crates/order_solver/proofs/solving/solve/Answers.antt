use Rattle.std.proofs.Common.{sym, ◌∙◌}
use Rattle.order_solver.proofs.Lines.{if_some}
use Rattle.order_solver.proofs.OfOrders.{rivals_of, line_within, line_found, never_found}
use Rattle.order_solver.proofs.solving.solve.Goals as goal

pub returns-then-impossible : goal.returns-then-impossible
returns-then-impossible c = never_found c.args.problem.now c.events-events.ensures.rules (sym c.impossible.ensures ∙ c.if-impossible.true)

pub guess_line-requires : goal.guess_line-requires
guess_line-requires c = rivals_of c.args.problem.now c.events-events.ensures.rules

pub events_at-requires : goal.events_at-requires
events_at-requires c = line_within c.args.problem.now c.in-Ok-Some.line.items c.deref.result.now c.events-events.result.now (if_some _ _ _ c.in-Ok-Some.field-0-is c.in-Ok-Some.ensures) c.events-events.ensures.value c.deref.ensures.value

pub returns-in-Ok-Some : goal.returns-in-Ok-Some
returns-in-Ok-Some c = line_found c.args.problem.now c.in-Ok-Some.line.items c.deref.result.now c.events-events.result.now c.in_ok-events_at.field-0.items
    c.events-events.ensures.rules (sym c.impossible.ensures ∙ c.if-impossible.false) (if_some _ _ _ c.in-Ok-Some.field-0-is c.in-Ok-Some.ensures) c.events-events.ensures.value c.deref.ensures.value c.in_ok-events_at.ensures
