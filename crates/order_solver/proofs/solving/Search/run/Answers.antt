use Rattle.std.proofs.Common.{◌<◌, ◌∙◌, List, length, sym, ap, subst, arith}
use Rattle.std.specs.Prelude.{Ok}
use Rattle.light_base.specs.declared.tag.Event.{Event}
use Rattle.replay_model.specs.Logs.{Log}
use Rattle.replay_model.specs.Orders.{Respects}
use Rattle.constraints.specs.Constraints.{dead, side_edges_of}
use Rattle.order_solver.specs.declared.finding.Finding.{Finding}
use Rattle.order_solver.specs.Logs.{rivalry_of}
use Rattle.order_solver.specs.Findings.{Finds}
use Rattle.order_solver.specs.Prepared.{most_side_edges}
use Rattle.order_solver.specs.Solving.{IsFound}
use Rattle.order_solver.proofs.Spending.{on_err}
use Rattle.order_solver.proofs.OfOrders.{rivals_of, lacks_many, line_within, line_short, line_found, none_found, never_found, spent_found}
use Rattle.order_solver.proofs.solving.Search.run.Goals as goal

pub returns-then-impossible-clause-solved : goal.returns-then-impossible-clause-solved
returns-then-impossible-clause-solved c =
    subst (λ (l : Log). (order : List Event) → Respects l order → ⊥) c.self.view_is (never_found c.self.inside.problem.now c.events-events.ensures.rules (sym c.impossible.ensures ∙ c.if-impossible.true))

pub search_line-requires-clause-rivals : goal.search_line-requires-clause-rivals
search_line-requires-clause-rivals c = rivals_of c.self.inside.problem.now c.events-events.ensures.rules

pub returns-in_err-line-clause-memory : goal.returns-in_err-line-clause-memory
returns-in_err-line-clause-memory c = on_err _ _ c.from_residual.ensures.0
    (subst (λ (l : Log). most_side_edges < side_edges_of l) c.self.view_is (lacks_many c.self.inside.problem.now c.self.inside.prepared c.self.invariant.1 c.in_err-line.ensures.memory))

pub put_events-requires-clause-within : goal.put_events-requires-clause-within
put_events-requires-clause-within c = line_within c.self.inside.problem.now c.in-Line.line.items c.deref.result.now c.events-events.result.now
    (subst (λ (f : Finding). Finds (rivalry_of c.self.inside.problem.now) c.args.budget (Ok f)) c.in-Line.is c.in_ok-line.ensures.finds) c.events-events.ensures.value c.deref.ensures.value

pub put_events-requires-clause-room : goal.put_events-requires-clause-room
put_events-requires-clause-room c =
    let a = line_short c.self.inside.problem.now c.in-Line.line.items (subst (λ (f : Finding). Finds (rivalry_of c.self.inside.problem.now) c.args.budget (Ok f)) c.in-Line.is c.in_ok-line.ensures.finds) in
    let b = ap length c.deref.ensures.value in
    let r = c.self.invariant.3 in omega (arith, a, b, r)

pub returns-in-Line-clause-solved : goal.returns-in-Line-clause-solved
returns-in-Line-clause-solved c =
    subst (λ (l : Log). IsFound l c.put_events.new.order.items) c.self.view_is
    (line_found c.self.inside.problem.now c.in-Line.line.items c.deref.result.now c.events-events.result.now c.put_events.new.order.items
    c.events-events.ensures.rules (sym c.impossible.ensures ∙ c.if-impossible.false) (subst (λ (f : Finding). Finds (rivalry_of c.self.inside.problem.now) c.args.budget (Ok f)) c.in-Line.is c.in_ok-line.ensures.finds) c.events-events.ensures.value c.deref.ensures.value c.put_events.ensures)

pub returns-in-None-clause-solved : goal.returns-in-None-clause-solved
returns-in-None-clause-solved c =
    subst (λ (l : Log). (order : List Event) → Respects l order → ⊥) c.self.view_is (none_found c.self.inside.problem.now c.events-events.ensures.rules (subst (λ (f : Finding). Finds (rivalry_of c.self.inside.problem.now) c.args.budget (Ok f)) c.in-None.is c.in_ok-line.ensures.finds))

pub returns-in-Spent-clause-solved : goal.returns-in-Spent-clause-solved
returns-in-Spent-clause-solved c =
    subst (λ (l : Log). c.args.budget < dead l) c.self.view_is (spent_found c.self.inside.problem.now c.args.budget (sym c.impossible.ensures ∙ c.if-impossible.false) (subst (λ (f : Finding). Finds (rivalry_of c.self.inside.problem.now) c.args.budget (Ok f)) c.in-Spent.is c.in_ok-line.ensures.finds))
