use Rattle.std.proofs.Common.{◌≡◌, ℕ, List, Option, Some, None, get_or, refl, sym, subst, arith}
use Rattle.light_base.specs.declared.tag.Event.{Event}
use Rattle.schedule_check.specs.Turns.{at}
use Rattle.schedule_check.proofs.Turning.{IsOnTop, nearest_none, nearest_more}
use Rattle.schedule_check.proofs.turns.first_overtaken.Goals as goal
use Rattle.schedule_check.proofs.turns.first_overtaken.Goals.{in-Some+else-event-order, in_default}

no_one : (order : List Event) (j : ℕ) (found : Option ℕ) → ((i : ℕ) → found ≡ Some i → ⊥) → IsOnTop order j found
no_one order j None h = tt
no_one order j (Some i) h = absurd (h i refl)

pub loop-j-init : goal.loop-j-init
loop-j-init c = nearest_none c.args.order.now

pub loop-j-preserved : goal.loop-j-preserved
loop-j-preserved c =
    nearest_more c.args.order.now c.loop-j.j c.loop-j.nearest (omega arith) c.loop-j.invariant
    (elim c.match-nearest-thread.branch [
      | in-Some+else-event-order w ↦ subst (IsOnTop c.args.order.now c.loop-j.j) (sym w.in-Some.is) w.if-event-order.false
      | in_default w ↦ no_one c.args.order.now c.loop-j.j (get_or c.loop-j.nearest (at c.args.order.now c.loop-j.j).thread None) w.in_default.not-Some
    ])
