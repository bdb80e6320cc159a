use Rattle.std.proofs.Common.{ℕ, ◌<◌, length, get_or, arith, subst, ◌∙◌}
use Rattle.std.proofs.lemmas.List.{get_or_read}
use Rattle.order_judge.proofs.Filling.{Filled, node_at, filled-twice, filled-missing, filled-all}
use Rattle.order_judge.proofs.places.places_of.Goals as goal

pub returns-then-place : goal.returns-then-place
returns-then-place c =
    let n = c.loop-k.invariant.count in
    let within : get_or c.args.order.now c.loop-k.k 0 < length c.loop-k.places.items =
    omega (arith, node_at c.args.nodes c.args.order.now c.loop-k.invariant.known c.loop-k.k c.loop-k-test.true) in
    filled-twice c.args.nodes c.args.order.now c.loop-k.places.items c.loop-k.k c.loop-k.invariant c.loop-k-test.true
    (λ e. c.if-place.true (get_or_read c.loop-k.places.items _ c.index_mut-place.result.now within c.index_mut-place.ensures.value 0 ∙ e))

pub returns-in-Some-first_unplaced : goal.returns-in-Some-first_unplaced
returns-in-Some-first_unplaced c =
    let n = c.loop-k.invariant.count in
    let (l, h, before) = rw c.deref.ensures.value at c.in-Some-first_unplaced.ensures in
    filled-missing c.args.nodes c.args.order.now c.loop-k.places.items _
    (subst (λ (k : ℕ). Filled c.args.nodes c.args.order.now c.loop-k.places.items k) (omega arith) c.loop-k.invariant)
    (omega arith) (omega (arith, l)) h before

pub returns-in-None : goal.returns-in-None
returns-in-None c =
    let n = c.loop-k.invariant.count in
    let h = rw c.deref.ensures.value at c.in-None.ensures in
    filled-all c.args.nodes c.args.order.now c.loop-k.places.items
    (subst (λ (k : ℕ). Filled c.args.nodes c.args.order.now c.loop-k.places.items k) (omega arith) c.loop-k.invariant)
    (λ x l. h x (omega (arith, l)))
