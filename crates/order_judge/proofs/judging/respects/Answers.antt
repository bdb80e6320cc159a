use Rattle.std.proofs.Common.{sum, subst}
use Rattle.std.proofs.lemmas.Bool.{both_ways}
use Rattle.order_judge.specs.Places.{IsPlacing}
use Rattle.order_judge.proofs.Judged.{IsPlaced, edges-fit, respects-rising}
use Rattle.order_judge.proofs.Verdicts.{not-placed, turns-decide}
use Rattle.order_judge.proofs.judging.respects.Goals as goal

pub returns-in_default : goal.returns-in_default
returns-in_default c =
    (λ f. absurd (cc f), λ r. absurd (not-placed _ c.args.order.now _ (rw c.nodes_of.ensures at c.in_ok-places.ensures) c.in_default.not-Placed r.each_once))

pub returns-then-not-all_rise : goal.returns-then-not-all_rise
returns-then-not-all_rise c =
    let placing = subst (IsPlacing _ c.args.order.now) c.in-Placed.is (rw c.nodes_of.ensures at c.in_ok-places.ensures) in
    let p : IsPlaced (sum c.args.counts.now) c.args.reads.now c.args.order.now c.in-Placed.places.items = record { is_order = placing.0; places_of = placing.1; fits = c.requires.reads } in
    let fits = edges-fit c.args.counts.now c.args.edges.now c.requires.edges in (
      λ f. absurd (cc f),
      λ r. absurd (both_ways _ c.if-not-all_rise.true
          ((rw c.deref.ensures.value at c.all_rise.ensures).1 (respects-rising c.args.counts.now c.args.edges.now c.args.reads.now c.args.order.now c.in-Placed.places.items p fits r))),
    )

pub returns : goal.returns
returns c =
    let placing = subst (IsPlacing _ c.args.order.now) c.in-Placed.is (rw c.nodes_of.ensures at c.in_ok-places.ensures) in
    let p : IsPlaced (sum c.args.counts.now) c.args.reads.now c.args.order.now c.in-Placed.places.items = record { is_order = placing.0; places_of = placing.1; fits = c.requires.reads } in
    turns-decide c.args.counts.now c.args.edges.now c.args.reads.now c.args.order.now c.in-Placed.places.items c.take_turns.result p (edges-fit c.args.counts.now c.args.edges.now c.requires.edges)
    ((rw c.deref.ensures.value at c.all_rise.ensures).0 c.if-not-all_rise.false) (rw c.deref-2.ensures.value at c.take_turns.ensures)
