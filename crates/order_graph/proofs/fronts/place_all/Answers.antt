use Rattle.std.proofs.Common.{ℕ, ◌+◌, List, length, set, refl, sym, ap, subst, arith}
use Rattle.std.proofs.lemmas.List.{length_push}
use Rattle.order_graph.specs.Fronts.{front_of}
use Rattle.order_graph.proofs.Ready.{IsPlaced, open-ready, first-least, none-left}
use Rattle.order_graph.proofs.Placed.{IsOrdered, placed-none, placed-more, placed-space, ordered-none, ordered-more, ordered-all}
use Rattle.order_graph.proofs.fronts.place_all.Goals as goal

pub loop-thread-init : goal.loop-thread-init
loop-thread-init c = record {
  placed = subst (λ (z : List ℕ). IsPlaced c.args.lanes.now c.start.new.fronts z) (sym c.requires.empty) (placed-none c.args.lanes.now c.start.new.fronts c.start.ensures);
  ordered = λ edges k. subst (λ (z : List ℕ). IsOrdered edges (length c.args.lanes.now) z) (sym c.requires.empty) (ordered-none edges (length c.args.lanes.now));
  space = c.requires.space;
}

pub push_reserved-requires : goal.push_reserved-requires
push_reserved-requires c =
    let (l, o, none) = c.in-Some.ensures in
    let k = c.loop-thread.auto.fronts in
    let j = c.start.auto.fronts in
    let f = c.requires.fronts in
    let m = placed-space c.args.threads c.args.lanes.now (length c.args.clocks.now) c.loop-thread.fronts c.loop-thread.out.items c.in-Some.thread c.requires.room c.loop-thread.invariant.placed o.front (omega (arith, l, k, j, f)) in
    let s = c.loop-thread.invariant.space in
    let n = c.loop-thread.out.ok.0 in
    omega (arith, m, s, n)

pub loop-thread-smaller : goal.loop-thread-smaller
loop-thread-smaller c =
    let (l, o, none) = c.in-Some.ensures in
    let k = c.loop-thread.auto.fronts in
    let j = c.start.auto.fronts in
    let f = c.requires.fronts in
    let m = placed-space c.args.threads c.args.lanes.now (length c.args.clocks.now) c.loop-thread.fronts c.loop-thread.out.items c.in-Some.thread c.requires.room c.loop-thread.invariant.placed o.front (omega (arith, l, k, j, f)) in
    let e = ap length c.push_reserved.ensures.items in
    let n = length_push c.loop-thread.out.items (front_of c.loop-thread.fronts c.in-Some.thread) in
    omega (arith, m, e, n)

pub loop-thread-preserved : goal.loop-thread-preserved
loop-thread-preserved c =
    let (l, o, none) = c.in-Some.ensures in
    let k = c.loop-thread.auto.fronts in
    let j = c.start.auto.fronts in
    let f = c.requires.fronts in
    let i = c.loop-thread.invariant in
    let e = c.push_reserved.ensures.items in
    let front : ℕ = front_of c.loop-thread.fronts c.in-Some.thread in
    record {
      placed = subst (λ (z : List ℕ). IsPlaced c.args.lanes.now (set c.loop-thread.fronts c.in-Some.thread (front + 1)) z) (sym {A = List ℕ} e)
          (placed-more c.args.threads c.args.lanes.now (length c.args.clocks.now) c.loop-thread.fronts c.loop-thread.out.items c.in-Some.thread (front + 1) c.requires.room i.placed o.front (omega (arith, l, k, j, f)) refl);
      ordered = λ edges clocked. subst (λ (z : List ℕ). IsOrdered edges (length c.args.lanes.now) z) (sym {A = List ℕ} e)
          (ordered-more edges (length c.args.lanes.now) c.loop-thread.out.items front (i.ordered edges clocked)
          (open-ready c.args.threads c.args.lanes.now c.args.clocks.now (length c.args.clocks.now) edges c.loop-thread.fronts c.loop-thread.out.items c.in-Some.thread c.requires.room clocked i.placed o)
          (λ w r. first-least c.args.threads c.args.lanes.now c.args.clocks.now (length c.args.clocks.now) edges c.loop-thread.fronts c.loop-thread.out.items c.in-Some.thread w c.requires.room clocked i.placed o.front none r));
      space = (let s = i.space in let q = c.push_reserved.ensures.capacity in omega (arith, s, q));
    }

pub returns : goal.returns
returns c = λ edges clocked.
    ordered-all edges (length c.args.lanes.now) c.loop-thread.out.items (c.loop-thread.invariant.ordered edges clocked)
    (none-left c.args.threads c.args.lanes.now c.args.clocks.now (length c.args.clocks.now) edges c.loop-thread.fronts c.loop-thread.out.items c.requires.room clocked c.loop-thread.invariant.placed c.in_default.ensures)
