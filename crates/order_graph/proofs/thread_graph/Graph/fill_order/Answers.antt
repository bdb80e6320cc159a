use Rattle.std.proofs.Common.{length, sym, ◌∙◌, ap, arith}
use Rattle.order_graph.proofs.Orders.{back}
use Rattle.order_graph.proofs.Kept.{nodes-kept, lanes-at, order-at}
use Rattle.order_graph.proofs.thread_graph.Graph.fill_order.Goals as goal

pub place_all-requires : goal.place_all-requires
place_all-requires c =
    let k = c.self.invariant.0 in
    let threads = c.len.ensures ∙ c.self.inside.counts.ok.0 in
    let lanes = c.deref.ensures.value in
    record {
      room = lanes-at c.self.inside.counts.items c.self.inside.lanes.items c.deref.result.now c.self.inside.clocks.items c.deref-2.result.now c.self.inside.edges.items c.self.inside.heads.items c.self.inside.older.items
          c.len.result k threads lanes c.deref-2.ensures.value;
      fronts = ap length c.deref_mut.ensures.value ∙ c.self.invariant.1 ∙ sym threads;
      empty = c.requires.empty;
      space = (
          let n = nodes-kept c.args.self.now c.self.inside.counts.items c.self.inside.lanes.items c.self.inside.edges.items c.self.inside.spare c.self.inside.clocks.items c.self.inside.heads.items c.self.inside.older.items c.self.view_is k in
          let a = ap length lanes in let r = c.requires.room in omega (arith, n, a, r));
    }

pub invariant_of-self : goal.invariant_of-self
invariant_of-self c =
    let same = ap length (back c.self.inside.fronts.len c.self.inside.fronts.items c.deref_mut.result.now c.place_all.new.fronts c.deref_mut.ensures.len c.deref_mut.ensures.value c.place_all.auto.fronts) in
    (c.self.invariant.0, same ∙ c.place_all.auto.fronts ∙ ap length c.deref_mut.ensures.value ∙ c.self.invariant.1, c.self.invariant.2, c.self.invariant.3)

pub returns-clause-order : goal.returns-clause-order
returns-clause-order c = order-at c.args.self.now c.self.inside.counts.items c.self.inside.lanes.items c.deref.result.now c.self.inside.edges.items c.self.inside.spare c.self.inside.clocks.items c.deref-2.result.now
    c.self.inside.heads.items c.self.inside.older.items c.place_all.new.out.items c.len.result c.self.view_is c.self.invariant.0 (c.len.ensures ∙ c.self.inside.counts.ok.0)
    c.deref.ensures.value c.deref-2.ensures.value c.place_all.ensures
