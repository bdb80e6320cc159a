use Rattle.std.proofs.Common.{length, sym, ◌∙◌, ap, arith}
use Rattle.order_graph.proofs.Kept.{lanes-at, order-at}
use Rattle.order_graph.proofs.thread_graph.Graph.order.Goals as goal

pub place_all-requires : goal.place_all-requires
place_all-requires c =
    let threads = c.len-3.ensures ∙ c.self.inside.counts.ok.0 in
    let lanes = c.deref.ensures.value in
    record {
      room = lanes-at c.self.inside.counts.items c.self.inside.lanes.items c.deref.result.now c.self.inside.clocks.items c.deref-2.result.now c.self.inside.edges.items c.self.inside.heads.items c.self.inside.older.items
          c.len-3.result c.self.invariant.0 threads lanes c.deref-2.ensures.value;
      fronts = ap length c.deref_mut.ensures.value ∙ sym c.in_ok-fronts.fronts.ok.0 ∙ c.in_ok-fronts.ensures.len ∙ c.len.ensures ∙ sym c.len-3.ensures;
      empty = c.in_ok-out.ensures.items;
      space = (let a = ap length lanes in let b = c.self.inside.lanes.ok.0 in let d = c.len-2.ensures in let e = c.in_ok-out.ensures.capacity in omega (arith, a, b, d, e));
    }

pub returns : goal.returns
returns c = order-at c.args.self.now c.self.inside.counts.items c.self.inside.lanes.items c.deref.result.now c.self.inside.edges.items c.self.inside.spare c.self.inside.clocks.items c.deref-2.result.now
    c.self.inside.heads.items c.self.inside.older.items c.place_all.new.out.items c.len-3.result c.self.view_is c.self.invariant.0 (c.len-3.ensures ∙ c.self.inside.counts.ok.0)
    c.deref.ensures.value c.deref-2.ensures.value c.place_all.ensures
