use Rattle.std.proofs.Common.{ℕ, ◌<◌, List, [], ◌∷◌, ◌++◌, length, refl, sym, ◌∙◌, ap, subst, arith}
use Rattle.std.proofs.lemmas.List.{length_push}
use Rattle.plain_search.specs.declared.Edge.{Edge}
use Rattle.order_graph.specs.Shapes.{shape, Leads}
use Rattle.order_graph.specs.Links.{AreLinked}
use Rattle.order_graph.specs.Clocks.{HasRoom, IsOpening, IsExact}
use Rattle.order_graph.specs.Carrying.{IsClosedBut}
use Rattle.order_graph.specs.Graphs.{GraphState, IsGraph, IsKept}
use Rattle.order_graph.proofs.Kept.{nodes-kept, shut-laid}
use Rattle.order_graph.proofs.Orders.{room-at, room-with, inserted-at, linked-at, step-at, closed-but, graph-with, opening-with, back}
use Rattle.order_graph.proofs.thread_graph.Graph.put.Goals as goal

pub link-requires-clause-linked : goal.link-requires-clause-linked
link-requires-clause-linked c =
    let k = c.self.invariant.0 in
    linked-at (length c.self.inside.lanes.items) (length c.self.inside.heads.items) c.self.inside.edges.items c.self.inside.edges.items c.self.inside.heads.items c.self.inside.heads.items c.self.inside.older.items c.self.inside.older.items
    k.linked.heads_size refl refl refl k.linked

pub link-requires-clause-to : goal.link-requires-clause-to
link-requires-clause-to c =
    let k = c.self.invariant.0 in
    let n = nodes-kept c.args.self.now c.self.inside.counts.items c.self.inside.lanes.items c.self.inside.edges.items c.self.inside.spare c.self.inside.clocks.items c.self.inside.heads.items c.self.inside.older.items c.self.view_is k in
    let v = c.requires.to in
    let e = k.linked.heads_size in omega (arith, n, v, e)

pub insert-requires : goal.insert-requires
insert-requires c =
    let k = c.self.invariant.0 in
    let n = nodes-kept c.args.self.now c.self.inside.counts.items c.self.inside.lanes.items c.self.inside.edges.items c.self.inside.spare c.self.inside.clocks.items c.self.inside.heads.items c.self.inside.older.items c.self.view_is k in
    let u : c.args.edge.from < length c.self.inside.lanes.items = (let m = c.requires.from in omega (arith, n, m)) in
    let v : c.args.edge.to < length c.self.inside.lanes.items = (let m = c.requires.to in omega (arith, n, m)) in
    let lanes = c.deref.ensures.value in
    let edges = c.deref-2.ensures.value ∙ c.link.ensures.items in
    let threads = c.len.ensures ∙ c.self.inside.counts.ok.0 in
    record {
      room = subst (λ (t : ℕ). HasRoom t c.deref.result.now c.deref-2.result.now (length c.deref_mut.result.now)) (sym threads)
          (room-at (length c.self.inside.counts.items) c.self.inside.lanes.items c.deref.result.now (c.self.inside.edges.items ++ c.args.edge ∷ []) c.deref-2.result.now (length c.self.inside.clocks.items) (length c.deref_mut.result.now)
          lanes edges (ap length c.deref_mut.ensures.value)
          (room-with (length c.self.inside.counts.items) c.self.inside.lanes.items c.self.inside.edges.items (length c.self.inside.clocks.items) c.args.edge.from c.args.edge.to k.graph.room u v));
      linked = linked-at (length c.self.inside.heads.items) (length c.deref.result.now) c.link.new.edges.items c.deref-2.result.now c.link.new.heads.items c.deref-3.result.now c.link.new.older.items c.deref-4.result.now
          (ap length lanes ∙ sym k.linked.heads_size) c.deref-2.ensures.value c.deref-3.ensures.value c.deref-4.ensures.value c.link.ensures.linked;
      from = subst (λ (l : List ℕ). c.args.edge.from < length l) (sym lanes) u;
      to = subst (λ (l : List ℕ). c.args.edge.to < length l) (sym lanes) v;
      step = step-at c.self.inside.lanes.items c.deref.result.now c.self.inside.edges.items c.deref-2.result.now c.args.edge.from c.args.edge.to lanes edges;
    }

pub invariant_of-self : goal.invariant_of-self
invariant_of-self c =
    let k = c.self.invariant.0 in
    let n = nodes-kept c.args.self.now c.self.inside.counts.items c.self.inside.lanes.items c.self.inside.edges.items c.self.inside.spare c.self.inside.clocks.items c.self.inside.heads.items c.self.inside.older.items c.self.view_is k in
    let u : c.args.edge.from < length c.self.inside.lanes.items = (let m = c.requires.from in omega (arith, n, m)) in
    let v : c.args.edge.to < length c.self.inside.lanes.items = (let m = c.requires.to in omega (arith, n, m)) in
    let threads = c.len.ensures ∙ c.self.inside.counts.ok.0 in
    let old = shape c.self.inside.lanes.items c.self.inside.edges.items in
    let shut : Leads old c.args.edge.to c.args.edge.from → ⊥ =
    shut-laid c.args.self.now c.self.inside.counts.items c.self.inside.lanes.items c.self.inside.edges.items c.self.inside.spare c.self.inside.clocks.items c.self.inside.heads.items c.self.inside.older.items
    c.args.edge.from c.args.edge.to c.self.view_is k c.requires.shut in
    let edges = c.deref-2.ensures.value ∙ c.link.ensures.items in
    let inserted = subst (λ (t : ℕ). IsOpening (shape c.deref.result.now c.deref-2.result.now) t c.deref_mut.result.now → IsClosedBut (shape c.deref.result.now c.deref-2.result.now) t c.args.edge.from c.args.edge.to c.deref_mut.result.now →
    IsExact (shape c.deref.result.now c.deref-2.result.now) t c.insert.new.clocks) threads c.insert.ensures.exact in
    let exact = inserted-at (length c.self.inside.counts.items) c.self.inside.lanes.items c.deref.result.now (c.self.inside.edges.items ++ c.args.edge ∷ []) c.deref-2.result.now c.deref_mut.result.now c.self.inside.clocks.items c.insert.new.clocks
    c.args.edge.from c.args.edge.to c.deref.ensures.value edges c.deref_mut.ensures.value inserted
    (opening-with old (length c.self.inside.counts.items) c.self.inside.clocks.items c.args.edge.from c.args.edge.to k.graph.exact.opening)
    (closed-but old (length c.self.inside.counts.items) c.self.inside.clocks.items c.args.edge.from c.args.edge.to k.graph.exact.closed) in
    let whole : IsGraph (shape c.self.inside.lanes.items (c.self.inside.edges.items ++ c.args.edge ∷ [])) (length c.self.inside.counts.items) c.insert.new.clocks =
    graph-with old (length c.self.inside.counts.items) c.self.inside.clocks.items c.insert.new.clocks c.args.edge.from c.args.edge.to k.graph u v shut (c.insert.auto.clocks ∙ ap length c.deref_mut.ensures.value) exact in
    let kept : IsKept c.self.inside.counts.items c.self.inside.lanes.items c.link.new.edges.items _ c.link.new.heads.items c.link.new.older.items = record {
      laid = k.laid;
      graph = subst (λ (z : List ℕ). IsGraph (shape c.self.inside.lanes.items c.link.new.edges.items) (length c.self.inside.counts.items) z)
          (sym (back c.self.inside.clocks.len c.self.inside.clocks.items c.deref_mut.result.now c.insert.new.clocks c.deref_mut.ensures.len c.deref_mut.ensures.value c.insert.auto.clocks))
          (subst (λ (z : List Edge). IsGraph (shape c.self.inside.lanes.items z) (length c.self.inside.counts.items) c.insert.new.clocks) (sym c.link.ensures.items) whole);
      linked = subst (λ (m : ℕ). AreLinked m c.link.new.edges.items c.link.new.heads.items c.link.new.older.items) k.linked.heads_size c.link.ensures.linked;
    } in
    let s = c.self.invariant.2 in
    let o = c.self.invariant.3 in
    let p = c.requires.spare in
    let w = ap (λ (g : GraphState). g.spare) c.self.view_is in
    let a = ap length c.link.ensures.items in
    let h = c.link.new.edges.ok.0 in
    let i = c.link.new.older.ok.0 in
    let b = c.self.inside.edges.ok.0 in
    let d = c.self.inside.older.ok.0 in
    let m = length_push c.self.inside.edges.items c.args.edge in
    let f = kept.linked.older_size in
    let z = k.linked.older_size in
    let er = c.link.ensures.edge_room in
    let ol = c.link.ensures.older_room in
    (kept, c.self.invariant.1, omega (arith, s, p, w, a, h, b, m, er), omega (arith, o, p, w, a, i, b, d, m, f, z, ol))
