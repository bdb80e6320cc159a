use Rattle.std.proofs.Common.{ℕ, ◌≤◌, List, length, take, refl, sym, ◌∙◌, ap, subst, arith}
use Rattle.std.proofs.lemmas.List.{length-take-le}
use Rattle.plain_search.specs.declared.Edge.{Edge}
use Rattle.order_graph.specs.Shapes.{shape}
use Rattle.order_graph.specs.Clocks.{HasRoom, IsExact}
use Rattle.order_graph.specs.Links.{AreLinked}
use Rattle.order_graph.specs.Graphs.{GraphState, IsGraph, IsKept}
use Rattle.order_graph.proofs.Orders.{room-at, room-first, exact-back, graph-first, back, linked-at, ends-below}
use Rattle.order_graph.proofs.thread_graph.Graph.undo.Goals as goal

pub unlink-requires-clause-linked : goal.unlink-requires-clause-linked
unlink-requires-clause-linked c =
    let k = c.self.invariant.0.linked in
    linked-at (length c.self.inside.lanes.items) (length c.self.inside.heads.items) c.self.inside.edges.items c.self.inside.edges.items c.self.inside.heads.items c.self.inside.heads.items c.self.inside.older.items c.self.inside.older.items
    k.heads_size refl refl refl k

pub unlink-requires-clause-ends : goal.unlink-requires-clause-ends
unlink-requires-clause-ends c =
    let k = c.self.invariant.0 in
    ends-below (length c.self.inside.counts.items) c.self.inside.lanes.items c.self.inside.edges.items (length c.self.inside.clocks.items) (length c.self.inside.heads.items) k.linked.heads_size k.graph.room

pub compute-requires : goal.compute-requires
compute-requires c =
    let k = c.self.invariant.0 in
    subst (λ (t : ℕ). HasRoom t c.deref.result.now c.deref-2.result.now (length c.deref_mut.result.now)) (sym (c.len-2.ensures ∙ c.self.inside.counts.ok.0))
    (room-at (length c.self.inside.counts.items) c.self.inside.lanes.items c.deref.result.now (take c.mark.inside.edges c.self.inside.edges.items) c.deref-2.result.now (length c.self.inside.clocks.items) (length c.deref_mut.result.now)
    c.deref.ensures.value (c.deref-2.ensures.value ∙ c.unlink.ensures.items) (ap length c.deref_mut.ensures.value)
    (room-first (length c.self.inside.counts.items) c.self.inside.lanes.items c.self.inside.edges.items (length c.self.inside.clocks.items) c.mark.inside.edges k.graph.room))

pub invariant_of-self : goal.invariant_of-self
invariant_of-self c =
    let k = c.self.invariant.0 in
    let exact = exact-back (length c.self.inside.counts.items) c.self.inside.lanes.items c.deref.result.now (take c.mark.inside.edges c.self.inside.edges.items) c.deref-2.result.now c.compute.new.clocks
    c.deref.ensures.value (c.deref-2.ensures.value ∙ c.unlink.ensures.items)
    (subst (λ (t : ℕ). IsExact (shape c.deref.result.now c.deref-2.result.now) t c.compute.new.clocks) (c.len-2.ensures ∙ c.self.inside.counts.ok.0) c.compute.ensures.exact) in
    let whole : IsGraph (shape c.self.inside.lanes.items (take c.mark.inside.edges c.self.inside.edges.items)) (length c.self.inside.counts.items) c.compute.new.clocks =
    graph-first (shape c.self.inside.lanes.items c.self.inside.edges.items) (length c.self.inside.counts.items) c.self.inside.clocks.items c.compute.new.clocks c.mark.inside.edges k.graph
    (c.compute.auto.clocks ∙ ap length c.deref_mut.ensures.value) exact in
    let kept : IsKept c.self.inside.counts.items c.self.inside.lanes.items c.unlink.new.edges.items _ c.unlink.new.heads.items c.unlink.new.older.items = record {
      laid = k.laid;
      graph = subst (λ (z : List ℕ). IsGraph (shape c.self.inside.lanes.items c.unlink.new.edges.items) (length c.self.inside.counts.items) z)
          (sym (back c.self.inside.clocks.len c.self.inside.clocks.items c.deref_mut.result.now c.compute.new.clocks c.deref_mut.ensures.len c.deref_mut.ensures.value c.compute.auto.clocks))
          (subst (λ (z : List Edge). IsGraph (shape c.self.inside.lanes.items z) (length c.self.inside.counts.items) c.compute.new.clocks) (sym c.unlink.ensures.items) whole);
      linked = subst (λ (n : ℕ). AreLinked n c.unlink.new.edges.items c.unlink.new.heads.items c.unlink.new.older.items) k.linked.heads_size c.unlink.ensures.linked;
    } in
    let r : c.mark.inside.edges ≤ length c.self.inside.edges.items = (let q = c.requires in let v = c.mark.view_is in let w = ap (λ (g : GraphState). length g.added) c.self.view_is in omega (arith, q, v, w)) in
    let a = ap length c.unlink.ensures.items in
    let t = length-take-le c.mark.inside.edges c.self.inside.edges.items r in
    let n = c.len.ensures in
    let b = c.self.inside.edges.ok.0 in
    let d = c.self.inside.older.ok.0 in
    let h = c.unlink.new.edges.ok.0 in
    let i = c.unlink.new.older.ok.0 in
    let z = k.linked.older_size in
    let f = kept.linked.older_size in
    let er = c.unlink.ensures.edge_room in
    let ol = c.unlink.ensures.older_room in
    let s = c.self.invariant.2 in
    let o = c.self.invariant.3 in
    (kept, c.self.invariant.1, omega (arith, r, a, t, n, b, h, er, s), omega (arith, r, a, t, n, b, d, i, z, f, ol, o))
