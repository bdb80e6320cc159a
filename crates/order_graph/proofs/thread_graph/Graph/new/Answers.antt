use Rattle.std.proofs.Common.{◌≡◌, ℕ, ◌*◌, List, [], ◌++◌, length, replicate, refl, sym, ◌∙◌, ap, subst, arith}
use Rattle.std.specs.Prelude.{Option, Some, None}
use Rattle.std.specs.Option.{SomeIff}
use Rattle.plain_search.specs.declared.Edge.{Edge}
use Rattle.order_graph.specs.Shapes.{shape, lanes_of}
use Rattle.order_graph.specs.Clocks.{IsExact}
use Rattle.order_graph.specs.Graphs.{IsGraph}
use Rattle.order_graph.proofs.Orders.{room-at, exact-back, back, linked-at}
use Rattle.order_graph.proofs.Linking.{linked-none}
use Rattle.order_graph.proofs.Lanes.{room-new, graph-new}
use Rattle.order_graph.proofs.thread_graph.Graph.new.Goals as goal

some_value : (o : Option ℕ) (P : Type 0) (v x : ℕ) → SomeIff o P v → o ≡ Some x → x ≡ v
some_value None P v x h e = cc
some_value (Some y) P v x h e = let (p, q) = h in cc

pub compute-requires : goal.compute-requires
compute-requires c =
    let size = sym c.in_ok-clocks.clocks.ok.0 ∙ c.in_ok-clocks.ensures.len ∙ some_value c.checked_mul.result _ _ c.in_ok-size.size c.checked_mul.ensures c.in_ok-size.ensures.ok_part
    ∙ ap (λ (n : ℕ). n * length c.args.counts.now) (c.len.ensures ∙ c.in_ok-lanes.lanes.ok.0 ∙ ap length c.in_ok-lanes.ensures) in
    room-at (length c.args.counts.now) (lanes_of c.args.counts.now) c.deref.result.now [] c.deref-2.result.now (length c.in_ok-clocks.clocks.items) (length c.deref_mut.result.now)
    (c.deref.ensures.value ∙ c.in_ok-lanes.ensures) (c.deref-2.ensures.value ∙ c.new-edges.ensures.items) (ap length c.deref_mut.ensures.value)
    (room-new c.args.counts.now (length c.in_ok-clocks.clocks.items) c.requires size)

pub invariant_of-result : goal.invariant_of-result
invariant_of-result c = (
  record {
    laid = c.in_ok-lanes.ensures ∙ sym (ap lanes_of counts);
    graph = subst (λ (z : List ℕ). IsGraph (shape c.in_ok-lanes.lanes.items c.new-edges.result.items) (length c.extend_from_slice.new.self.items) z)
        (sym (back c.in_ok-clocks.clocks.len c.in_ok-clocks.clocks.items c.deref_mut.result.now c.compute.new.clocks c.deref_mut.ensures.len c.deref_mut.ensures.value c.compute.auto.clocks))
        (subst (λ (z : List ℕ). IsGraph (shape c.in_ok-lanes.lanes.items c.new-edges.result.items) (length z) c.compute.new.clocks) (sym counts)
        (subst (λ (z : List Edge). IsGraph (shape c.in_ok-lanes.lanes.items z) (length c.args.counts.now) c.compute.new.clocks) (sym c.new-edges.ensures.items)
        (subst (λ (z : List ℕ). IsGraph (shape z []) (length c.args.counts.now) c.compute.new.clocks) (sym c.in_ok-lanes.ensures) whole)));
    linked = linked-at (length c.in_ok-lanes.lanes.items) (length c.in_ok-lanes.lanes.items) [] c.new-edges.result.items c.in_ok-heads.heads.items c.in_ok-heads.heads.items [] c.new.result.items
        refl c.new-edges.ensures.items refl c.new.ensures.items
        (linked-none (length c.in_ok-lanes.lanes.items) c.in_ok-heads.heads.items (c.in_ok-heads.ensures.items_if_clones_equal (λ y e. e) ∙ ap (λ (n : ℕ). replicate n 0) (c.len-2.ensures ∙ c.in_ok-lanes.lanes.ok.0)));
  },
  fronts,
  (let h = c.new-edges.ensures.len in omega (arith, h)),
  (let h = c.new.ensures.len in omega (arith, h)),
)
  where
    size : length c.in_ok-clocks.clocks.items ≡ length (lanes_of c.args.counts.now) * length c.args.counts.now
    size = sym c.in_ok-clocks.clocks.ok.0 ∙ c.in_ok-clocks.ensures.len ∙ some_value c.checked_mul.result _ _ c.in_ok-size.size c.checked_mul.ensures c.in_ok-size.ensures.ok_part
        ∙ ap (λ (n : ℕ). n * length c.args.counts.now) (c.len.ensures ∙ c.in_ok-lanes.lanes.ok.0 ∙ ap length c.in_ok-lanes.ensures)

    counts : c.extend_from_slice.new.self.items ≡ c.args.counts.now
    counts = c.in_ok-extend_from_slice.ensures.items ∙ ap (λ (z : List ℕ). z ++ c.args.counts.now) c.in_ok-own_counts.ensures.items

    fronts : length c.in_ok-fronts.fronts.items ≡ length c.extend_from_slice.new.self.items
    fronts = sym c.in_ok-fronts.fronts.ok.0 ∙ c.in_ok-fronts.ensures.len ∙ ap length (sym counts)

    exact : IsExact (shape (lanes_of c.args.counts.now) []) (length c.args.counts.now) c.compute.new.clocks
    exact = exact-back (length c.args.counts.now) (lanes_of c.args.counts.now) c.deref.result.now [] c.deref-2.result.now c.compute.new.clocks
        (c.deref.ensures.value ∙ c.in_ok-lanes.ensures) (c.deref-2.ensures.value ∙ c.new-edges.ensures.items) c.compute.ensures.exact

    whole : IsGraph (shape (lanes_of c.args.counts.now) []) (length c.args.counts.now) c.compute.new.clocks
    whole = graph-new c.args.counts.now c.compute.new.clocks
        (room-new c.args.counts.now (length c.compute.new.clocks) c.requires (c.compute.auto.clocks ∙ ap length c.deref_mut.ensures.value ∙ size)) exact
