-- What a graph keeps, as it is seen.
use Rattle.std.proofs.Common.{◌≡◌, ℕ, ◌+◌, ◌*◌, ◌<◌, List, [], ◌∷◌, ◌++◌, length, get_or, leb, sym, ◌∙◌, ap, subst, arith, inl, inr}
use Rattle.std.specs.Prelude.{sum, ◌↔◌, IsTrue, All, Contains}
use Rattle.plain_search.specs.declared.Edge.{Edge}
use Rattle.plain_search.specs.Edges.{IsOrLeadsTo}
use Rattle.order_graph.specs.Shapes.{shape, arrow, lanes_of, IsStep, IsWalk, Leads}
use Rattle.order_graph.specs.Clocks.{HasRoom}
use Rattle.order_graph.specs.Orders.{IsOrder}
use Rattle.order_graph.specs.Fronts.{HasLanes, IsClocked}
use Rattle.order_graph.specs.Graphs.{GraphState, graph_state, nodes_of, edges_of, chains_from, IsGraph, IsKept}
use Rattle.std.proofs.lemmas.List.{get_or_read}
use Rattle.std.proofs.lemmas.List.Elements.{All-weaker, All-contains_itself}
use Rattle.order_graph.proofs.Lanes.{length-lanes_from}
use Rattle.order_graph.proofs.Sweeping.{clock_fits}
use Rattle.order_graph.proofs.Orders.{leads-test, before-of, before-clock}
use Rattle.order_graph.proofs.Walks.{chain-before}
use Rattle.order_graph.proofs.Chains.{contained-step, before-leads, leads-before, is_or-leads, leads-is_or}

pub nodes-kept : (state : GraphState) (counts lanes : List ℕ) (added : List Edge) (spare : ℕ) (clocks heads older : List ℕ) → graph_state counts added spare ≡ state → IsKept counts lanes added clocks heads older →
    nodes_of state ≡ length lanes
nodes-kept state counts lanes added spare clocks heads older e k = sym (ap (λ (g : GraphState). sum g.counts) e) ∙ sym (length-lanes_from 0 counts) ∙ sym (ap length k.laid)

-- the graph by the threads of its nodes
pub graph-laid : (counts lanes : List ℕ) (added : List Edge) (clocks heads older : List ℕ) → IsKept counts lanes added clocks heads older → IsGraph (shape (lanes_of counts) added) (length counts) clocks
graph-laid counts lanes added clocks heads older k = subst (λ (l : List ℕ). IsGraph (shape l added) (length counts) clocks) k.laid k.graph

-- the one comparison
pub leads-kept : (state : GraphState) (counts lanes : List ℕ) (added : List Edge) (spare : ℕ) (clocks heads older : List ℕ) (u v lane cell : ℕ) → graph_state counts added spare ≡ state →
    IsKept counts lanes added clocks heads older → u < length lanes → v < length lanes → lane ≡ get_or lanes v lane → cell ≡ get_or clocks (u * length counts + lane) cell →
    (IsTrue (leb cell v)) ↔ IsOrLeadsTo (edges_of state) u v
leads-kept state counts lanes added spare clocks heads older u v lane cell e k a b l h =
    subst (λ (g : GraphState). (IsTrue (leb cell v)) ↔ IsOrLeadsTo (edges_of g) u v) e (λ t. there (test.0 t), λ p. test.1 (back p))
  where
    test : (IsTrue (leb cell v)) ↔ Leads (shape lanes added) u v
    test = leads-test (shape lanes added) (length counts) clocks u v lane cell k.graph a b l h

    there : Leads (shape lanes added) u v → IsOrLeadsTo (chains_from 0 counts ++ added) u v
    there p = is_or-leads counts added u v (subst (λ (z : List ℕ). Leads (shape z added) u v) k.laid p)

    back : IsOrLeadsTo (chains_from 0 counts ++ added) u v → Leads (shape lanes added) u v
    back p = subst (λ (z : List ℕ). Leads (shape z added) u v) (sym k.laid) (leads-is_or counts added u v p)

-- the place of a node's clock for a thread is there
pub clock-kept : (counts lanes : List ℕ) (added : List Edge) (clocks heads older : List ℕ) (u v lane : ℕ) → IsKept counts lanes added clocks heads older → u < length lanes → v < length lanes →
    lane ≡ get_or lanes v lane → u * length counts + lane < length clocks
clock-kept counts lanes added clocks heads older u v lane k a b l =
    let f = clock_fits (length counts) lanes added (length clocks) u k.graph.room a in
    let m = k.graph.room.lane v b in
    let e = get_or_read lanes v lane b l 0 in
    omega (arith, f, m, e)

pub place-kept : (state : GraphState) (counts lanes : List ℕ) (added : List Edge) (spare : ℕ) (clocks heads older : List ℕ) (u v lane threads : ℕ) → graph_state counts added spare ≡ state →
    IsKept counts lanes added clocks heads older → u < nodes_of state → v < nodes_of state → lane ≡ get_or lanes v lane → threads ≡ length counts → u * threads + lane < length clocks
place-kept state counts lanes added spare clocks heads older u v lane threads e k a b l t =
    let n = nodes-kept state counts lanes added spare clocks heads older e k in
    let m = clock-kept counts lanes added clocks heads older u v lane k (omega (arith, n, a)) (omega (arith, n, b)) l in
    subst (λ (x : ℕ). u * x + lane < length clocks) (sym t) m

-- one more edge that closes no cycle
pub shut-laid : (state : GraphState) (counts lanes : List ℕ) (added : List Edge) (spare : ℕ) (clocks heads older : List ℕ) (u v : ℕ) → graph_state counts added spare ≡ state →
    IsKept counts lanes added clocks heads older → (IsOrLeadsTo (edges_of state) v u → ⊥) → Leads (shape lanes added) v u → ⊥
shut-laid state counts lanes added spare clocks heads older u v e k shut l =
    shut (subst (λ (g : GraphState). IsOrLeadsTo (edges_of g) v u) e (is_or-leads counts added v u (subst (λ (z : List ℕ). Leads (shape z added) v u) k.laid l)))

pub lanes-room : (counts lanes : List ℕ) (added : List Edge) (clocks heads older : List ℕ) → IsKept counts lanes added clocks heads older → HasLanes (length counts) lanes (length clocks)
lanes-room counts lanes added clocks heads older k = record { nodes_few = k.graph.room.nodes_few; lane = k.graph.room.lane; rising = k.graph.rising; places = k.graph.room.places }

step-begins : (threads : ℕ) (lanes : List ℕ) (added : List Edge) (size u v : ℕ) → HasRoom threads lanes added size → IsStep (shape lanes added) u v → u < length lanes
step-begins threads lanes added size u v h (inl c) = (h.ends u v c).0
step-begins threads lanes added size u v h (inr s) = let a = s.next in let b = s.node in omega (arith, a, b)

-- a walk begins at a node
walk-begins : (threads : ℕ) (lanes : List ℕ) (added : List Edge) (size u : ℕ) (between : List ℕ) (v : ℕ) → HasRoom threads lanes added size → IsWalk (shape lanes added) u between v → u < length lanes
walk-begins threads lanes added size u [] v h s = step-begins threads lanes added size u v h s
walk-begins threads lanes added size u (m ∷ between) v h (s, w) = step-begins threads lanes added size u m h s

-- the clocks tell what leads where
clocked-laid : (counts : List ℕ) (added : List Edge) (clocks : List ℕ) → IsGraph (shape (lanes_of counts) added) (length counts) clocks → IsClocked (length counts) (lanes_of counts) clocks (chains_from 0 counts ++ added)
clocked-laid counts added clocks g = record {
  chains = λ u v l n e. before-leads counts added u v (chain-before (shape (lanes_of counts) added) g.rising u v l n e);
  node = λ u v w. (let p = leads-before counts added u v w in walk-begins (length counts) (lanes_of counts) added (length clocks) u p.between v g.room p.walk);
  loops = λ v w. g.acyclic v (leads-before counts added v v w);
  told = λ u v a b ne. (
    λ l. before-leads counts added u v (before-of (shape (lanes_of counts) added) (length counts) clocks u v g a b ne l),
    λ w. before-clock (shape (lanes_of counts) added) (length counts) clocks u v g b (leads-before counts added u v w),
  );
}

pub clocked-kept : (state : GraphState) (counts lanes : List ℕ) (added : List Edge) (spare : ℕ) (clocks heads older : List ℕ) → graph_state counts added spare ≡ state → IsKept counts lanes added clocks heads older →
    IsClocked (length counts) lanes clocks (edges_of state)
clocked-kept state counts lanes added spare clocks heads older e k =
    subst (λ (g : GraphState). IsClocked (length counts) lanes clocks (edges_of g)) e
    (subst (λ (l : List ℕ). IsClocked (length counts) l clocks (chains_from 0 counts ++ added)) (sym k.laid) (clocked-laid counts added clocks (graph-laid counts lanes added clocks heads older k)))

-- what placing all nodes asks, and what it gives, of parts that are the graph's
pub lanes-at : (counts lanes lanes' clocks clocks' : List ℕ) (added : List Edge) (heads older : List ℕ) (threads : ℕ) → IsKept counts lanes added clocks heads older → threads ≡ length counts → lanes' ≡ lanes → clocks' ≡ clocks →
    HasLanes threads lanes' (length clocks')
lanes-at counts lanes lanes' clocks clocks' added heads older threads k t l s =
    subst (λ (n : ℕ). HasLanes n lanes' (length clocks')) (sym t)
    (subst (λ (z : List ℕ). HasLanes (length counts) z (length clocks')) (sym l)
    (subst (λ (z : List ℕ). HasLanes (length counts) lanes (length z)) (sym s) (lanes-room counts lanes added clocks heads older k)))

pub order-at : (state : GraphState) (counts lanes lanes' : List ℕ) (added : List Edge) (spare : ℕ) (clocks clocks' heads older order : List ℕ) (threads : ℕ) → graph_state counts added spare ≡ state →
    IsKept counts lanes added clocks heads older → threads ≡ length counts → lanes' ≡ lanes → clocks' ≡ clocks →
    ((edges : List Edge) → IsClocked threads lanes' clocks' edges → IsOrder edges (length lanes') order) → IsOrder (edges_of state) (nodes_of state) order
order-at state counts lanes lanes' added spare clocks clocks' heads older order threads e k t l s all =
    let clocked : IsClocked threads lanes' clocks' (edges_of state) =
    subst (λ (n : ℕ). IsClocked n lanes' clocks' (edges_of state)) (sym t)
    (subst (λ (z : List ℕ). IsClocked (length counts) z clocks' (edges_of state)) (sym l)
    (subst (λ (z : List ℕ). IsClocked (length counts) lanes z (edges_of state)) (sym s) (clocked-kept state counts lanes added spare clocks heads older e k))) in
    subst (λ (n : ℕ). IsOrder (edges_of state) n order) (ap length l ∙ sym (nodes-kept state counts lanes added spare clocks heads older e k)) (all (edges_of state) clocked)

step-ends : (threads : ℕ) (lanes : List ℕ) (added : List Edge) (size u v : ℕ) → HasRoom threads lanes added size → IsStep (shape lanes added) u v → (u < length lanes) × (v < length lanes)
step-ends threads lanes added size u v h (inl c) = h.ends u v c
step-ends threads lanes added size u v h (inr s) = let a = s.next in let b = s.node in (omega (arith, a, b), b)

-- edges are between nodes
pub ends-kept : (state : GraphState) (counts lanes : List ℕ) (added : List Edge) (spare : ℕ) (clocks heads older : List ℕ) → graph_state counts added spare ≡ state → IsKept counts lanes added clocks heads older →
    All (λ (edge : Edge). (edge.from < nodes_of state) × (edge.to < nodes_of state)) (edges_of state)
ends-kept state counts lanes added spare clocks heads older e k =
    All-weaker (Contains (edges_of state)) (λ (edge : Edge). (edge.from < nodes_of state) × (edge.to < nodes_of state)) (λ edge c. at edge.from edge.to c) (edges_of state) (All-contains_itself (edges_of state))
  where
    n : nodes_of state ≡ length (lanes_of counts)
    n = nodes-kept state counts lanes added spare clocks heads older e k ∙ ap length k.laid

    at : (u v : ℕ) → Contains (edges_of state) (arrow u v) → (u < nodes_of state) × (v < nodes_of state)
    at u v c =
        let s = contained-step counts added u v (subst (λ (g : GraphState). Contains (edges_of g) (arrow u v)) (sym e) c) in
        let (a, b) = step-ends (length counts) (lanes_of counts) added (length clocks) u v (graph-laid counts lanes added clocks heads older k).room s in
        let m = n in (omega (arith, a, m), omega (arith, b, m))
