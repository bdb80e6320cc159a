-- Which front may be placed next.
use Rattle.std.proofs.Common.{◌≡◌, ℕ, zero, suc, ◌<◌, ◌≤◌, eqb, List, length, sym, ◌∙◌, ap, subst, arith, inl, inr, ◌⊎◌}
use Rattle.std.specs.Prelude.{Contains, slice_index, ◌↔◌}
use Rattle.std.specs.List.{IsDistinct}
use Rattle.std.proofs.lemmas.Bool.{cases_eq, cases_lt}
use Rattle.plain_search.specs.declared.Edge.{Edge}
use Rattle.plain_search.specs.Edges.{LeadsTo}
use Rattle.plain_search.proofs.Walks.{reaches-trans, reaches-walk, walk-reaches}
use Rattle.plain_search.proofs.Rankings.{no_loop-acyclic, acyclic-ranked, reaches-rises}
use Rattle.order_graph.specs.Clocks.{clock}
use Rattle.order_graph.specs.Orders.{IsReady}
use Rattle.order_graph.specs.Fronts.{HasLanes, IsClocked, front_of, HasFront, Blocks, IsOpenFront}

-- of each thread the nodes below its front are placed, and no others
pub record IsPlaced (lanes fronts out : List ℕ) : Type 0 where
  pub placed : (w : ℕ) → w < length lanes → Contains out w ↔ (w < front_of fronts (slice_index lanes w))
  pub front : (w : ℕ) → w < length lanes → front_of fronts (slice_index lanes w) ≤ w → slice_index lanes (front_of fronts (slice_index lanes w)) ≡ slice_index lanes w
  pub nodes : (w : ℕ) → Contains out w → w < length lanes
  pub distinct : IsDistinct eqb out

-- a front is not placed
pub front-new : (lanes fronts out : List ℕ) (t : ℕ) → IsPlaced lanes fronts out → HasFront lanes fronts t → Contains out (front_of fronts t) → ⊥
front-new lanes fronts out t p (l, e) c =
    let a = (p.placed (front_of fronts t) l).0 c in
    let b = ap (λ (s : ℕ). front_of fronts s) e in
    absurd (omega (arith, a, b))

-- the front of a node's thread, where the node is not placed
pub front-of : (lanes fronts out : List ℕ) (w : ℕ) → IsPlaced lanes fronts out → w < length lanes → front_of fronts (slice_index lanes w) ≤ w → HasFront lanes fronts (slice_index lanes w)
front-of lanes fronts out w p l m = (omega (arith, l, m), p.front w l m)

-- it is that node or leads to it
pub front-leads : (threads : ℕ) (lanes clocks : List ℕ) (edges : List Edge) (fronts out : List ℕ) (u v : ℕ) → IsClocked threads lanes clocks edges → IsPlaced lanes fronts out → u < length lanes →
    front_of fronts (slice_index lanes u) ≤ u → LeadsTo edges u v → LeadsTo edges (front_of fronts (slice_index lanes u)) v
front-leads threads lanes clocks edges fronts out u v k p l m w = go (cases_lt (front_of fronts (slice_index lanes u)) u)
  where
    join : LeadsTo edges (front_of fronts (slice_index lanes u)) u → LeadsTo edges (front_of fronts (slice_index lanes u)) v
    join q = reaches-walk edges (front_of fronts (slice_index lanes u)) v
        (reaches-trans edges (front_of fronts (slice_index lanes u)) u v (walk-reaches edges (front_of fronts (slice_index lanes u)) q.0 u q.1) (walk-reaches edges u w.0 v w.1))

    go : (front_of fronts (slice_index lanes u) < u) ⊎ (u ≤ front_of fronts (slice_index lanes u)) → LeadsTo edges (front_of fronts (slice_index lanes u)) v
    go (inl s) = join (k.chains (front_of fronts (slice_index lanes u)) u s l (p.front u l m))
    go (inr s) = let e : u ≡ front_of fronts (slice_index lanes u) = omega (arith, m, s) in subst (λ (x : ℕ). LeadsTo edges x v) e w

-- what an open front leads from is placed
pub open-ready : (threads : ℕ) (lanes clocks : List ℕ) (size : ℕ) (edges : List Edge) (fronts out : List ℕ) (t : ℕ) → HasLanes threads lanes size → IsClocked threads lanes clocks edges → IsPlaced lanes fronts out →
    IsOpenFront threads lanes clocks fronts t → IsReady edges (length lanes) out (front_of fronts t)
open-ready threads lanes clocks size edges fronts out t h k p o = record {
  node = o.front.0;
  new = front-new lanes fronts out t p o.front;
  after = λ u w. after u w (k.node u (front_of fronts t) w) (cases_lt u (front_of fronts (slice_index lanes u)));
}
  where
    after : (u : ℕ) → LeadsTo edges u (front_of fronts t) → u < length lanes → (u < front_of fronts (slice_index lanes u)) ⊎ (front_of fronts (slice_index lanes u) ≤ u) → Contains out u
    after u w l (inl s) = (p.placed u l).1 s
    after u w l (inr s) = absurd (go (cases_eq (slice_index lanes u) t))
      where
        leads : LeadsTo edges (front_of fronts (slice_index lanes u)) (front_of fronts t)
        leads = front-leads threads lanes clocks edges fronts out u (front_of fronts t) k p l s w

        front : HasFront lanes fronts (slice_index lanes u)
        front = front-of lanes fronts out u p l s

        go : (slice_index lanes u ≡ t) ⊎ (slice_index lanes u ≡ t → ⊥) → ⊥
        go (inl e) = k.loops (front_of fronts t) (subst (λ (s : ℕ). LeadsTo edges (front_of fronts s) (front_of fronts t)) e leads)
        go (inr ne) =
            let apart : front_of fronts (slice_index lanes u) ≡ front_of fronts t → ⊥ = λ e. ne (sym front.1 ∙ ap (λ (x : ℕ). slice_index lanes x) e ∙ o.front.1) in
            let c = (k.told (front_of fronts (slice_index lanes u)) (front_of fronts t) front.0 o.front.0 apart).1 leads in
            o.free (slice_index lanes u) (h.lane u l) (ne, front, subst (λ (s : ℕ). clock threads clocks (front_of fronts (slice_index lanes u)) s ≤ front_of fronts t) o.front.1 c)

-- the front of a ready node's thread is open
pub ready-open : (threads : ℕ) (lanes clocks : List ℕ) (size : ℕ) (edges : List Edge) (fronts out : List ℕ) (w : ℕ) → HasLanes threads lanes size → IsClocked threads lanes clocks edges → IsPlaced lanes fronts out →
    IsReady edges (length lanes) out w → IsOpenFront threads lanes clocks fronts (slice_index lanes w) × (front_of fronts (slice_index lanes w) ≤ w)
ready-open threads lanes clocks size edges fronts out w h k p r = go (cases_lt w (front_of fronts (slice_index lanes w)))
  where
    go : (w < front_of fronts (slice_index lanes w)) ⊎ (front_of fronts (slice_index lanes w) ≤ w) → IsOpenFront threads lanes clocks fronts (slice_index lanes w) × (front_of fronts (slice_index lanes w) ≤ w)
    go (inl s) = absurd (r.new ((p.placed w r.node).1 s))
    go (inr s) = (record { front = front; free = free }, s)
      where
        front : HasFront lanes fronts (slice_index lanes w)
        front = front-of lanes fronts out w p r.node s

        further : (x : ℕ) → LeadsTo edges x (front_of fronts (slice_index lanes w)) → LeadsTo edges x w
        further x q = at (cases_lt (front_of fronts (slice_index lanes w)) w)
          where
            at : (front_of fronts (slice_index lanes w) < w) ⊎ (w ≤ front_of fronts (slice_index lanes w)) → LeadsTo edges x w
            at (inl l) =
                let c = k.chains (front_of fronts (slice_index lanes w)) w l r.node front.1 in
                reaches-walk edges x w (reaches-trans edges x (front_of fronts (slice_index lanes w)) w (walk-reaches edges x q.0 (front_of fronts (slice_index lanes w)) q.1)
                (walk-reaches edges (front_of fronts (slice_index lanes w)) c.0 w c.1))
            at (inr l) = let e : front_of fronts (slice_index lanes w) ≡ w = omega (arith, l, s) in subst (λ (y : ℕ). LeadsTo edges x y) e q

        free : (s : ℕ) → s < threads → Blocks threads lanes clocks fronts s (slice_index lanes w) → ⊥
        free s l (ne, other, c) =
            let apart : front_of fronts s ≡ front_of fronts (slice_index lanes w) → ⊥ = λ e. ne (sym other.1 ∙ ap (λ (x : ℕ). slice_index lanes x) e ∙ front.1) in
            let told : LeadsTo edges (front_of fronts s) (front_of fronts (slice_index lanes w)) =
            (k.told (front_of fronts s) (front_of fronts (slice_index lanes w)) other.0 front.0 apart).0
            (subst (λ (y : ℕ). clock threads clocks (front_of fronts s) y ≤ front_of fronts (slice_index lanes w)) (sym front.1) c) in
            front-new lanes fronts out s p other (r.after (front_of fronts s) (further (front_of fronts s) told))

-- the first open front is the least node that may be next
pub first-least : (threads : ℕ) (lanes clocks : List ℕ) (size : ℕ) (edges : List Edge) (fronts out : List ℕ) (t w : ℕ) → HasLanes threads lanes size → IsClocked threads lanes clocks edges → IsPlaced lanes fronts out →
    HasFront lanes fronts t → ((s : ℕ) → s < t → IsOpenFront threads lanes clocks fronts s → ⊥) → IsReady edges (length lanes) out w → front_of fronts t ≤ w
first-least threads lanes clocks size edges fronts out t w h k p front none r = go (ready-open threads lanes clocks size edges fronts out w h k p r) (cases_lt (slice_index lanes w) t) (cases_eq (slice_index lanes w) t)
  where
    go : IsOpenFront threads lanes clocks fronts (slice_index lanes w) × (front_of fronts (slice_index lanes w) ≤ w) → (slice_index lanes w < t) ⊎ (t ≤ slice_index lanes w) →
        (slice_index lanes w ≡ t) ⊎ (slice_index lanes w ≡ t → ⊥) → front_of fronts t ≤ w
    go (o, s) (inl l) e = absurd (none (slice_index lanes w) l o)
    go (o, s) (inr l) (inl e) = let q = ap (λ (x : ℕ). front_of fronts x) e in omega (arith, s, q)
    go (o, s) (inr l) (inr ne) = at (cases_lt w (front_of fronts t))
      where
        at : (w < front_of fronts t) ⊎ (front_of fronts t ≤ w) → front_of fronts t ≤ w
        at (inl m) = let a = h.rising w (front_of fronts t) (omega (arith, m)) front.0 in let b = front.1 in absurd (ne (omega (arith, a, b, l)))
        at (inr m) = m

-- where no front is open, all nodes are placed: of those that are left, the front of the least rank would be open
pub none-left : (threads : ℕ) (lanes clocks : List ℕ) (size : ℕ) (edges : List Edge) (fronts out : List ℕ) → HasLanes threads lanes size → IsClocked threads lanes clocks edges → IsPlaced lanes fronts out →
    ((s : ℕ) → s < threads → IsOpenFront threads lanes clocks fronts s → ⊥) → (v : ℕ) → v < length lanes → Contains out v
none-left threads lanes clocks size edges fronts out h k p none v l =
    let (rank, holds) = acyclic-ranked edges (no_loop-acyclic edges (λ x r. k.loops x (reaches-walk edges x x r))) in
    below rank (λ x y w. reaches-rises rank edges x y holds (walk-reaches edges x w.0 y w.1)) (suc (rank v)) v l (omega arith)
  where
    below : (rank : ℕ → ℕ) → ((x y : ℕ) → LeadsTo edges x y → rank x < rank y) → (bound w : ℕ) → w < length lanes → rank w < bound → Contains out w
    below rank up zero w m r = absurd (omega (arith, r))
    below rank up (suc bound) w m r = go (below rank up bound) (cases_lt w (front_of fronts (slice_index lanes w)))
      where
        go : ((x : ℕ) → x < length lanes → rank x < bound → Contains out x) → (w < front_of fronts (slice_index lanes w)) ⊎ (front_of fronts (slice_index lanes w) ≤ w) → Contains out w
        go ih (inl s) = (p.placed w m).1 s
        go ih (inr s) = absurd (none (slice_index lanes w) (h.lane w m) (record { front = front; free = free }))
          where
            front : HasFront lanes fronts (slice_index lanes w)
            front = front-of lanes fronts out w p m s

            rise : rank (front_of fronts (slice_index lanes w)) ≤ rank w
            rise = at (cases_lt (front_of fronts (slice_index lanes w)) w)
              where
                at : (front_of fronts (slice_index lanes w) < w) ⊎ (w ≤ front_of fronts (slice_index lanes w)) → rank (front_of fronts (slice_index lanes w)) ≤ rank w
                at (inl q) = let u = up (front_of fronts (slice_index lanes w)) w (k.chains (front_of fronts (slice_index lanes w)) w q m front.1) in omega (arith, u)
                at (inr q) = let e : rank (front_of fronts (slice_index lanes w)) ≡ rank w = ap rank (omega (arith, q, s)) in omega (arith, e)

            free : (t : ℕ) → t < threads → Blocks threads lanes clocks fronts t (slice_index lanes w) → ⊥
            free t n (ne, other, c) =
                let apart : front_of fronts t ≡ front_of fronts (slice_index lanes w) → ⊥ = λ e. ne (sym other.1 ∙ ap (λ (x : ℕ). slice_index lanes x) e ∙ front.1) in
                let told : LeadsTo edges (front_of fronts t) (front_of fronts (slice_index lanes w)) =
                (k.told (front_of fronts t) (front_of fronts (slice_index lanes w)) other.0 front.0 apart).0
                (subst (λ (y : ℕ). clock threads clocks (front_of fronts t) y ≤ front_of fronts (slice_index lanes w)) (sym front.1) c) in
                let u = up (front_of fronts t) (front_of fronts (slice_index lanes w)) told in
                front-new lanes fronts out t p other (ih (front_of fronts t) other.0 (omega (arith, u, rise, r)))
