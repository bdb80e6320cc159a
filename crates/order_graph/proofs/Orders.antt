use Rattle.std.proofs.Common.{◌≡◌, ℕ, ◌+◌, ◌*◌, ◌<◌, ◌≤◌, List, [], ◌∷◌, ◌++◌, length, take, drop, get_or, leb, sym, ◌∙◌, ap, subst, arith, inl, inr, ◌⊎◌}
use Rattle.std.specs.Prelude.{Contains, slice_index, slice_index_or, ◌↔◌, IsTrue}
use Rattle.std.proofs.lemmas.Bool.{leb-true, le-leb}
use Rattle.std.proofs.lemmas.List.{get_or_read, drop_all, append-nil}
use Rattle.order_graph.proofs.Sweeping.{clock_fits}
use Rattle.std.proofs.lemmas.Bool.{cases_eq, cases_lt}
use Rattle.std.proofs.lemmas.List.{take_all, get_or_default}
use Rattle.std.proofs.lemmas.List.Elements.{Contains-push_cases}
use Rattle.plain_search.specs.declared.Edge.{Edge}
use Rattle.order_graph.specs.Shapes.{Shape, shape, arrow, IsStep, IsBefore, Leads, with_edge, first_edges}
use Rattle.order_graph.specs.Clocks.{none, clock, IsReached, IsOpening, IsClosed, Rises, IsExact, HasRoom}
use Rattle.order_graph.specs.Links.{end_of, AreLinked, EndsBelow}
use Rattle.order_graph.specs.Carrying.{IsClosedBut}
use Rattle.order_graph.specs.Graphs.{IsGraph}
use Rattle.order_graph.proofs.Walks.{walk-rises, before-wider, step-with, step-new, step-with_cases, step-first, acyclic-with, contains-take, chain-before, leads_before}

-- what the clock of u says of the thread of v tells whether u comes before v
pub before-of : (g : Shape) (threads : ℕ) (clocks : List ℕ) (u v : ℕ) → IsGraph g threads clocks → u < length g.lanes → v < length g.lanes → (u ≡ v → ⊥) →
    clock threads clocks u (slice_index g.lanes v) ≤ v → IsBefore g u v
before-of g threads clocks u v h a b ne l = go (h.exact.opening.sound.sound u (slice_index g.lanes v) a (h.room.lane v b))
  where
    far : Leads g u v → IsBefore g u v
    far (inl e) = absurd (ne e)
    far (inr p) = p

    join : (w : ℕ) → Leads g u w → IsBefore g w v → IsBefore g u v
    join w p q = leads_before g u w v p q

    at : (w : ℕ) → IsReached g u (slice_index g.lanes v) w → w ≤ v → (w < v) ⊎ (v ≤ w) → IsBefore g u v
    at w r k (inl s) = join w r.leads (chain-before g h.rising w v s b r.lane)
    at w r k (inr s) = let e : w ≡ v = omega (arith, k, s) in far (subst (λ (i : ℕ). Leads g u i) e r.leads)

    go : (clock threads clocks u (slice_index g.lanes v) ≡ none) ⊎ IsReached g u (slice_index g.lanes v) (clock threads clocks u (slice_index g.lanes v)) → IsBefore g u v
    go (inl e) = let few = h.room.nodes_few in absurd (omega (arith, e, l, b, few))
    go (inr r) = at (clock threads clocks u (slice_index g.lanes v)) r l (cases_lt (clock threads clocks u (slice_index g.lanes v)) v)

pub before-clock : (g : Shape) (threads : ℕ) (clocks : List ℕ) (u v : ℕ) → IsGraph g threads clocks → v < length g.lanes → IsBefore g u v →
    clock threads clocks u (slice_index g.lanes v) ≤ v
before-clock g threads clocks u v h b p =
    let t = slice_index g.lanes v in
    let m = walk-rises g (λ x. clock threads clocks x t) (λ x y s. h.exact.closed.closed x y s t (h.room.lane v b)) u p.between v p.walk in
    let o = h.exact.opening.own v b in
    omega (arith, m, o)

pub opening-with : (g : Shape) (threads : ℕ) (clocks : List ℕ) (u v : ℕ) → IsOpening g threads clocks → IsOpening (with_edge g u v) threads clocks
opening-with g threads clocks u v o = record { sound = record { sound = λ x t a b. go x t (o.sound.sound x t a b) }; own = o.own }
  where
    wide : (x w : ℕ) → Leads g x w → Leads (with_edge g u v) x w
    wide x w (inl e) = inl e
    wide x w (inr p) = inr (before-wider g (with_edge g u v) (step-with g u v) x w p)

    go : (x t : ℕ) → (clock threads clocks x t ≡ none) ⊎ IsReached g x t (clock threads clocks x t) → (clock threads clocks x t ≡ none) ⊎ IsReached (with_edge g u v) x t (clock threads clocks x t)
    go x t (inl e) = inl e
    go x t (inr r) = inr (record { node = r.node; lane = r.lane; leads = wide x (clock threads clocks x t) r.leads })

pub room-with : (threads : ℕ) (lanes : List ℕ) (edges : List Edge) (size u v : ℕ) → HasRoom threads lanes edges size → u < length lanes → v < length lanes →
    HasRoom threads lanes (edges ++ arrow u v ∷ []) size
room-with threads lanes edges size u v h a b = record { nodes_few = h.nodes_few; lane = h.lane; places = h.places; ends = λ x y c. go x y (Contains-push_cases edges (arrow u v) (arrow x y) c) }
  where
    go : (x y : ℕ) → Contains edges (arrow x y) ⊎ (arrow u v ≡ arrow x y) → (x < length lanes) × (y < length lanes)
    go x y (inl c) = h.ends x y c
    go x y (inr e) = let p : u ≡ x = ap (λ (d : Edge). d.from) e in let q : v ≡ y = ap (λ (d : Edge). d.to) e in (omega (arith, a, p), omega (arith, b, q))

pub room-first : (threads : ℕ) (lanes : List ℕ) (edges : List Edge) (size count : ℕ) → HasRoom threads lanes edges size → HasRoom threads lanes (take count edges) size
room-first threads lanes edges size count h = record { nodes_few = h.nodes_few; lane = h.lane; places = h.places; ends = λ x y c. h.ends x y (contains-take count edges (arrow x y) c) }

pub room-size : (threads : ℕ) (lanes : List ℕ) (edges : List Edge) (size size' : ℕ) → size' ≡ size → HasRoom threads lanes edges size → HasRoom threads lanes edges size'
room-size threads lanes edges size size' e h = subst (λ (n : ℕ). HasRoom threads lanes edges n) (sym e) h

pub graph-with : (g : Shape) (threads : ℕ) (clocks new : List ℕ) (u v : ℕ) → IsGraph g threads clocks → u < length g.lanes → v < length g.lanes → (Leads g v u → ⊥) → length new ≡ length clocks →
    IsExact (with_edge g u v) threads new → IsGraph (with_edge g u v) threads new
graph-with g threads clocks new u v h a b shut e x = record {
  room = room-size threads g.lanes (g.added ++ arrow u v ∷ []) (length clocks) (length new) e (room-with threads g.lanes g.added (length clocks) u v h.room a b);
  rising = h.rising;
  acyclic = acyclic-with g u v h.acyclic shut;
  exact = x;
}

pub graph-first : (g : Shape) (threads : ℕ) (clocks new : List ℕ) (count : ℕ) → IsGraph g threads clocks → length new ≡ length clocks → IsExact (first_edges g count) threads new → IsGraph (first_edges g count) threads new
graph-first g threads clocks new count h e x = record {
  room = room-size threads g.lanes (take count g.added) (length clocks) (length new) e (room-first threads g.lanes g.added (length clocks) count h.room);
  rising = h.rising;
  acyclic = λ k p. h.acyclic k (before-wider (first_edges g count) g (step-first g count) k k p);
  exact = x;
}

-- the one comparison
pub leads-test : (g : Shape) (threads : ℕ) (clocks : List ℕ) (u v lane cell : ℕ) → IsGraph g threads clocks → u < length g.lanes → v < length g.lanes →
    lane ≡ get_or g.lanes v lane → cell ≡ get_or clocks (u * threads + lane) cell → (IsTrue (leb cell v)) ↔ Leads g u v
leads-test g threads clocks u v lane cell h a b p q = (λ t. told (cases_eq u v) (to (leb-true cell v t)), λ w. le-leb cell v (from (at w)))
  where
    l : lane ≡ slice_index g.lanes v
    l = get_or_read g.lanes v lane b p 0

    fits : u * threads + lane < length clocks
    fits = let m = clock_fits threads g.lanes g.added (length clocks) u h.room a in let n = h.room.lane v b in omega (arith, l, m, n)

    c : cell ≡ clock threads clocks u (slice_index g.lanes v)
    c = get_or_read clocks (u * threads + lane) cell fits q 0 ∙ ap (λ (i : ℕ). clock threads clocks u i) l

    to : cell ≤ v → clock threads clocks u (slice_index g.lanes v) ≤ v
    to k = omega (arith, c, k)

    from : clock threads clocks u (slice_index g.lanes v) ≤ v → cell ≤ v
    from k = omega (arith, c, k)

    told : (u ≡ v) ⊎ (u ≡ v → ⊥) → clock threads clocks u (slice_index g.lanes v) ≤ v → Leads g u v
    told (inl e) k = inl e
    told (inr ne) k = inr (before-of g threads clocks u v h a b ne k)

    at : Leads g u v → clock threads clocks u (slice_index g.lanes v) ≤ v
    at (inl e) = let o = h.exact.opening.own v b in subst (λ (x : ℕ). clock threads clocks x (slice_index g.lanes v) ≤ v) (sym e) o
    at (inr w) = before-clock g threads clocks u v h b w

-- what comes back of a vector that was passed as a slice
pub back : (len : ℕ) (old start new : List ℕ) → length start ≡ len → start ≡ old → length new ≡ length start → take len (new ++ drop (length new) old) ≡ new
back len old start new f s e =
    let m = ap length s in
    let d : drop (length new) old ≡ [] = drop_all (length new) old (omega (arith, m, e)) in
    ap (λ (x : List ℕ). take len (new ++ x)) d ∙ ap (λ (x : List ℕ). take len x) (append-nil new) ∙ take_all len new (omega (arith, m, e, f))

pub room-at : (threads : ℕ) (lanes lanes' : List ℕ) (edges edges' : List Edge) (size size' : ℕ) → lanes' ≡ lanes → edges' ≡ edges → size' ≡ size → HasRoom threads lanes edges size → HasRoom threads lanes' edges' size'
room-at threads lanes lanes' edges edges' size size' p q r h =
    room-size threads lanes' edges' size size' r (subst (λ (e : List Edge). HasRoom threads lanes' e size) (sym q) (subst (λ (l : List ℕ). HasRoom threads l edges size) (sym p) h))

-- with the new edge all is closed but along it
pub closed-but : (g : Shape) (threads : ℕ) (clocks : List ℕ) (u v : ℕ) → IsClosed g threads clocks → IsClosedBut (with_edge g u v) threads u v clocks
closed-but g threads clocks u v h = record { closed = λ x y s. go x y (step-with_cases g u v x y s) }
  where
    go : (x y : ℕ) → IsStep g x y ⊎ ((u ≡ x) × (v ≡ y)) → Rises threads clocks x y ⊎ ((x ≡ u) × (y ≡ v))
    go x y (inl s) = inl (h.closed x y s)
    go x y (inr (p, q)) = inr (sym p, sym q)

pub inserted-at : (threads : ℕ) (lanes lanes' : List ℕ) (edges edges' : List Edge) (start old new : List ℕ) (u v : ℕ) → lanes' ≡ lanes → edges' ≡ edges → start ≡ old →
    (IsOpening (shape lanes' edges') threads start → IsClosedBut (shape lanes' edges') threads u v start → IsExact (shape lanes' edges') threads new) →
    IsOpening (shape lanes edges) threads old → IsClosedBut (shape lanes edges) threads u v old → IsExact (shape lanes edges) threads new
inserted-at threads lanes lanes' edges edges' start old new u v p q r f =
    subst (λ (s : List ℕ). IsOpening (shape lanes edges) threads s → IsClosedBut (shape lanes edges) threads u v s → IsExact (shape lanes edges) threads new) r
    (subst (λ (e : List Edge). IsOpening (shape lanes e) threads start → IsClosedBut (shape lanes e) threads u v start → IsExact (shape lanes e) threads new) q
    (subst (λ (l : List ℕ). IsOpening (shape l edges') threads start → IsClosedBut (shape l edges') threads u v start → IsExact (shape l edges') threads new) p f))

pub linked-at : (nodes nodes' : ℕ) (edges edges' : List Edge) (heads heads' older older' : List ℕ) → nodes' ≡ nodes → edges' ≡ edges → heads' ≡ heads → older' ≡ older → AreLinked nodes edges heads older → AreLinked nodes' edges' heads' older'
linked-at nodes nodes' edges edges' heads heads' older older' p q r s h =
    subst (λ (n : ℕ). AreLinked n edges' heads' older') (sym p) (subst (λ (e : List Edge). AreLinked nodes e heads' older') (sym q)
    (subst (λ (x : List ℕ). AreLinked nodes edges x older') (sym r) (subst (λ (x : List ℕ). AreLinked nodes edges heads x) (sym s) h)))

pub step-at : (lanes lanes' : List ℕ) (edges edges' : List Edge) (u v : ℕ) → lanes' ≡ lanes → edges' ≡ edges ++ arrow u v ∷ [] → IsStep (shape lanes' edges') u v
step-at lanes lanes' edges edges' u v p q =
    subst (λ (e : List Edge). IsStep (shape lanes' e) u v) (sym q) (subst (λ (l : List ℕ). IsStep (shape l (edges ++ arrow u v ∷ [])) u v) (sym p) (step-new (shape lanes edges) u v))

pub ends-below : (threads : ℕ) (lanes : List ℕ) (edges : List Edge) (size nodes : ℕ) → nodes ≡ length lanes → HasRoom threads lanes edges size → EndsBelow edges nodes
ends-below threads lanes edges size nodes e room = record { ends = λ k l. (let m = (room.ends (slice_index_or edges k (arrow 0 0)).from (end_of edges k) (k, l, get_or_default edges k _ (arrow 0 0) l)).1 in omega (arith, m, e)) }

pub exact-back : (threads : ℕ) (lanes lanes' : List ℕ) (edges edges' : List Edge) (clocks : List ℕ) → lanes' ≡ lanes → edges' ≡ edges → IsExact (shape lanes' edges') threads clocks → IsExact (shape lanes edges) threads clocks
exact-back threads lanes lanes' edges edges' clocks p q x =
    subst (λ (e : List Edge). IsExact (shape lanes e) threads clocks) q (subst (λ (l : List ℕ). IsExact (shape l edges') threads clocks) p x)
