use Rattle.std.proofs.Common.{◌≡◌, ℕ, ◌+◌, ◌*◌, ◌-◌, ◌<◌, ◌≤◌, List, [], ◌∷◌, ◌++◌, length, sym, ◌∙◌, ap, subst, arith, inl, inr, ◌⊎◌}
use Rattle.std.specs.Prelude.{Contains, slice_index, slice_index_or, sum}
use Rattle.std.proofs.lemmas.Bool.{cases_eq, cases_lt}
use Rattle.std.proofs.lemmas.List.{length_push, get_or_default}
use Rattle.std.proofs.lemmas.List.Elements.{Contains-append_left, Contains-push, Contains-push_cases}
use Rattle.plain_search.specs.declared.Edge.{Edge}
use Rattle.order_graph.specs.Shapes.{Shape, shape, arrow, IsNext, IsStep}
use Rattle.order_graph.specs.Clocks.{clock, Rises, IsOpening, IsClosed, IsLowering, HasRoom}
use Rattle.order_graph.specs.Links.{end_of, IsLatest, AreLinked}
use Rattle.order_graph.specs.Carrying.{Pulled, AreNodes, IsGood, IsDue, Waits, Carried, IsClosedBut}
use Rattle.order_graph.proofs.Sweeping.{opening-step}

-- the lowered clock does not pass the other one
pub pulled-rises : (threads u v : ℕ) (old new : List ℕ) → IsLowering threads u v threads old new → Rises threads new u v
pulled-rises threads u v old new h t l = go (h.kept v t l)
  where
    go : (clock threads new v t ≡ clock threads old v t) ⊎ ((v ≡ u) × (clock threads new v t ≡ clock threads old v t)) → clock threads new u t ≤ clock threads new v t
    go (inl e) = let a = h.lowered t l in omega (arith, a, e)
    go (inr e) = let a = h.lowered t l in let b = e.1 in omega (arith, a, b)

-- what was good stays so
pub pulled-good : (threads u v : ℕ) (old work new work' : List ℕ) → IsLowering threads u v threads old new → Pulled u old work new work' → (x y : ℕ) → IsGood threads work old x y → IsGood threads work' new x y
pulled-good threads u v old work new work' h (inl (p, q)) x y (inl r) = inl (subst (λ (z : List ℕ). Rises threads z x y) (sym q) r)
pulled-good threads u v old work new work' h (inl (p, q)) x y (inr c) = inr (subst (λ (w : List ℕ). Contains w y) (sym p) c)
pulled-good threads u v old work new work' h (inr (p, q)) x y (inl r) = go (cases_eq y u)
  where
    go : (y ≡ u) ⊎ (y ≡ u → ⊥) → IsGood threads work' new x y
    go (inl e) = inr (subst (λ (w : List ℕ). Contains w y) (sym p) (subst (λ (k : ℕ). Contains (work ++ u ∷ []) k) (sym e) (Contains-push work u)))
    go (inr ne) = inl (λ t l. rise t (h.kept y t l) (r t l))
      where
        rise : (t : ℕ) → (clock threads new y t ≡ clock threads old y t) ⊎ ((y ≡ u) × (clock threads new y t ≡ clock threads old v t)) → clock threads old x t ≤ clock threads old y t → clock threads new x t ≤ clock threads new y t
        rise t (inl e) k = let a = h.less (x * threads + t) in omega (arith, a, e, k)
        rise t (inr e) k = absurd (ne e.0)
pulled-good threads u v old work new work' h (inr (p, q)) x y (inr c) = inr (subst (λ (w : List ℕ). Contains w y) (sym p) (Contains-append_left work (u ∷ []) y c))

pub pulled-nodes : (nodes u : ℕ) (old work new work' : List ℕ) → u < nodes → Pulled u old work new work' → AreNodes nodes work → AreNodes nodes work'
pulled-nodes nodes u old work new work' l (inl (p, q)) h = subst (λ (w : List ℕ). AreNodes nodes w) (sym p) h
pulled-nodes nodes u old work new work' l (inr (p, q)) h = subst (λ (w : List ℕ). AreNodes nodes w) (sym p) (record { node = λ y c. go y (Contains-push_cases work u y c) })
  where
    go : (y : ℕ) → Contains work y ⊎ (u ≡ y) → y < nodes
    go y (inl c) = h.node y c
    go y (inr e) = omega (arith, l, e)

pub pulled-weight : (u : ℕ) (old work new work' : List ℕ) → Pulled u old work new work' → 2 * sum new + length work' ≤ 2 * sum old + length work
pulled-weight u old work new work' (inl (p, q)) = let a = ap length p in let b = ap sum q in omega (arith, a, b)
pulled-weight u old work new work' (inr (p, q)) = let a = ap length p in let b = length_push work u in omega (arith, a, b, q)

-- steps into the node that are not there need not be taken
pub due-skip : (g : Shape) (threads due below at : ℕ) (work clocks : List ℕ) → IsDue g threads due below work clocks →
    ((k x : ℕ) → at ≤ k → k < below → k < length g.added → slice_index_or g.added k (arrow x due) ≡ arrow x due → ⊥) →
    (at ≤ length g.added → length g.added < below → (x : ℕ) → IsNext g.lanes x due → ⊥) → IsDue g threads due at work clocks
due-skip g threads due below at work clocks h e n = record { edges = λ k x y l i. edges k x y l i (h.edges k x y l i); chains = λ x y i. chains x y i (h.chains x y i) }
  where
    edges : (k x y : ℕ) → k < length g.added → slice_index_or g.added k (arrow x y) ≡ arrow x y → IsGood threads work clocks x y ⊎ ((y ≡ due) × (k < below)) → IsGood threads work clocks x y ⊎ ((y ≡ due) × (k < at))
    edges k x y l i (inl r) = inl r
    edges k x y l i (inr (q, m)) = go (cases_lt k at)
      where
        go : (k < at) ⊎ (at ≤ k) → IsGood threads work clocks x y ⊎ ((y ≡ due) × (k < at))
        go (inl s) = inr (q, s)
        go (inr s) = absurd (e k x s m l (subst (λ (z : ℕ). slice_index_or g.added k (arrow x z) ≡ arrow x z) q i))

    chains : (x y : ℕ) → IsNext g.lanes x y → IsGood threads work clocks x y ⊎ ((y ≡ due) × (length g.added < below)) → IsGood threads work clocks x y ⊎ ((y ≡ due) × (length g.added < at))
    chains x y i (inl r) = inl r
    chains x y i (inr (q, m)) = go (cases_lt (length g.added) at)
      where
        go : (length g.added < at) ⊎ (at ≤ length g.added) → IsGood threads work clocks x y ⊎ ((y ≡ due) × (length g.added < at))
        go (inl s) = inr (q, s)
        go (inr s) = absurd (n s m x (subst (λ (z : ℕ). IsNext g.lanes x z) q i))

-- the steps from one node into the node are taken
pub due-pull : (g : Shape) (threads u due below at : ℕ) (old work new work' : List ℕ) → IsLowering threads u due threads old new → Pulled u old work new work' → IsDue g threads due below work old →
    ((k x : ℕ) → at ≤ k → k < below → k < length g.added → slice_index_or g.added k (arrow x due) ≡ arrow x due → x ≡ u) →
    (at ≤ length g.added → length g.added < below → (x : ℕ) → IsNext g.lanes x due → x ≡ u) → IsDue g threads due at work' new
due-pull g threads u due below at old work new work' low pull h e n = record { edges = λ k x y l i. edges k x y l i (h.edges k x y l i); chains = λ x y i. chains x y i (h.chains x y i) }
  where
    here : (x y : ℕ) → x ≡ u → y ≡ due → IsGood threads work' new x y
    here x y p q = inl (subst (λ (a : ℕ). Rises threads new a y) (sym p) (subst (λ (b : ℕ). Rises threads new u b) (sym q) (pulled-rises threads u due old new low)))

    edges : (k x y : ℕ) → k < length g.added → slice_index_or g.added k (arrow x y) ≡ arrow x y → IsGood threads work old x y ⊎ ((y ≡ due) × (k < below)) → IsGood threads work' new x y ⊎ ((y ≡ due) × (k < at))
    edges k x y l i (inl r) = inl (pulled-good threads u due old work new work' low pull x y r)
    edges k x y l i (inr (q, m)) = go (cases_lt k at)
      where
        go : (k < at) ⊎ (at ≤ k) → IsGood threads work' new x y ⊎ ((y ≡ due) × (k < at))
        go (inl s) = inr (q, s)
        go (inr s) = inl (here x y (e k x s m l (subst (λ (z : ℕ). slice_index_or g.added k (arrow x z) ≡ arrow x z) q i)) q)

    chains : (x y : ℕ) → IsNext g.lanes x y → IsGood threads work old x y ⊎ ((y ≡ due) × (length g.added < below)) → IsGood threads work' new x y ⊎ ((y ≡ due) × (length g.added < at))
    chains x y i (inl r) = inl (pulled-good threads u due old work new work' low pull x y r)
    chains x y i (inr (q, m)) = go (cases_lt (length g.added) at)
      where
        go : (length g.added < at) ⊎ (at ≤ length g.added) → IsGood threads work' new x y ⊎ ((y ≡ due) × (length g.added < at))
        go (inl s) = inr (q, s)
        go (inr s) = inl (here x y (n s m x (subst (λ (z : ℕ). IsNext g.lanes x z) q i)) q)

-- nothing was taken yet
pub carried-none : (g : Shape) (threads node : ℕ) (old work : List ℕ) → Carried g threads node (length g.added + 1) old work old work
carried-none g threads node old work = record { due = λ d. d; weight = omega arith; nodes = λ n. n }

pub carried-pull : (g : Shape) (threads u node below at : ℕ) (old work cur work' new work'' : List ℕ) → u < length g.lanes → IsLowering threads u node threads cur new → Pulled u cur work' new work'' →
    Carried g threads node below old work cur work' →
    ((k x : ℕ) → at ≤ k → k < below → k < length g.added → slice_index_or g.added k (arrow x node) ≡ arrow x node → x ≡ u) →
    (at ≤ length g.added → length g.added < below → (x : ℕ) → IsNext g.lanes x node → x ≡ u) → Carried g threads node at old work new work''
carried-pull g threads u node below at old work cur work' new work'' l low pull h e n = record {
  due = λ d. due-pull g threads u node below at cur work' new work'' low pull (h.due d) e n;
  weight = (let a = pulled-weight u cur work' new work'' pull in let b = h.weight in omega (arith, a, b));
  nodes = λ m. pulled-nodes (length g.lanes) u cur work' new work'' l pull (h.nodes m);
}

pub carried-skip : (g : Shape) (threads node below at : ℕ) (old work new work' : List ℕ) → Carried g threads node below old work new work' →
    ((k x : ℕ) → at ≤ k → k < below → k < length g.added → slice_index_or g.added k (arrow x node) ≡ arrow x node → ⊥) →
    (at ≤ length g.added → length g.added < below → (x : ℕ) → IsNext g.lanes x node → ⊥) → Carried g threads node at old work new work'
carried-skip g threads node below at old work new work' h e n = record { due = λ d. due-skip g threads node below at work' new (h.due d) e n; weight = h.weight; nodes = h.nodes }

-- the chain's step into a node, where there is one
pub carried-chain : (g : Shape) (threads u node : ℕ) (old work new work' : List ℕ) → u + 1 ≡ node → node < length g.lanes → IsLowering threads u node threads old new → Pulled u old work new work' →
    Carried g threads node (length g.added) old work new work'
carried-chain g threads u node old work new work' e l low pull =
    carried-pull g threads u node (length g.added + 1) (length g.added) old work old work new work' (omega (arith, e, l)) low pull (carried-none g threads node old work)
    (λ k x a b d i. absurd (omega (arith, a, d))) (λ a b x i. (let m = i.next in omega (arith, e, m)))

pub carried-first : (g : Shape) (threads node : ℕ) (old work : List ℕ) → ((x : ℕ) → IsNext g.lanes x node → ⊥) → Carried g threads node (length g.added) old work old work
carried-first g threads node old work none =
    carried-skip g threads node (length g.added + 1) (length g.added) old work old work (carried-none g threads node old work) (λ k x a b d i. absurd (omega (arith, a, d))) (λ a b x i. none x i)

-- an edge that is read is the same by any default
end-at : (edges : List Edge) (k x y : ℕ) → k < length edges → slice_index_or edges k (arrow x y) ≡ arrow x y → end_of edges k ≡ y
end-at edges k x y l e = ap (λ (d : Edge). d.to) (get_or_default edges k (arrow 0 0) (arrow x y) l ∙ e)

start-at : (edges : List Edge) (k x y : ℕ) → k < length edges → slice_index_or edges k (arrow x y) ≡ arrow x y → x ≡ (slice_index_or edges k (arrow 0 0)).from
start-at edges k x y l e = sym (ap (λ (d : Edge). d.from) (get_or_default edges k (arrow 0 0) (arrow x y) l ∙ e))

-- from the chain's step to the newest edge
pub carried-heads : (g : Shape) (threads node at : ℕ) (old work new work' : List ℕ) → IsLatest g.added (length g.added) node at →
    Carried g threads node (length g.added) old work new work' → Carried g threads node at old work new work'
carried-heads g threads node at old work new work' latest h =
    carried-skip g threads node (length g.added) at old work new work' h (λ k x a b l i. latest.none k a b (end-at g.added k x node l i)) (λ a b x i. absurd (omega (arith, b)))

-- an edge is taken, and the next older one is looked up
pub carried-edge : (g : Shape) (threads node at next : ℕ) (old work cur work' new work'' : List ℕ) → at < length g.added → (slice_index_or g.added at (arrow 0 0)).from < length g.lanes →
    IsLowering threads (slice_index_or g.added at (arrow 0 0)).from node threads cur new → Pulled (slice_index_or g.added at (arrow 0 0)).from cur work' new work'' →
    IsLatest g.added at node next → Carried g threads node (at + 1) old work cur work' → Carried g threads node next old work new work''
carried-edge g threads node at next old work cur work' new work'' l n low pull latest h =
    carried-pull g threads (slice_index_or g.added at (arrow 0 0)).from node (at + 1) next old work cur work' new work'' n low pull h (λ k x a b m i. pick k x a b m i (cases_eq k at)) (λ a b x i. absurd (omega (arith, b, l)))
  where
    pick : (k x : ℕ) → next ≤ k → k < at + 1 → k < length g.added → slice_index_or g.added k (arrow x node) ≡ arrow x node → (k ≡ at) ⊎ (k ≡ at → ⊥) → x ≡ (slice_index_or g.added at (arrow 0 0)).from
    pick k x a b m i (inl e) = start-at g.added k x node m i ∙ ap (λ (j : ℕ). (slice_index_or g.added j (arrow 0 0)).from) e
    pick k x a b m i (inr e) = absurd (latest.none k a (omega (arith, b, e)) (end-at g.added k x node m i))

-- a node that waited is taken from the list
good-popped : (threads node : ℕ) (rest work clocks : List ℕ) (x y : ℕ) → work ≡ rest ++ node ∷ [] → IsGood threads work clocks x y → IsGood threads rest clocks x y ⊎ (y ≡ node)
good-popped threads node rest work clocks x y e (inl r) = inl (inl r)
good-popped threads node rest work clocks x y e (inr c) = go (Contains-push_cases rest node y (subst (λ (w : List ℕ). Contains w y) e c))
  where
    go : Contains rest y ⊎ (node ≡ y) → IsGood threads rest clocks x y ⊎ (y ≡ node)
    go (inl d) = inl (inr d)
    go (inr q) = inr (sym q)

pub waits-due : (g : Shape) (threads node : ℕ) (rest work clocks : List ℕ) → work ≡ rest ++ node ∷ [] → Waits g threads work clocks → IsDue g threads node (length g.added + 1) rest clocks
waits-due g threads node rest work clocks e h = record {
  edges = λ k x y l i. edge k x y l (good-popped threads node rest work clocks x y e (h.waits x y (inl (k, l, i))));
  chains = λ x y i. chain x y (good-popped threads node rest work clocks x y e (h.waits x y (inr i)));
}
  where
    edge : (k x y : ℕ) → k < length g.added → IsGood threads rest clocks x y ⊎ (y ≡ node) → IsGood threads rest clocks x y ⊎ ((y ≡ node) × (k < length g.added + 1))
    edge k x y l (inl r) = inl r
    edge k x y l (inr q) = inr (q, omega (arith, l))

    chain : (x y : ℕ) → IsGood threads rest clocks x y ⊎ (y ≡ node) → IsGood threads rest clocks x y ⊎ ((y ≡ node) × (length g.added < length g.added + 1))
    chain x y (inl r) = inl r
    chain x y (inr q) = inr (q, omega arith)

-- nothing is owed
pub due-waits : (g : Shape) (threads node : ℕ) (work clocks : List ℕ) → IsDue g threads node 0 work clocks → Waits g threads work clocks
due-waits g threads node work clocks h = record { waits = λ x y s. go x y s }
  where
    edge : (k x y : ℕ) → IsGood threads work clocks x y ⊎ ((y ≡ node) × (k < 0)) → IsGood threads work clocks x y
    edge k x y (inl r) = r
    edge k x y (inr (q, l)) = absurd (omega (arith, l))

    go : (x y : ℕ) → IsStep g x y → IsGood threads work clocks x y
    go x y (inl (k, l, i)) = edge k x y (h.edges k x y l i)
    go x y (inr i) = edge (length g.added) x y (h.chains x y i)

-- nobody waits
pub waits-closed : (g : Shape) (threads : ℕ) (work clocks : List ℕ) → length work ≡ 0 → Waits g threads work clocks → IsClosed g threads clocks
waits-closed g threads work clocks e h = record { closed = λ u v s. go u v (h.waits u v s) }
  where
    go : (u v : ℕ) → IsGood threads work clocks u v → Rises threads clocks u v
    go u v (inl r) = r
    go u v (inr c) = absurd (let m = c.1 in omega (arith, m, e))

-- a list from which a node is taken
pub nodes-popped : (nodes node : ℕ) (rest work : List ℕ) → work ≡ rest ++ node ∷ [] → AreNodes nodes work → AreNodes nodes rest × (node < nodes)
nodes-popped nodes node rest work e h = (
  record { node = λ v c. h.node v (subst (λ (w : List ℕ). Contains w v) (sym e) (Contains-append_left rest (node ∷ []) v c)) },
  h.node node (subst (λ (w : List ℕ). Contains w node) (sym e) (Contains-push rest node)),
)

-- where carrying stands
pub record IsCarrying (g : Shape) (threads : ℕ) (old work new work' : List ℕ) : Type 0 where
  pub opening : IsOpening g threads old → IsOpening g threads new
  pub nodes : AreNodes (length g.lanes) work'
  pub waits : Waits g threads work old → Waits g threads work' new

pub carrying-more : (g : Shape) (threads node : ℕ) (old work cur work' rest new work'' : List ℕ) → work' ≡ rest ++ node ∷ [] → IsCarrying g threads old work cur work' →
    (IsOpening g threads cur → IsOpening g threads new) → Carried g threads node 0 cur rest new work'' → IsCarrying g threads old work new work''
carrying-more g threads node old work cur work' rest new work'' e h o c = record {
  opening = λ k. o (h.opening k);
  nodes = c.nodes (nodes-popped (length g.lanes) node rest work' e h.nodes).0;
  waits = λ w. due-waits g threads node work'' new (c.due (waits-due g threads node rest work' cur e (h.waits w)));
}

pub carrying-weight : (g : Shape) (threads node : ℕ) (cur work' rest new work'' : List ℕ) → work' ≡ rest ++ node ∷ [] → Carried g threads node 0 cur rest new work'' → 2 * sum new + length work'' < 2 * sum cur + length work'
carrying-weight g threads node cur work' rest new work'' e c = let a = ap length e in let b = length_push rest node in let w = c.weight in omega (arith, a, b, w)

-- the new edge is taken first
pub waits-first : (g : Shape) (threads u v : ℕ) (old work new work' : List ℕ) → IsLowering threads u v threads old new → Pulled u old work new work' → IsClosedBut g threads u v old → Waits g threads work' new
waits-first g threads u v old work new work' low pull h = record { waits = λ x y s. go x y (h.closed x y s) }
  where
    go : (x y : ℕ) → Rises threads old x y ⊎ ((x ≡ u) × (y ≡ v)) → IsGood threads work' new x y
    go x y (inl r) = pulled-good threads u v old work new work' low pull x y (inl r)
    go x y (inr (p, q)) = inl (subst (λ (a : ℕ). Rises threads new a y) (sym p) (subst (λ (b : ℕ). Rises threads new u b) (sym q) (pulled-rises threads u v old new low)))

-- the edges that a node's list names lead to it
pub into-step : (lanes : List ℕ) (edges : List Edge) (k v : ℕ) → k < length edges → end_of edges k ≡ v → IsStep (shape lanes edges) (slice_index_or edges k (arrow 0 0)).from v
into-step lanes edges k v l e =
    let s = (slice_index_or edges k (arrow 0 0)).from in
    inl (k, l, get_or_default edges k (arrow s v) (arrow 0 0) l ∙ ap (λ (t : ℕ). arrow s t) e)

pub chain-step : (lanes : List ℕ) (edges : List Edge) (v : ℕ) → 0 < v → v < length lanes → slice_index lanes (v - 1) ≡ slice_index lanes v → IsStep (shape lanes edges) (v - 1) v
chain-step lanes edges v a l e = inr (record { next = omega (arith, a); node = l; lane = e })

pub none-first : (lanes : List ℕ) (v x : ℕ) → v ≡ 0 → IsNext lanes x v → ⊥
none-first lanes v x e i = let m = i.next in absurd (omega (arith, m, e))

pub none-other : (lanes : List ℕ) (v x : ℕ) → (slice_index lanes (v - 1) ≡ slice_index lanes v → ⊥) → IsNext lanes x v → ⊥
none-other lanes v x ne i =
    let m = i.next in
    let e : v - 1 ≡ x = omega (arith, m) in
    ne (ap (λ (k : ℕ). slice_index lanes k) e ∙ i.lane)

pub older-at : (edges : List Edge) (nodes : ℕ) (heads older : List ℕ) (k v : ℕ) → AreLinked nodes edges heads older → k < length edges → end_of edges k ≡ v → IsLatest edges k v (slice_index older k)
older-at edges nodes heads older k v h l e = subst (λ (w : ℕ). IsLatest edges k w (slice_index older k)) e (h.older_latest k l)

-- where the loop over the edges into a node stands
pub record IsInto (g : Shape) (threads node at : ℕ) (old work new work' : List ℕ) : Type 0 where
  pub within : at ≤ length g.added
  pub here : (k : ℕ) → at ≡ k + 1 → end_of g.added k ≡ node
  pub opening : IsOpening g threads old → IsOpening g threads new
  pub carried : Carried g threads node at old work new work'

pub into-heads : (g : Shape) (threads node at : ℕ) (old work new work' : List ℕ) → IsLatest g.added (length g.added) node at → (IsOpening g threads old → IsOpening g threads new) →
    Carried g threads node (length g.added) old work new work' → IsInto g threads node at old work new work'
into-heads g threads node at old work new work' l o c = record { within = l.within; here = l.here; opening = o; carried = carried-heads g threads node at old work new work' l c }

pub into-more : (g : Shape) (threads node at next : ℕ) (old work cur work' new work'' : List ℕ) → 0 < at → node < length g.lanes → (slice_index_or g.added (at - 1) (arrow 0 0)).from < length g.lanes →
    IsLowering threads (slice_index_or g.added (at - 1) (arrow 0 0)).from node threads cur new → Pulled (slice_index_or g.added (at - 1) (arrow 0 0)).from cur work' new work'' →
    IsLatest g.added (at - 1) node next → IsInto g threads node at old work cur work' → IsInto g threads node next old work new work''
into-more g threads node at next old work cur work' new work'' a n f low pull latest h =
    let e : at ≡ at - 1 + 1 = omega (arith, a) in
    let w = h.within in
    let l : at - 1 < length g.added = omega (arith, w, a) in
    let m = latest.within in
    record {
      within = omega (arith, l, m);
      here = latest.here;
      opening = λ o. opening-step g threads (slice_index_or g.added (at - 1) (arrow 0 0)).from node cur new (into-step g.lanes g.added (at - 1) node l (h.here (at - 1) e)) n low (h.opening o);
      carried = carried-edge g threads node (at - 1) next old work cur work' new work'' l f low pull latest (subst (λ (k : ℕ). Carried g threads node k old work cur work') e h.carried);
    }

pub start-fits : (threads : ℕ) (lanes : List ℕ) (edges : List Edge) (size k : ℕ) → HasRoom threads lanes edges size → k < length edges → (slice_index_or edges k (arrow 0 0)).from < length lanes
start-fits threads lanes edges size k room l = (room.ends (slice_index_or edges k (arrow 0 0)).from (slice_index_or edges k (arrow 0 0)).to (k, l, get_or_default edges k _ (arrow 0 0) l)).0
