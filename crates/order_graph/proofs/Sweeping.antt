use Rattle.std.proofs.Common.{◌≡◌, ℕ, ◌+◌, ◌*◌, ◌-◌, ◌<◌, ◌≤◌, Bool, true, false, List, length, set, refl, sym, ◌∙◌, ap, subst, arith, inl, inr, ◌⊎◌, get_or-set_other, get_or-set_same}
use Rattle.std.specs.Prelude.{slice_index, slice_index_or, sum, ◌||◌}
use Rattle.std.proofs.lemmas.Bool.{cases_eq, cases_lt, cases_Bool}
use Rattle.std.proofs.lemmas.Nat.{same_from_place, row_fits}
use Rattle.std.proofs.lemmas.List.{get_or_default}
use Rattle.plain_search.specs.declared.Edge.{Edge}
use Rattle.order_graph.specs.Shapes.{Shape, shape, arrow, IsNext, IsStep, Leads}
use Rattle.order_graph.specs.Clocks.{none, clock, Rises, IsReached, IsOpening, IsClosed, IsNextClosed, AreEdgesClosed, IsLowering, IsTold, Lowered, Swept, HasRoom}
use Rattle.order_graph.proofs.Walks.{leads-trans, before-step}
use Rattle.order_graph.proofs.Lowering.{told-none}

-- what was lowered along a step says only what is so
pub opening-step : (g : Shape) (threads u v : ℕ) (old new : List ℕ) → IsStep g u v → v < length g.lanes → IsLowering threads u v threads old new →
    IsOpening g threads old → IsOpening g threads new
opening-step g threads u v old new s n h o = record { sound = record { sound = λ x t k l. sound x t k l (h.kept x t l) }; own = λ x k. own x k }
  where
    sound : (x t : ℕ) → x < length g.lanes → t < threads → (clock threads new x t ≡ clock threads old x t) ⊎ ((x ≡ u) × (clock threads new x t ≡ clock threads old v t)) →
        (clock threads new x t ≡ none) ⊎ IsReached g x t (clock threads new x t)
    sound x t k l (inl e) = subst (λ (w : ℕ). (w ≡ none) ⊎ IsReached g x t w) (sym e) (o.sound.sound x t k l)
    sound x t k l (inr (p, e)) = subst (λ (w : ℕ). (w ≡ none) ⊎ IsReached g x t w) (sym e) (go (o.sound.sound v t n l))
      where
        go : (clock threads old v t ≡ none) ⊎ IsReached g v t (clock threads old v t) → (clock threads old v t ≡ none) ⊎ IsReached g x t (clock threads old v t)
        go (inl q) = inl q
        go (inr r) = inr (record { node = r.node; lane = r.lane; leads = subst (λ (k : ℕ). Leads g k (clock threads old v t)) (sym p) (leads-trans g u v (clock threads old v t) (inr (before-step g u v s)) r.leads) })

    own : (x : ℕ) → x < length g.lanes → clock threads new x (slice_index g.lanes x) ≤ x
    own x k = let a = h.less (x * threads + slice_index g.lanes x) in let b = o.own x k in omega (arith, a, b)

pub swept-none : (g : Shape) (threads : ℕ) (old : List ℕ) → Swept g threads old old false
swept-none g threads old = record { opening = λ o. o; told = told-none old }

-- one node more was lowered
pub swept-step : (g : Shape) (threads u v : ℕ) (old cur new : List ℕ) (changed moved : Bool) → IsStep g u v → v < length g.lanes →
    Swept g threads old cur changed → Lowered threads u v cur new moved → Swept g threads old new (changed || moved)
swept-step g threads u v old cur new changed moved s n w h = record { opening = λ o. opening-step g threads u v cur new s n h.lowering (w.opening o); told = told changed moved w.told h.told }
  where
    told : (changed moved : Bool) → IsTold old cur changed → IsTold cur new moved → IsTold old new (changed || moved)
    told true true a b = let p = a.fell refl in let q = b.fell refl in record { size = b.size ∙ a.size; still = λ z. cc; fell = λ _. omega (arith, p, q) }
    told true false a b = let p = a.fell refl in let q = ap sum (b.still refl) in record { size = b.size ∙ a.size; still = λ z. cc; fell = λ _. omega (arith, p, q) }
    told false true a b = let p = ap sum (a.still refl) in let q = b.fell refl in record { size = b.size ∙ a.size; still = λ z. cc; fell = λ _. omega (arith, p, q) }
    told false false a b = record { size = b.size ∙ a.size; still = λ _. b.still refl ∙ a.still refl; fell = λ z. cc }

or-false : (a b : Bool) → (a || b) ≡ false → (a ≡ false) × (b ≡ false)
or-false a b h = Rattle.std.proofs.lemmas.Bool.or_parts a b h

-- where nothing changed, clocks do not fall along the edge, nor along those before
pub rises-still : (threads u v : ℕ) (cur new : List ℕ) → Lowered threads u v cur new false → Rises threads new u v
rises-still threads u v cur new h t l =
    let a = h.lowering.lowered t l in
    let e = ap (λ (z : List ℕ). clock threads z v t) (h.told.still refl) in omega (arith, a, e)

pub rises-kept : (threads u v a b : ℕ) (cur new : List ℕ) → Lowered threads u v cur new false → Rises threads cur a b → Rises threads new a b
rises-kept threads u v a b cur new h r = subst (λ (z : List ℕ). Rises threads z a b) (sym (h.told.still refl)) r

-- the edges so far
abbrev pub RisesBelow : List Edge → ℕ → ℕ → List ℕ → Type 0
RisesBelow edges below threads clocks = (k u v : ℕ) → k < below → slice_index_or edges k (arrow u v) ≡ arrow u v → Rises threads clocks u v

pub edges-step : (threads : ℕ) (edges : List Edge) (k : ℕ) (edge : Edge) (cur new : List ℕ) (changed moved : Bool) → k < length edges → ((d : Edge) → slice_index_or edges k d ≡ edge) →
    Lowered threads edge.from edge.to cur new moved → (changed ≡ false → RisesBelow edges k threads cur) → (changed || moved) ≡ false → RisesBelow edges (k + 1) threads new
edges-step threads edges k edge cur new changed moved l is h before z =
    let (a, b) = or-false changed moved z in
    let s : Lowered threads edge.from edge.to cur new false = subst (λ (y : Bool). Lowered threads edge.from edge.to cur new y) b h in
    λ j u v n e. go s (before a) j u v n e (cases_eq j k)
  where
    go : Lowered threads edge.from edge.to cur new false → RisesBelow edges k threads cur → (j u v : ℕ) → j < k + 1 → slice_index_or edges j (arrow u v) ≡ arrow u v → (j ≡ k) ⊎ (j ≡ k → ⊥) → Rises threads new u v
    go s r j u v n e (inl q) =
        let p : edge ≡ arrow u v = sym (is (arrow u v)) ∙ ap (λ (i : ℕ). slice_index_or edges i (arrow u v)) (sym q) ∙ e in
        let x = rises-still threads edge.from edge.to cur new s in
        subst (λ (d : Edge). Rises threads new d.from d.to) p x
    go s r j u v n e (inr q) = rises-kept threads edge.from edge.to u v cur new s (r j u v (omega (arith, n, q)) e)

pub edges-closed : (threads : ℕ) (edges : List Edge) (below : ℕ) (clocks : List ℕ) → length edges ≤ below → RisesBelow edges below threads clocks → AreEdgesClosed edges threads clocks
edges-closed threads edges below clocks l r = record { closed = λ u v c. r c.0 u v (let m = c.1 in omega (arith, m, l)) c.2 }

-- the last nodes so far
abbrev pub RisesFrom : List ℕ → ℕ → ℕ → List ℕ → Type 0
RisesFrom lanes k threads clocks = (u v : ℕ) → length lanes < v + k → IsNext lanes u v → Rises threads clocks u v

pub chains-then : (threads : ℕ) (lanes : List ℕ) (k : ℕ) (cur new : List ℕ) (changed moved : Bool) → 1 ≤ k → k < length lanes →
    Lowered threads (length lanes - k - 1) (length lanes - k) cur new moved → (changed ≡ false → RisesFrom lanes k threads cur) → (changed || moved) ≡ false → RisesFrom lanes (k + 1) threads new
chains-then threads lanes k cur new changed moved one l h before z =
    let (a, b) = or-false changed moved z in
    let s : Lowered threads (length lanes - k - 1) (length lanes - k) cur new false = subst (λ (y : Bool). Lowered threads (length lanes - k - 1) (length lanes - k) cur new y) b h in
    λ u v n e. go s (before a) u v n e (cases_eq v (length lanes - k))
  where
    go : Lowered threads (length lanes - k - 1) (length lanes - k) cur new false → RisesFrom lanes k threads cur → (u v : ℕ) → length lanes < v + (k + 1) → IsNext lanes u v →
        (v ≡ length lanes - k) ⊎ (v ≡ length lanes - k → ⊥) → Rises threads new u v
    go s r u v n e (inl q) =
        let m = e.next in
        let p : length lanes - k - 1 ≡ u = omega (arith, m, q) in
        let x = rises-still threads (length lanes - k - 1) (length lanes - k) cur new s in
        subst (λ (i : ℕ). Rises threads new i v) p (subst (λ (i : ℕ). Rises threads new (length lanes - k - 1) i) (sym q) x)
    go s r u v n e (inr q) = rises-kept threads (length lanes - k - 1) (length lanes - k) u v cur new s (r u v (omega (arith, n, q)) e)

-- two threads meet there
pub chains-else : (threads : ℕ) (lanes : List ℕ) (k : ℕ) (clocks : List ℕ) → 1 ≤ k → k < length lanes → (slice_index lanes (length lanes - k - 1) ≡ slice_index lanes (length lanes - k) → ⊥) →
    RisesFrom lanes k threads clocks → RisesFrom lanes (k + 1) threads clocks
chains-else threads lanes k clocks one l ne r u v n e = go (cases_eq v (length lanes - k))
  where
    go : (v ≡ length lanes - k) ⊎ (v ≡ length lanes - k → ⊥) → Rises threads clocks u v
    go (inl q) =
        let m = e.next in
        let p : length lanes - k - 1 ≡ u = omega (arith, m, q) in
        absurd (ne (ap (λ (i : ℕ). slice_index lanes i) p ∙ e.lane ∙ ap (λ (i : ℕ). slice_index lanes i) q))
    go (inr q) = r u v (omega (arith, n, q)) e

pub chains-closed : (threads : ℕ) (lanes : List ℕ) (k : ℕ) (clocks : List ℕ) → length lanes ≤ k → RisesFrom lanes k threads clocks → IsNextClosed lanes threads clocks
chains-closed threads lanes k clocks l r = record { closed = λ u v e. r u v (let m = e.next in omega (arith, m, l)) e }

pub next-step : (lanes : List ℕ) (edges : List Edge) (k : ℕ) → 1 ≤ k → k < length lanes → slice_index lanes (length lanes - k - 1) ≡ slice_index lanes (length lanes - k) →
    IsStep (shape lanes edges) (length lanes - k - 1) (length lanes - k)
next-step lanes edges k one l e = inr (record { next = omega (arith, one, l); node = omega (arith, one, l); lane = e })

-- the place of a node's clock is there
pub clock_fits : (threads : ℕ) (lanes : List ℕ) (edges : List Edge) (size x : ℕ) → HasRoom threads lanes edges size → x < length lanes → x * threads + threads ≤ size
clock_fits threads lanes edges size x h l = let e = h.places in let m = row_fits x threads (length lanes) threads l (omega arith) in omega (arith, e, m)

pub step-edge : (lanes : List ℕ) (edges : List Edge) (k : ℕ) (edge : Edge) → k < length edges → ((d : Edge) → slice_index_or edges k d ≡ edge) → IsStep (shape lanes edges) edge.from edge.to
step-edge lanes edges k edge l is = inl (k, l, is edge)

pub closed_all : (g : Shape) (threads : ℕ) (clocks : List ℕ) → IsNextClosed g.lanes threads clocks → AreEdgesClosed g.added threads clocks → IsClosed g threads clocks
closed_all g threads clocks a b = record { closed = λ u v s. go u v s }
  where
    go : (u v : ℕ) → IsStep g u v → Rises threads clocks u v
    go u v (inl c) = b.closed u v c
    go u v (inr n) = a.closed u v n

pub or-then : (a b c : Bool) → a ≡ true → c ≡ a → c ≡ (a || b)
or-then true b c e q = q
or-then false b c e q = cc

pub or-else : (a b c : Bool) → a ≡ false → c ≡ b → c ≡ (a || b)
or-else true b c e q = cc
or-else false b c e q = q

-- where a loop over edges stands
pub record EdgesSwept (threads : ℕ) (lanes : List ℕ) (edges : List Edge) (k : ℕ) (old clocks : List ℕ) (changed : Bool) : Type 0 where
  pub swept : Swept (shape lanes edges) threads old clocks changed
  pub rises : changed ≡ false → RisesBelow edges k threads clocks

pub edges-more : (threads : ℕ) (lanes : List ℕ) (edges : List Edge) (size k : ℕ) (old cur new : List ℕ) (changed moved after : Bool) → HasRoom threads lanes edges size → k < length edges →
    EdgesSwept threads lanes edges k old cur changed → Lowered threads (slice_index_or edges k (arrow 0 0)).from (slice_index_or edges k (arrow 0 0)).to cur new moved → after ≡ (changed || moved) →
    EdgesSwept threads lanes edges (k + 1) old new after
edges-more threads lanes edges size k old cur new changed moved after room l w h e = subst (λ (y : Bool). EdgesSwept threads lanes edges (k + 1) old new y) (sym e) (record { swept = swept; rises = rises })
  where
    edge : Edge
    edge = slice_index_or edges k (arrow 0 0)

    is : (d : Edge) → slice_index_or edges k d ≡ slice_index_or edges k (arrow 0 0)
    is d = get_or_default edges k d (arrow 0 0) l

    there : (slice_index_or edges k (arrow 0 0)).to < length lanes
    there = (room.ends (slice_index_or edges k (arrow 0 0)).from (slice_index_or edges k (arrow 0 0)).to (k, l, is _)).1

    swept : Swept (shape lanes edges) threads old new (changed || moved)
    swept = swept-step (shape lanes edges) threads _ _ old cur new changed moved (step-edge lanes edges k (slice_index_or edges k (arrow 0 0)) l is) there w.swept h

    rises : (changed || moved) ≡ false → RisesBelow edges (k + 1) threads new
    rises = edges-step threads edges k (slice_index_or edges k (arrow 0 0)) cur new changed moved l is h w.rises

pub edge_fits : (threads : ℕ) (lanes : List ℕ) (edges : List Edge) (size k : ℕ) → HasRoom threads lanes edges size → k < length edges →
    ((slice_index_or edges k (arrow 0 0)).from * threads + threads ≤ size) × ((slice_index_or edges k (arrow 0 0)).to * threads + threads ≤ size)
edge_fits threads lanes edges size k room l =
    let e = room.ends (slice_index_or edges k (arrow 0 0)).from (slice_index_or edges k (arrow 0 0)).to (k, l, get_or_default edges k _ (arrow 0 0) l) in
    (clock_fits threads lanes edges size _ room e.0, clock_fits threads lanes edges size _ room e.1)

-- where a loop over the chains stands
pub record ChainsSwept (threads : ℕ) (lanes : List ℕ) (edges : List Edge) (k : ℕ) (old clocks : List ℕ) (changed : Bool) : Type 0 where
  pub swept : Swept (shape lanes edges) threads old clocks changed
  pub rises : changed ≡ false → RisesFrom lanes k threads clocks

pub chains-more : (threads : ℕ) (lanes : List ℕ) (edges : List Edge) (k : ℕ) (old cur new : List ℕ) (changed moved after : Bool) → 1 ≤ k → k < length lanes →
    slice_index lanes (length lanes - k - 1) ≡ slice_index lanes (length lanes - k) →
    ChainsSwept threads lanes edges k old cur changed → Lowered threads (length lanes - k - 1) (length lanes - k) cur new moved → after ≡ (changed || moved) →
    ChainsSwept threads lanes edges (k + 1) old new after
chains-more threads lanes edges k old cur new changed moved after one l same w h e = subst (λ (y : Bool). ChainsSwept threads lanes edges (k + 1) old new y) (sym e)
    (record { swept = swept-step (shape lanes edges) threads _ _ old cur new changed moved (next-step lanes edges k one l same) (omega (arith, one, l)) w.swept h; rises = chains-then threads lanes k cur new changed moved one l h w.rises })

pub chains-pass : (threads : ℕ) (lanes : List ℕ) (edges : List Edge) (k : ℕ) (old cur : List ℕ) (changed : Bool) → 1 ≤ k → k < length lanes →
    (slice_index lanes (length lanes - k - 1) ≡ slice_index lanes (length lanes - k) → ⊥) →
    ChainsSwept threads lanes edges k old cur changed → ChainsSwept threads lanes edges (k + 1) old cur changed
chains-pass threads lanes edges k old cur changed one l ne w = record { swept = w.swept; rises = λ z. chains-else threads lanes k cur one l ne (w.rises z) }

-- the nodes so far have their own places, and all else has none
pub record IsMarked (threads : ℕ) (lanes : List ℕ) (below : ℕ) (clocks : List ℕ) : Type 0 where
  pub marked : (x t : ℕ) → x < length lanes → t < threads → (clock threads clocks x t ≡ none) ⊎ ((slice_index lanes x ≡ t) × (clock threads clocks x t ≡ x))
  pub own : (x : ℕ) → x < below → clock threads clocks x (slice_index lanes x) ≡ x

pub marked-none : (threads : ℕ) (lanes : List ℕ) (edges : List Edge) (size below : ℕ) (clocks : List ℕ) → HasRoom threads lanes edges size → size ≤ below →
    ((k : ℕ) → k < below → slice_index clocks k ≡ none) → IsMarked threads lanes 0 clocks
marked-none threads lanes edges size below clocks room l h = record {
  marked = λ x t n k. inl (h (x * threads + t) (let m = clock_fits threads lanes edges size x room n in omega (arith, m, l, k)));
  own = λ x k. absurd (omega (arith, k));
}

pub marked-more : (threads : ℕ) (lanes : List ℕ) (edges : List Edge) (size x : ℕ) (clocks : List ℕ) → HasRoom threads lanes edges size → length clocks ≡ size → x < length lanes →
    IsMarked threads lanes x clocks → IsMarked threads lanes (x + 1) (set clocks (x * threads + slice_index lanes x) x)
marked-more threads lanes edges size x clocks room full l h = record { marked = λ y t n k. marked y t n k (cases_eq (y * threads + t) (x * threads + slice_index lanes x)); own = λ y n. own y n (cases_eq y x) }
  where
    lane : slice_index lanes x < threads
    lane = room.lane x l

    here : slice_index (set clocks (x * threads + slice_index lanes x) x) (x * threads + slice_index lanes x) ≡ x
    here = get_or-set_same clocks (x * threads + slice_index lanes x) x 0 (let m = clock_fits threads lanes edges size x room l in omega (arith, m, lane, full))

    marked : (y t : ℕ) → y < length lanes → t < threads → (y * threads + t ≡ x * threads + slice_index lanes x) ⊎ (y * threads + t ≡ x * threads + slice_index lanes x → ⊥) →
        (clock threads (set clocks (x * threads + slice_index lanes x) x) y t ≡ none) ⊎ ((slice_index lanes y ≡ t) × (clock threads (set clocks (x * threads + slice_index lanes x) x) y t ≡ y))
    marked y t n k (inl e) =
        let w = same_from_place y t x (slice_index lanes x) threads k lane e in
        inr (ap (λ (i : ℕ). slice_index lanes i) w.0 ∙ sym w.1, ap (λ (i : ℕ). slice_index (set clocks (x * threads + slice_index lanes x) x) i) e ∙ here ∙ sym w.0)
    marked y t n k (inr e) =
        let c = get_or-set_other clocks (x * threads + slice_index lanes x) (y * threads + t) x 0 e in
        subst (λ (w : ℕ). (w ≡ none) ⊎ ((slice_index lanes y ≡ t) × (w ≡ y))) (sym c) (h.marked y t n k)

    own : (y : ℕ) → y < x + 1 → (y ≡ x) ⊎ (y ≡ x → ⊥) → clock threads (set clocks (x * threads + slice_index lanes x) x) y (slice_index lanes y) ≡ y
    own y n (inl e) = subst (λ (i : ℕ). clock threads (set clocks (x * threads + slice_index lanes x) x) i (slice_index lanes i) ≡ i) (sym e) here
    own y n (inr e) =
        let ne : y * threads + slice_index lanes y ≡ x * threads + slice_index lanes x → ⊥ = λ z. e (same_from_place y (slice_index lanes y) x (slice_index lanes x) threads (room.lane y (omega (arith, n, l))) lane z).0 in
        get_or-set_other clocks (x * threads + slice_index lanes x) (y * threads + slice_index lanes y) x 0 ne ∙ h.own y (omega (arith, n, e))

pub marked-opening : (threads : ℕ) (lanes : List ℕ) (edges : List Edge) (below : ℕ) (clocks : List ℕ) → length lanes ≤ below → IsMarked threads lanes below clocks → IsOpening (shape lanes edges) threads clocks
marked-opening threads lanes edges below clocks l h = record { sound = record { sound = λ x t n k. sound x t n (h.marked x t n k) }; own = λ x n. own x n (h.own x (omega (arith, n, l))) }
  where
    sound : (x t : ℕ) → x < length lanes → (clock threads clocks x t ≡ none) ⊎ ((slice_index lanes x ≡ t) × (clock threads clocks x t ≡ x)) → (clock threads clocks x t ≡ none) ⊎ IsReached (shape lanes edges) x t (clock threads clocks x t)
    sound x t n (inl e) = inl e
    sound x t n (inr (p, e)) = inr (subst (λ (w : ℕ). IsReached (shape lanes edges) x t w) (sym e) (record { node = n; lane = p; leads = inl refl }))

    own : (x : ℕ) → x < length lanes → clock threads clocks x (slice_index lanes x) ≡ x → clock threads clocks x (slice_index lanes x) ≤ x
    own x n e = omega (arith, e)

pub told-smaller : (old cur new : List ℕ) (inner outer : Bool) → IsTold old cur inner → IsTold cur new outer → ((inner ≡ false) × (outer ≡ true)) ⊎ (inner ≡ true) → sum new < sum old
told-smaller old cur new inner outer a b (inl (p, q)) = let m = ap sum (a.still p) in let k = b.fell q in omega (arith, m, k)
told-smaller old cur new inner outer a b (inr p) = go (cases_Bool outer)
  where
    go : (outer ≡ true) ⊎ (outer ≡ false) → sum new < sum old
    go (inl q) = let m = a.fell p in let k = b.fell q in omega (arith, m, k)
    go (inr q) = let m = a.fell p in let k = ap sum (b.still q) in omega (arith, m, k)
