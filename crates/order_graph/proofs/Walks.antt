use Rattle.std.proofs.Common.{◌≡◌, ℕ, zero, suc, ◌+◌, ◌-◌, ◌<◌, ◌≤◌, List, [], ◌∷◌, ◌++◌, length, take, sym, ◌∙◌, ap, subst, arith, inl, inr, ◌⊎◌}
use Rattle.std.specs.Prelude.{Contains, slice_index}
use Rattle.std.proofs.lemmas.List.Elements.{Contains-append_left, Contains-push, Contains-push_cases}
use Rattle.std.proofs.lemmas.List.{get_or-take, length-take}
use Rattle.plain_search.specs.declared.Edge.{Edge}
use Rattle.order_graph.specs.Shapes.{Shape, arrow, IsStep, IsWalk, IsBefore, Leads, with_edge, first_edges}

-- walks join
pub walks_join : (g : Shape) (u : ℕ) (a : List ℕ) (m : ℕ) (b : List ℕ) (v : ℕ) → IsWalk g u a m → IsWalk g m b v → IsWalk g u (a ++ m ∷ b) v
walks_join g u [] m b v s w = (s, w)
walks_join g u (n ∷ a) m b v (s, r) w = (s, walks_join g n a m b v r w)

pub before-trans : (g : Shape) (u m v : ℕ) → IsBefore g u m → IsBefore g m v → IsBefore g u v
before-trans g u m v p q = record { between = p.between ++ m ∷ q.between; walk = walks_join g u p.between m q.between v p.walk q.walk }

pub before-step : (g : Shape) (u v : ℕ) → IsStep g u v → IsBefore g u v
before-step g u v s = record { between = []; walk = s }

pub leads_before : (g : Shape) (u m v : ℕ) → Leads g u m → IsBefore g m v → IsBefore g u v
leads_before g u m v (inl e) q = subst (λ (k : ℕ). IsBefore g k v) (sym e) q
leads_before g u m v (inr p) q = before-trans g u m v p q

pub before_leads : (g : Shape) (u m v : ℕ) → IsBefore g u m → Leads g m v → IsBefore g u v
before_leads g u m v p (inl e) = subst (λ (k : ℕ). IsBefore g u k) e p
before_leads g u m v p (inr q) = before-trans g u m v p q

pub leads-trans : (g : Shape) (u m v : ℕ) → Leads g u m → Leads g m v → Leads g u v
leads-trans g u m v (inl e) q = subst (λ (k : ℕ). Leads g k v) (sym e) q
leads-trans g u m v (inr p) q = inr (before_leads g u m v p q)

-- what does not fall along a step does not fall along a walk
pub walk-rises : (g : Shape) (f : ℕ → ℕ) → ((a b : ℕ) → IsStep g a b → f a ≤ f b) → (u : ℕ) (between : List ℕ) (v : ℕ) → IsWalk g u between v → f u ≤ f v
walk-rises g f h u [] v s = h u v s
walk-rises g f h u (m ∷ between) v (s, w) = let a = h u m s in let b = walk-rises g f h m between v w in omega (arith, a, b)

-- with more steps there are more walks
pub walk-wider : (g h : Shape) → ((a b : ℕ) → IsStep g a b → IsStep h a b) → (u : ℕ) (between : List ℕ) (v : ℕ) → IsWalk g u between v → IsWalk h u between v
walk-wider g h k u [] v s = k u v s
walk-wider g h k u (m ∷ between) v (s, w) = (k u m s, walk-wider g h k m between v w)

pub before-wider : (g h : Shape) → ((a b : ℕ) → IsStep g a b → IsStep h a b) → (u v : ℕ) → IsBefore g u v → IsBefore h u v
before-wider g h k u v p = record { between = p.between; walk = walk-wider g h k u p.between v p.walk }

pub step-with : (g : Shape) (u v a b : ℕ) → IsStep g a b → IsStep (with_edge g u v) a b
step-with g u v a b (inl c) = inl (Contains-append_left g.added (arrow u v ∷ []) (arrow a b) c)
step-with g u v a b (inr n) = inr n

pub step-new : (g : Shape) (u v : ℕ) → IsStep (with_edge g u v) u v
step-new g u v = inl (Contains-push g.added (arrow u v))

pub step-with_cases : (g : Shape) (u v a b : ℕ) → IsStep (with_edge g u v) a b → IsStep g a b ⊎ ((u ≡ a) × (v ≡ b))
step-with_cases g u v a b (inl c) = go (Contains-push_cases g.added (arrow u v) (arrow a b) c)
  where
    go : Contains g.added (arrow a b) ⊎ (arrow u v ≡ arrow a b) → IsStep g a b ⊎ ((u ≡ a) × (v ≡ b))
    go (inl k) = inl (inl k)
    go (inr e) = inr (ap (λ (x : Edge). x.from) e, ap (λ (x : Edge). x.to) e)
step-with_cases g u v a b (inr n) = inl (inr n)

-- a walk with one edge more goes without it, or to its start and on from its end
pub walk-split : (g : Shape) (u v : ℕ) (x : ℕ) (between : List ℕ) (y : ℕ) → IsWalk (with_edge g u v) x between y → IsBefore g x y ⊎ (Leads g x u × Leads g v y)
walk-split g u v x [] y s = go (step-with_cases g u v x y s)
  where
    go : IsStep g x y ⊎ ((u ≡ x) × (v ≡ y)) → IsBefore g x y ⊎ (Leads g x u × Leads g v y)
    go (inl k) = inl (before-step g x y k)
    go (inr (p, q)) = inr (inl (sym p), inl q)
walk-split g u v x (m ∷ between) y (s, w) = go (step-with_cases g u v x m s) (walk-split g u v m between y w)
  where
    go : IsStep g x m ⊎ ((u ≡ x) × (v ≡ m)) → IsBefore g m y ⊎ (Leads g m u × Leads g v y) → IsBefore g x y ⊎ (Leads g x u × Leads g v y)
    go (inl k) (inl r) = inl (before-trans g x m y (before-step g x m k) r)
    go (inl k) (inr (l, r)) = inr (inr (before_leads g x m u (before-step g x m k) l), r)
    go (inr (p, q)) (inl r) = inr (inl (sym p), inr (subst (λ (k : ℕ). IsBefore g k y) (sym q) r))
    go (inr (p, q)) (inr (l, r)) = inr (inl (sym p), r)

-- an edge closes no cycle where its end does not lead to its start
pub acyclic-with : (g : Shape) (u v : ℕ) → ((x : ℕ) → IsBefore g x x → ⊥) → (Leads g v u → ⊥) → (x : ℕ) → IsBefore (with_edge g u v) x x → ⊥
acyclic-with g u v none shut x p = go (walk-split g u v x p.between x p.walk)
  where
    go : IsBefore g x x ⊎ (Leads g x u × Leads g v x) → ⊥
    go (inl k) = none x k
    go (inr (l, r)) = shut (leads-trans g v x u r l)

pub contains-take : (count : ℕ) (edges : List Edge) (e : Edge) → Contains (take count edges) e → Contains edges e
contains-take count edges e (k, l, h) =
    let m = length-take count edges in
    let n : k < count = omega (arith, m, l) in
    (k, omega (arith, m, l), sym (get_or-take count edges k e n) ∙ h)

pub step-first : (g : Shape) (count : ℕ) (a b : ℕ) → IsStep (first_edges g count) a b → IsStep g a b
step-first g count a b (inl c) = inl (contains-take count g.added (arrow a b) c)
step-first g count a b (inr n) = inr n

-- along a thread
pub chain-walk : (g : Shape) → ((i j : ℕ) → i ≤ j → j < length g.lanes → slice_index g.lanes i ≤ slice_index g.lanes j) →
    (x d : ℕ) → x + suc d < length g.lanes → slice_index g.lanes x ≡ slice_index g.lanes (x + suc d) → IsBefore g x (x + suc d)
chain-walk g rising x zero l e = before-step g x (x + suc zero) (inr (record { next = omega arith; node = l; lane = e }))
chain-walk g rising x (suc d) l e =
    let a = rising x (x + suc d) (omega arith) (omega (arith, l)) in
    let b = rising (x + suc d) (x + suc (suc d)) (omega arith) l in
    before-trans g x (x + suc d) (x + suc (suc d)) (chain-walk g rising x d (omega (arith, l)) (omega (arith, a, b, e)))
    (before-step g (x + suc d) (x + suc (suc d)) (inr (record { next = omega arith; node = l; lane = omega (arith, a, b, e) })))

pub chain-before : (g : Shape) → ((i j : ℕ) → i ≤ j → j < length g.lanes → slice_index g.lanes i ≤ slice_index g.lanes j) →
    (x y : ℕ) → x < y → y < length g.lanes → slice_index g.lanes x ≡ slice_index g.lanes y → IsBefore g x y
chain-before g rising x y l n e =
    let q : x + suc (y - x - 1) ≡ y = omega (arith, l) in
    let r : IsBefore g x (x + suc (y - x - 1)) = chain-walk g rising x (y - x - 1) (rw q n) (rw q e) in
    subst (λ (k : ℕ). IsBefore g x k) q r
