-- Events sorted by rank, and positions in a row: orders that respect a log.
use Rattle.std.proofs.Common.{◌≡◌, ℕ, ◌<◌, ◌≤◌, Bool, true, false, cond, ltb, List, [], ◌∷◌, length, get_or, map, refl, sym, ◌∙◌, ap, subst, arith, inl, inr, ◌⊎◌}
use Rattle.std.specs.Prelude.{◌≢◌, Contains}
use Rattle.std.specs.List.{AllPairs}
use Rattle.std.proofs.lemmas.Bool.{cases_Bool, cases_order, ltb-true, ltb-false}
use Rattle.std.proofs.lemmas.List.{length-map, get_or-map}
use Rattle.std.proofs.lemmas.List.Elements.{All-contains, All-nil}
use Rattle.std.proofs.lemmas.List.Kept.{AllPairs-cons}
use Rattle.light_base.specs.declared.tag.Event.{Event}
use Rattle.replay_model.specs.Logs.{Log}
use Rattle.replay_model.specs.Events.{IsEvent}
use Rattle.replay_model.specs.WellFormed.{IsWellFormed}
use Rattle.replay_model.specs.Orders.{place, Respects}
use Rattle.replay_laws.proofs.Places.{place-contains, at_place, same_place}
use Rattle.plain_search.specs.declared.Edge.{Edge}
use Rattle.plain_search.specs.Chains.{arrow}
use Rattle.plain_search.specs.Searches.{Solves}
use Rattle.plain_search.proofs.Choosing.{outcome-solved, solved-outcome}
use Rattle.constraints.specs.Positions.{event_list, no_event, event_at, position_of}
use Rattle.constraints.specs.Constraints.{problem_of_log, impossible}
use Rattle.constraints.specs.Laws.{IsOrdering, places_in, RankingsAreOrders, SearchFindsOrders, LinesAreOrders}
use Rattle.constraints.proofs.Members.{contains_none, contains_here, contains_next, contains_cases, of_map, in_map, AllPairs-nil, AllPairs-head, AllPairs-tail}
use Rattle.constraints.proofs.Listed.{of_list, in_list, list_once, position-event, event-position, position-below, event_there}
use Rattle.constraints.proofs.Ranked.{Rises, All-from}
use Rattle.constraints.proofs.Keeping.{keeps_along}
use Rattle.constraints.proofs.Solving.{rank_at, solves-keeps}
use Rattle.constraints.proofs.Respecting.{keeps-respects, respects_is_solving}

abbrev insert : (Event → ℕ) → Event → List Event → List Event
insert at x [] = x ∷ []
insert at x (y ∷ ys) = cond (ltb (at x) (at y)) (x ∷ y ∷ ys) (y ∷ insert at x ys)

-- sorted by rank
abbrev sorted : (Event → ℕ) → List Event → List Event
sorted at [] = []
sorted at (x ∷ xs) = insert at x (sorted at xs)

of_insert : (at : Event → ℕ) (x : Event) (ys : List Event) (e : Event) → Contains (insert at x ys) e → (x ≡ e) ⊎ Contains ys e
of_insert at x [] e c = contains_cases x [] e c
of_insert at x (y ∷ ys) e c = go (of_insert at x ys e) (cases_Bool (ltb (at x) (at y)))
  where
    P : Bool → Type 0
    P b = Contains (cond b (x ∷ y ∷ ys) (y ∷ insert at x ys)) e

    move : (y ≡ e) ⊎ Contains (insert at x ys) e → (Contains (insert at x ys) e → (x ≡ e) ⊎ Contains ys e) → (x ≡ e) ⊎ Contains (y ∷ ys) e
    move (inl q) ih = inr (0, omega arith, q)
    move (inr m) ih = next (ih m)
      where
        next : (x ≡ e) ⊎ Contains ys e → (x ≡ e) ⊎ Contains (y ∷ ys) e
        next (inl q) = inl q
        next (inr k) = inr (contains_next y ys e k)

    go : (Contains (insert at x ys) e → (x ≡ e) ⊎ Contains ys e) → (ltb (at x) (at y) ≡ true) ⊎ (ltb (at x) (at y) ≡ false) → (x ≡ e) ⊎ Contains (y ∷ ys) e
    go ih (inl t) = let Q : Bool → Type 0 = λ b. Contains (cond b (x ∷ y ∷ ys) (y ∷ insert at x ys)) e in contains_cases x (y ∷ ys) e (subst Q t c)
    go ih (inr t) = let Q : Bool → Type 0 = λ b. Contains (cond b (x ∷ y ∷ ys) (y ∷ insert at x ys)) e in move (contains_cases y (insert at x ys) e (subst Q t c)) ih

in_insert : (at : Event → ℕ) (x : Event) (ys : List Event) (e : Event) → (x ≡ e) ⊎ Contains ys e → Contains (insert at x ys) e
in_insert at x [] e (inl q) = (0, omega arith, q)
in_insert at x [] e (inr m) = absurd (contains_none e m)
in_insert at x (y ∷ ys) e h = go (in_insert at x ys e) (cases_Bool (ltb (at x) (at y)))
  where
    front : (x ≡ e) ⊎ Contains (y ∷ ys) e → Contains (x ∷ y ∷ ys) e
    front (inl q) = (0, omega arith, q)
    front (inr m) = contains_next x (y ∷ ys) e m

    back : ((x ≡ e) ⊎ Contains ys e → Contains (insert at x ys) e) → (x ≡ e) ⊎ Contains (y ∷ ys) e → Contains (y ∷ insert at x ys) e
    back ih (inl q) = contains_next y (insert at x ys) e (ih (inl q))
    back ih (inr m) = at_head (contains_cases y ys e m)
      where
        at_head : (y ≡ e) ⊎ Contains ys e → Contains (y ∷ insert at x ys) e
        at_head (inl q) = (0, omega arith, q)
        at_head (inr k) = contains_next y (insert at x ys) e (ih (inr k))

    go : ((x ≡ e) ⊎ Contains ys e → Contains (insert at x ys) e) → (ltb (at x) (at y) ≡ true) ⊎ (ltb (at x) (at y) ≡ false) → Contains (insert at x (y ∷ ys)) e
    go ih (inl t) = rw t (front h)
    go ih (inr t) = rw t (back ih h)

-- later ones are others, and rank no lower
abbrev Sorted : (Event → ℕ) → Event → Event → Type 0
Sorted at a b = (at a ≤ at b) × (a ≢ b)

insert-sorted : (at : Event → ℕ) (x : Event) (ys : List Event) → (Contains ys x → ⊥) → AllPairs (Sorted at) ys → AllPairs (Sorted at) (insert at x ys)
insert-sorted at x [] n h = AllPairs-cons (Sorted at) x [] (All-nil (Sorted at x)) (AllPairs-nil (Sorted at))
insert-sorted at x (y ∷ ys) n h = go (insert-sorted at x ys (λ m. n (contains_next y ys x m)) (AllPairs-tail (Sorted at) y ys h)) (cases_Bool (ltb (at x) (at y)))
  where
    differ : (e : Event) → Contains (y ∷ ys) e → x ≢ e
    differ e m q = n (subst (λ (z : Event). Contains (y ∷ ys) z) (sym q) m)

    above : at x < at y → (e : Event) → Contains (y ∷ ys) e → Sorted at x e
    above l e m = (rank (contains_cases y ys e m), differ e m)
      where
        rank : (y ≡ e) ⊎ Contains ys e → at x ≤ at e
        rank (inl q) = let r = ap at q in omega (arith, l, r)
        rank (inr k) = let r = (All-contains (Sorted at y) ys e (AllPairs-head (Sorted at) y ys h) k).0 in omega (arith, l, r)

    below : at y ≤ at x → (e : Event) → Contains (insert at x ys) e → Sorted at y e
    below l e m = pick (of_insert at x ys e m)
      where
        pick : (x ≡ e) ⊎ Contains ys e → Sorted at y e
        pick (inl q) = (let r = ap at q in omega (arith, l, r), λ s. differ y (contains_here y ys) (q ∙ sym s))
        pick (inr k) = All-contains (Sorted at y) ys e (AllPairs-head (Sorted at) y ys h) k

    go : AllPairs (Sorted at) (insert at x ys) → (ltb (at x) (at y) ≡ true) ⊎ (ltb (at x) (at y) ≡ false) → AllPairs (Sorted at) (insert at x (y ∷ ys))
    go ih (inl t) = rw t (AllPairs-cons (Sorted at) x (y ∷ ys) (All-from (Sorted at x) (y ∷ ys) (above (ltb-true (at x) (at y) t))) h)
    go ih (inr t) = rw t (AllPairs-cons (Sorted at) y (insert at x ys) (All-from (Sorted at y) (insert at x ys) (below (ltb-false (at x) (at y) t))) ih)

of_sorted : (at : Event → ℕ) (xs : List Event) (e : Event) → Contains (sorted at xs) e → Contains xs e
of_sorted at [] e c = c
of_sorted at (x ∷ xs) e c = go (of_sorted at xs e) (of_insert at x (sorted at xs) e c)
  where
    go : (Contains (sorted at xs) e → Contains xs e) → (x ≡ e) ⊎ Contains (sorted at xs) e → Contains (x ∷ xs) e
    go ih (inl q) = (0, omega arith, q)
    go ih (inr m) = contains_next x xs e (ih m)

in_sorted : (at : Event → ℕ) (xs : List Event) (e : Event) → Contains xs e → Contains (sorted at xs) e
in_sorted at [] e c = c
in_sorted at (x ∷ xs) e c = go (in_sorted at xs e) (contains_cases x xs e c)
  where
    go : (Contains xs e → Contains (sorted at xs) e) → (x ≡ e) ⊎ Contains xs e → Contains (insert at x (sorted at xs)) e
    go ih (inl q) = in_insert at x (sorted at xs) e (inl q)
    go ih (inr m) = in_insert at x (sorted at xs) e (inr (ih m))

sorted-sorted : (at : Event → ℕ) (xs : List Event) → AllPairs (λ a b. a ≢ b) xs → AllPairs (Sorted at) (sorted at xs)
sorted-sorted at [] h = AllPairs-nil (Sorted at)
sorted-sorted at (x ∷ xs) h = insert-sorted at x (sorted at xs)
    (λ m. All-contains (λ e. x ≢ e) xs x (AllPairs-head (λ a b. a ≢ b) x xs h) (of_sorted at xs x m) refl)
    (sorted-sorted at xs (AllPairs-tail (λ a b. a ≢ b) x xs h))

-- in the sorted list an event that ranks below another stands before it
sorted-places : (at : Event → ℕ) (order : List Event) → AllPairs (Sorted at) order → (a b : Event) → Contains order a → Contains order b → at a < at b → place order a < place order b
sorted-places at order h a b ca cb l = go (cases_order (place order a) (place order b))
  where
    x : place order a < length order
    x = place-contains order a ca

    y : place order b < length order
    y = place-contains order b cb

    go : (place order a ≡ place order b) ⊎ ((place order a < place order b) ⊎ (place order b < place order a)) → place order a < place order b
    go (inl q) = let e = ap at (same_place order a b q x) in absurd (omega (arith, e, l))
    go (inr (inl m)) = m
    go (inr (inr m)) =
        let r = (h (place order b) (place order a) no_event m x).0 in
        let u = ap at (at_place order b no_event y) in
        let v = ap at (at_place order a no_event x) in
        absurd (omega (arith, r, u, v, l))

-- the events sorted by the ranks of their positions respect the log
pub rank_order : (log : Log) (rank : ℕ → ℕ) → IsWellFormed log → impossible log ≡ false → Solves (problem_of_log log) rank → (order : List Event) × Respects log order
rank_order log rank formed possible solves = (
  order,
  keeps-respects log order ordering possible
      (keeps_along log (rank_at log rank) (place order) formed (λ a b ea eb l. sorted-places (rank_at log rank) order in_order a b (ordering.all a ea) (ordering.all b eb) l) (solves-keeps log rank formed solves)),
)
  where
    order : List Event
    order = sorted (rank_at log rank) (event_list log)

    in_order : AllPairs (Sorted (rank_at log rank)) (sorted (rank_at log rank) (event_list log))
    in_order = sorted-sorted (rank_at log rank) (event_list log) (list_once log)

    ordering : IsOrdering log (sorted (rank_at log rank) (event_list log))
    ordering = record {
      all = λ e is. in_sorted (rank_at log rank) (event_list log) e (in_list log formed e is);
      only = λ e c. of_list log e (of_sorted (rank_at log rank) (event_list log) e c);
      once = λ i j d l m. (in_order i j d l m).1;
    }

pub rankings_are_orders : RankingsAreOrders
rankings_are_orders log formed = (
  λ h. let s = (respects_is_solving log h.0 formed).0 h.1 in (s.1, (places_in log h.0, s.2)),
  λ h. rank_order log h.1.0 formed h.0 h.1.1,
)

pub search_finds_orders : SearchFindsOrders
search_finds_orders log formed = (
  λ h. let s = (rankings_are_orders log formed).0 h in (s.0, solved-outcome (problem_of_log log) s.1.0 s.1.1),
  λ h. (rankings_are_orders log formed).1 (h.0, outcome-solved (problem_of_log log) h.1),
)

-- the same of positions in a row
pub lines_are_orders : LinesAreOrders
lines_are_orders log edges line formed possible row solves = (respects_is_solving log (map (event_at log) line) formed).1
    (record { all = all; only = only; once = once }, possible, solves (places_in log (map (event_at log) line)) (All-from (Rises (places_in log (map (event_at log) line))) edges rises))
  where
    below : (p : ℕ) → Contains line p → p < length (event_list log)
    below p c = All-contains (λ q. q < length (event_list log)) line p row.within c

    all : (e : Event) → IsEvent log e → Contains (map (event_at log) line) e
    all e is =
        let c = in_list log formed e is in
        subst (λ (x : Event). Contains (map (event_at log) line) x) (event-position log e c)
        (in_map (event_at log) line (position_of log e) (row.all (position_of log e) (position-below log e c)))

    only : (e : Event) → Contains (map (event_at log) line) e → IsEvent log e
    only e c =
        let (p, m, q) = of_map (event_at log) line e c in
        subst (IsEvent log) q (of_list log (event_at log p) (event_there log p (below p m)))

    -- the event at each place
    at : (i : ℕ) (d : Event) → i < length line → get_or (map (event_at log) line) i d ≡ event_at log (get_or line i 0)
    at i d l = get_or-map (event_at log) line i 0 d l

    number : (i : ℕ) → i < length line → get_or line i 0 < length (event_list log)
    number i l = row.within i 0 l

    once : (i j : ℕ) (d : Event) → i < j → j < length (map (event_at log) line) → get_or (map (event_at log) line) i d ≢ get_or (map (event_at log) line) j d
    once i j d l m e =
        let jl : j < length line = omega (arith, m, length-map line (event_at log)) in
        let il : i < length line = omega (arith, l, jl) in
        let q : event_at log (get_or line i 0) ≡ event_at log (get_or line j 0) = sym (at i d il) ∙ e ∙ at j d jl in
        row.once i j 0 l jl (sym (position-event log (get_or line i 0) (number i il)) ∙ ap (position_of log) q ∙ position-event log (get_or line j 0) (number j jl))

    -- the number at the place of an event is its position
    found : (p : ℕ) → p < length (event_list log) → (place (map (event_at log) line) (event_at log p) < length line) × (get_or line (place (map (event_at log) line) (event_at log p)) 0 ≡ p)
    found p l =
        let c : Contains (map (event_at log) line) (event_at log p) = in_map (event_at log) line p (row.all p l) in
        let k : place (map (event_at log) line) (event_at log p) < length (map (event_at log) line) = place-contains (map (event_at log) line) (event_at log p) c in
        let m : place (map (event_at log) line) (event_at log p) < length line = omega (arith, k, length-map line (event_at log)) in
        let q : event_at log (get_or line (place (map (event_at log) line) (event_at log p)) 0) ≡ event_at log p =
        sym (at (place (map (event_at log) line) (event_at log p)) no_event m) ∙ at_place (map (event_at log) line) (event_at log p) no_event k in
        (m, sym (position-event log (get_or line (place (map (event_at log) line) (event_at log p)) 0) (number (place (map (event_at log) line) (event_at log p)) m)) ∙ ap (position_of log) q ∙ position-event log p l)

    rises : (e : Edge) → Contains edges e → Rises (places_in log (map (event_at log) line)) e
    rises e c =
        let (u, v) = All-contains (λ (x : Edge). (x.from < length (event_list log)) × (x.to < length (event_list log))) edges e row.ends c in
        let (i, x) = found e.from u in
        let (j, y) = found e.to v in
        row.rising (place (map (event_at log) line) (event_at log e.from)) (place (map (event_at log) line) (event_at log e.to)) i j
        (let q : arrow e.from e.to ≡ arrow (get_or line (place (map (event_at log) line) (event_at log e.from)) 0) (get_or line (place (map (event_at log) line) (event_at log e.to)) 0) = λ k. record { from = sym x k; to = sym y k } in
        subst (λ (z : Edge). Contains edges z) q c)
