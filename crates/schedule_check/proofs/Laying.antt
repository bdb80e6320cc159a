-- Places of a log's events in an order, by the places of their positions.
use Rattle.std.proofs.Common.{◌≡◌, ℕ, suc, ◌<◌, ◌≤◌, true, false, eqb, None, List, [], ◌∷◌, length, map, get_or, refl, sym, ◌∙◌, ap, subst, arith, inl, inr, ◌⊎◌}
use Rattle.std.specs.Prelude.{Contains}
use Rattle.std.proofs.lemmas.Bool.{cases_Bool, cases_lt, both_ways, eqb-true, eq-eqb, ne_eqb}
use Rattle.std.proofs.lemmas.List.{length-map, get_or-map}
use Rattle.std.proofs.lemmas.List.Elements.{Contains-get_or}
use Rattle.light_base.specs.declared.tag.Event.{Event}
use Rattle.replay_model.specs.Steps.{same_event}
use Rattle.replay_model.specs.Logs.{Log}
use Rattle.replay_model.specs.Events.{IsEvent}
use Rattle.replay_model.specs.Orders.{place}
use Rattle.replay_model.specs.WellFormed.{IsWellFormed}
use Rattle.replay_model.proofs.Tags.{same_event-true, same_event-same}
use Rattle.replay_laws.proofs.Places.{place-contains, Contains-place, same_place}
use Rattle.order_judge.specs.Places as judge
use Rattle.order_judge.specs.Places.{IsOrder, ArePlaces, IsUnknown, IsTwice, IsMissing, IsLeast, IsNever}
use Rattle.order_judge.proofs.Filling as nodes
use Rattle.constraints.specs.Positions.{no_event, event_list}
use Rattle.constraints.proofs.Listed.{of_list, in_list, position-event}
use Rattle.schedule_check.specs.declared.faults.OrderKind.TheVariants.{Unknown, Twice, Missing}
use Rattle.schedule_check.specs.Faults.{fault, first_unknown, first_twice, first_missing}
use Rattle.schedule_check.specs.Turns.{at}
use Rattle.schedule_check.proofs.Told.{Told, AreKnown, event_of, unknown-none, unknown-some, twice-none, twice-some, missing-none, missing-some}

-- the positions of the events of an order
abbrev pub nodes_of : Log → List Event → List ℕ
nodes_of log order = map (place (event_list log)) order

abbrev pub count_of : Log → ℕ
count_of log = length (event_list log)

pub node-at : (log : Log) (order : List Event) (k : ℕ) → k < length order → get_or (nodes_of log order) k 0 ≡ place (event_list log) (at order k)
node-at log order k l = get_or-map (place (event_list log)) order k no_event 0 l

pub node-count : (log : Log) (order : List Event) → length (nodes_of log order) ≡ length order
node-count log order = length-map order (place (event_list log))

-- what has no position is no event of the log
pub unknown-event : (log : Log) (order : List Event) → IsWellFormed log → (k : ℕ) → IsUnknown (count_of log) (nodes_of log order) k → (k < length order) × (IsEvent log (at order k) → ⊥)
unknown-event log order formed k (l, h) =
    let c = node-count log order in
    let m : k < length order = omega (arith, l, c) in
    (m, λ i. let p = place-contains (event_list log) (at order k) (in_list log formed (at order k) i) in let e = node-at log order k m in omega (arith, h, e, p))

pub known-event : (log : Log) (order : List Event) (k : ℕ) → k < length order → (IsUnknown (count_of log) (nodes_of log order) k → ⊥) → IsEvent log (at order k)
known-event log order k l never = go (cases_lt (place (event_list log) (at order k)) (count_of log))
  where
    go : (place (event_list log) (at order k) < count_of log) ⊎ (count_of log ≤ place (event_list log) (at order k)) → IsEvent log (at order k)
    go (inl m) = of_list log (at order k) (Contains-place (event_list log) (at order k) m)
    go (inr m) = absurd (never (let c = node-count log order in omega (arith, l, c), let e = node-at log order k l in omega (arith, m, e)))

-- where all events have positions, an event and its position have the same place
pub place_map : (events order : List Event) (e : Event) → Contains events e → ((k : ℕ) → k < length order → Contains events (at order k)) → judge.place (map (place events) order) (place events e) ≡ place order e
place_map events [] e c known = refl
place_map events (x ∷ order) e c known = go (cases_Bool (same_event x e)) (place_map events order e c (λ k l. known (suc k) (omega (arith, l))))
  where
    go : (same_event x e ≡ true) ⊎ (same_event x e ≡ false) → judge.place (map (place events) order) (place events e) ≡ place order e → judge.place (map (place events) (x ∷ order)) (place events e) ≡ place (x ∷ order) e
    go (inl t) ih =
        let s : eqb (place events x) (place events e) ≡ true = eq-eqb (place events x) (place events e) (ap (place events) (same_event-true x e t)) in
        rw (s, t) refl
    go (inr t) ih =
        let other : place events x ≡ place events e → ⊥ = λ q.
        let same : x ≡ e = same_place events x e q (place-contains events x (known 0 (omega arith))) in
        let P : Event → Type 0 = λ y. same_event y e ≡ true in
        both_ways (same_event x e) t (subst P (sym same) (same_event-same e)) in
        let s : eqb (place events x) (place events e) ≡ false = ne_eqb (place events x) (place events e) other in
        rw (s, t) (ap suc ih)

-- where all events are known
pub record IsKnown (log : Log) (order : List Event) : Type 0 where
  pub formed : IsWellFormed log
  pub known : AreKnown log order

pub all_known : (log : Log) (order : List Event) → IsWellFormed log → IsNever (IsUnknown (count_of log) (nodes_of log order)) → IsKnown log order
all_known log order formed never = record { formed = formed; known = λ k l. known-event log order k l (never k) }

pub place-node : (log : Log) (order : List Event) → IsKnown log order → (e : Event) → IsEvent log e → judge.place (nodes_of log order) (place (event_list log) e) ≡ place order e
place-node log order k e i = place_map (event_list log) order e (in_list log k.formed e i) (λ j l. in_list log k.formed (at order j) (k.known j l))

-- the place of what stands at a position
node-place : (log : Log) (order : List Event) → IsKnown log order → (k : ℕ) → k < length order → judge.place (nodes_of log order) (get_or (nodes_of log order) k 0) ≡ place order (at order k)
node-place log order known k l = ap (judge.place (nodes_of log order)) (node-at log order k l) ∙ place-node log order known (at order k) (known.known k l)

pub twice-event : (log : Log) (order : List Event) → IsKnown log order → (k : ℕ) → IsTwice (nodes_of log order) k → (k < length order) × (place order (at order k) < k)
twice-event log order known k (l, h) =
    let c = node-count log order in
    let m : k < length order = omega (arith, l, c) in
    let e = node-place log order known k m in
    (m, omega (arith, h, e))

pub once-event : (log : Log) (order : List Event) → IsKnown log order → (k : ℕ) → k < length order → (IsTwice (nodes_of log order) k → ⊥) → k ≤ place order (at order k)
once-event log order known k l never = go (cases_lt (place order (at order k)) k)
  where
    go : (place order (at order k) < k) ⊎ (k ≤ place order (at order k)) → k ≤ place order (at order k)
    go (inl m) = absurd (never (let c = node-count log order in omega (arith, l, c), let e = node-place log order known k l in omega (arith, m, e)))
    go (inr m) = m

-- the event at a position of the list, and its position
event-known : (log : Log) (x : ℕ) → x < count_of log → IsEvent log (event_of log x)
event-known log x l = of_list log (event_of log x) (Contains-get_or (event_list log) x no_event l)

node-event : (log : Log) (order : List Event) → IsKnown log order → (x : ℕ) → x < count_of log → judge.place (nodes_of log order) x ≡ place order (event_of log x)
node-event log order known x l = ap (judge.place (nodes_of log order)) (sym (position-event log x l)) ∙ place-node log order known (event_of log x) (event-known log x l)

contains-node : (order : List ℕ) (x : ℕ) → judge.place order x < length order → Contains order x
contains-node [] x l = absurd (omega (arith, l))
contains-node (y ∷ order) x l = go (cases_Bool (eqb y x)) (contains-node order x) l
  where
    go : (eqb y x ≡ true) ⊎ (eqb y x ≡ false) → (judge.place order x < length order → Contains order x) → judge.place (y ∷ order) x < length (y ∷ order) → Contains (y ∷ order) x
    go (inl t) ih l = (0, omega arith, eqb-true y x t)
    go (inr t) ih l =
        let m : suc (judge.place order x) < suc (length order) = rw t at l in
        let (k, n, e) = ih (omega (arith, m)) in
        (suc k, omega (arith, n), e)

pub missing-event : (log : Log) (order : List Event) → IsKnown log order → (x : ℕ) → IsMissing (count_of log) (nodes_of log order) x → (x < count_of log) × (length order ≤ place order (event_of log x))
missing-event log order known x (l, h) = (l, go (cases_lt (place order (event_of log x)) (length order)))
  where
    go : (place order (event_of log x) < length order) ⊎ (length order ≤ place order (event_of log x)) → length order ≤ place order (event_of log x)
    go (inl m) = absurd (h (contains-node (nodes_of log order) x (let e = node-event log order known x l in let c = node-count log order in omega (arith, m, e, c))))
    go (inr m) = m

pub present-event : (log : Log) (order : List Event) → IsKnown log order → (x : ℕ) → x < count_of log → (IsMissing (count_of log) (nodes_of log order) x → ⊥) → place order (event_of log x) < length order
present-event log order known x l never = go (cases_lt (place order (event_of log x)) (length order))
  where
    go : (place order (event_of log x) < length order) ⊎ (length order ≤ place order (event_of log x)) → place order (event_of log x) < length order
    go (inl m) = m
    go (inr m) = absurd (never (
      l,
      λ c.
          let (a, b) = nodes.at_place (nodes_of log order) x c in
          let e = node-event log order known x l in
          let n = node-count log order in
          omega (arith, a, e, n, m),
    ))

-- what a list of positions that is no order of them says of the events

pub unknown_told : (log : Log) (order : List Event) → IsWellFormed log → (k : ℕ) → IsLeast (IsUnknown (count_of log) (nodes_of log order)) k → Told (first_unknown log order) (fault Unknown k 0)
unknown_told log order formed k (h, least) =
    let (l, n) = unknown-event log order formed k h in
    unknown-some log order k l n (λ m b. known-event log order m (omega (arith, b, l)) (least m b))

pub none_unknown : (log : Log) (order : List Event) → IsKnown log order → first_unknown log order ≡ None
none_unknown log order known = unknown-none log order known.known

pub twice_told : (log : Log) (order : List Event) → IsKnown log order → (k : ℕ) → IsLeast (IsTwice (nodes_of log order)) k → Told (first_twice order) (fault Twice k 0)
twice_told log order known k (h, least) =
    let (l, n) = twice-event log order known k h in
    twice-some order k l n (λ m b. once-event log order known m (omega (arith, b, l)) (least m b))

pub none_twice : (log : Log) (order : List Event) → IsKnown log order → IsNever (IsTwice (nodes_of log order)) → first_twice order ≡ None
none_twice log order known never = twice-none order (λ k l. once-event log order known k l (never k))

pub missing_told : (log : Log) (order : List Event) → IsKnown log order → (x : ℕ) → IsLeast (IsMissing (count_of log) (nodes_of log order)) x → Told (first_missing log order) (fault Missing x 0)
missing_told log order known x (h, least) =
    let (l, n) = missing-event log order known x h in
    missing-some log order x l n (λ y b. present-event log order known y (omega (arith, b, l)) (least y b))

-- an order of all positions
pub order_known : (log : Log) (order : List Event) → IsOrder (count_of log) (nodes_of log order) → IsNever (IsUnknown (count_of log) (nodes_of log order))
order_known log order o k (l, h) = let m = o.only (get_or (nodes_of log order) k 0) (nodes.contains_at (nodes_of log order) k l) in omega (arith, m, h)

pub order_once : (log : Log) (order : List Event) → IsOrder (count_of log) (nodes_of log order) → IsNever (IsTwice (nodes_of log order))
order_once log order o k (l, h) = let e = nodes.place_at (count_of log) (nodes_of log order) o k l in omega (arith, e, h)

pub order_present : (log : Log) (order : List Event) → IsOrder (count_of log) (nodes_of log order) → IsNever (IsMissing (count_of log) (nodes_of log order))
order_present log order o x (l, h) = h (o.all x l)

pub none_missing : (log : Log) (order : List Event) → IsKnown log order → IsNever (IsMissing (count_of log) (nodes_of log order)) → first_missing log order ≡ None
none_missing log order known never = missing-none log order (λ x l. present-event log order known x l (never x))
