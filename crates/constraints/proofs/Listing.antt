-- The tags that a log names, sorted and each kept once, are its events; and where an event stands among them.
use Rattle.std.proofs.Common.{◌≡◌, ℕ, ◌+◌, ◌*◌, ◌^◌, ◌<◌, ◌≤◌, true, false, eqb, ltb, Some, None, nat_cmp, List, [], ◌∷◌, length, get_or, sym, ◌∙◌, ap, subst, arith, inl, inr, ◌⊎◌}
use Rattle.std.specs.Prelude.{Contains, ◌&&◌}
use Rattle.std.specs.Ordering.{on}
use Rattle.std.specs.List.{dedup, filter_map, flat_map}
use Rattle.std.specs.List.Sorted.{IsSorted, IsPermutation, IsPartitionPoint, IsPartitionedBy}
use Rattle.std.specs.declared.cmp.Ordering.TheVariants.{Less}
use Rattle.std.proofs.lemmas.Cmp.{nat_cmp_total, on_total, on_equiv, nat_eq_equiv}
use Rattle.std.proofs.lemmas.Bool.{cases_order, cases_lt, eqb-true, eq-eqb, ltb-true, lt-ltb, or_cases, or_left, or_right, and_parts, and_from, both_ways}
use Rattle.std.proofs.lemmas.List.Sorted.{Contains-permutation, IsPermutation-sym}
use Rattle.std.proofs.lemmas.List.Kept.{Any-dedup, Contains-from_dedup}
use Rattle.std.proofs.lemmas.List.Elements.{Contains-append_left, Contains-append_right, Contains-append_cases}
use Rattle.light_base.specs.Tags.{HasTag, bits_of, writer_of}
use Rattle.light_base.specs.declared.tag.Event.{Event}
use Rattle.light_base.specs.declared.tag.Tag.{Tag}
use Rattle.light_base.proofs.Tags.{writer_of-bits_of}
use Rattle.replay_model.specs.declared.Entry.{Entry}
use Rattle.replay_model.specs.Logs.{Log, thread_of, HasEntry, first_event, last_event}
use Rattle.replay_model.specs.Events.{IsEvent}
use Rattle.replay_model.specs.WellFormed.{IsWellFormed}
use Rattle.replay_model.specs.Orders.{place}
use Rattle.replay_laws.proofs.Places.{place-contains, at_place, entry_thread}
use Rattle.constraints.specs.Positions.{thread_numbers, event_list, is_before, IsListed}
use Rattle.constraints.specs.Building.{mentioned_by, mentioned_tags}
use Rattle.constraints.proofs.Members.{contains_none, contains_cases, of_flat_map, in_flat_map, in_range}
use Rattle.constraints.proofs.Listed.{Before, event_taken, of_list, in_list, list_before}
use Rattle.constraints.proofs.Strict.{same_ordered, deduped, nat_ties, nat-less, of_filter_map, in_filter_map, AllPairs-filter_map}
use Rattle.constraints.proofs.Naming.{steps_small}

pub before-is : (a b : Event) → is_before a b ≡ true → Before a b
before-is a b h = go (or_cases (ltb a.thread b.thread) (eqb a.thread b.thread && ltb a.step b.step) h)
  where
    go : (ltb a.thread b.thread ≡ true) ⊎ ((eqb a.thread b.thread && ltb a.step b.step) ≡ true) → Before a b
    go (inl t) = inl (ltb-true a.thread b.thread t)
    go (inr t) = let (p, q) = and_parts (eqb a.thread b.thread) (ltb a.step b.step) t in inr (eqb-true a.thread b.thread p, ltb-true a.step b.step q)

pub is-before : (a b : Event) → Before a b → is_before a b ≡ true
is-before a b (inl l) = or_left (ltb a.thread b.thread) (eqb a.thread b.thread && ltb a.step b.step) (lt-ltb a.thread b.thread l)
is-before a b (inr (q, l)) = or_right (ltb a.thread b.thread) (eqb a.thread b.thread && ltb a.step b.step) (and_from (eqb a.thread b.thread) (ltb a.step b.step) (eq-eqb a.thread b.thread q) (lt-ltb a.step b.step l))

pub before_asym : (a b : Event) → Before a b → Before b a → ⊥
before_asym a b (inl l) (inl m) = absurd (omega (arith, l, m))
before_asym a b (inl l) (inr (q, m)) = absurd (omega (arith, l, q))
before_asym a b (inr (p, l)) (inl m) = absurd (omega (arith, p, m))
before_asym a b (inr (p, l)) (inr (q, m)) = absurd (omega (arith, l, m))

pub before_trans : (a b c : Event) → Before a b → Before b c → Before a c
before_trans a b c (inl l) (inl m) = inl (omega (arith, l, m))
before_trans a b c (inl l) (inr (q, m)) = inl (omega (arith, l, q))
before_trans a b c (inr (p, l)) (inl m) = inl (omega (arith, p, m))
before_trans a b c (inr (p, l)) (inr (q, m)) = inr (p ∙ q, omega (arith, l, m))

pub list-listed : (log : Log) → IsListed (event_list log)
list-listed log i j d l m = is-before (get_or (event_list log) i d) (get_or (event_list log) j d) (list_before log i j d l m)

-- where a list of events passes the test to come before one of them, its place is
pub listed-partitioned : (events : List Event) (e : Event) → IsListed events → IsPartitionedBy (λ (x : Event). is_before x e) events
listed-partitioned events e h i j d l m t = go (cases_lt i j)
  where
    go : (i < j) ⊎ (j ≤ i) → is_before (get_or events i d) e ≡ true
    go (inl s) = is-before (get_or events i d) e (before_trans (get_or events i d) (get_or events j d) e (before-is (get_or events i d) (get_or events j d) (h i j d s m)) (before-is (get_or events j d) e t))
    go (inr s) = let q : j ≡ i = omega (arith, l, s) in let P : ℕ → Type 0 = λ n. is_before (get_or events n d) e ≡ true in subst P q t

pub point-place : (events : List Event) (e : Event) (i : ℕ) → IsListed events → Contains events e → i ≤ length events →
    IsPartitionPoint (λ (x : Event). is_before x e ≡ true) (λ (x : Event). is_before x e ≡ false) events i → i ≡ place events e
point-place events e i h c l (low, high) = go (cases_order i (place events e))
  where
    k : place events e < length events
    k = place-contains events e c

    at : get_or events (place events e) e ≡ e
    at = at_place events e e k

    not_self : is_before e e ≡ true → ⊥
    not_self t = let b = before-is e e t in before_asym e e b b

    go : (i ≡ place events e) ⊎ ((i < place events e) ⊎ (place events e < i)) → i ≡ place events e
    go (inl q) = q
    go (inr (inl m)) =
        let s : is_before (get_or events i e) (get_or events (place events e) e) ≡ true = h i (place events e) e m k in
        let P : Event → Type 0 = λ x. is_before (get_or events i e) x ≡ true in
        absurd (both_ways (is_before (get_or events i e) e) (high i e (omega arith) (let n = k in omega (arith, m, n))) (subst P at s))
    go (inr (inr m)) =
        let P : Event → Type 0 = λ x. is_before x e ≡ true in
        absurd (not_self (subst P at (low (place events e) e (omega arith) m)))

-- each event of a well-formed log has a tag
pub event_tagged : (log : Log) → IsWellFormed log → (e : Event) → IsEvent log e → HasTag e
event_tagged log formed e is =
    let taken = event_taken log formed e is in
    let l : e.thread < length log.threads = taken.thread in
    let n = formed.range.threads in
    let f = taken.first in
    let m = taken.last in
    let s = steps_small log formed e.thread l in
    record { thread = omega (arith, l, n); first = f; last = omega (arith, m, s) }

-- the events that a log names by tags are its events
pub of_mentioned : (log : Log) (e : Event) → Contains (mentioned_tags log) (Some e) → IsEvent log e
of_mentioned log e c = go (Contains-append_cases (flat_map (λ t. flat_map (mentioned_by t) (thread_of log t).entries) (thread_numbers log)) log.last_tags (Some e) c)
  where
    one : (a b : Event) → Some a ≡ Some b → b ≡ a
    one a b h = cc

    by : (t : ℕ) (a : Entry) → HasEntry log t a → Contains (mentioned_by t a) (Some e) → IsEvent log e
    by t a h c = first (contains_cases a.source (Some (first_event t a) ∷ Some (last_event t a) ∷ []) (Some e) c)
      where
        third : (Some (last_event t a) ≡ Some e) ⊎ Contains [] (Some e) → IsEvent log e
        third (inl q) = inr (t, a, h, inr (one (last_event t a) e q))
        third (inr n) = absurd (contains_none (Some e) n)

        second : (Some (first_event t a) ≡ Some e) ⊎ Contains (Some (last_event t a) ∷ []) (Some e) → IsEvent log e
        second (inl q) = inr (t, a, h, inl (one (first_event t a) e q))
        second (inr n) = third (contains_cases (Some (last_event t a)) [] (Some e) n)

        first : (a.source ≡ Some e) ⊎ Contains (Some (first_event t a) ∷ Some (last_event t a) ∷ []) (Some e) → IsEvent log e
        first (inl q) = inl (inl (t, a, h, q))
        first (inr n) = second (contains_cases (Some (first_event t a)) (Some (last_event t a) ∷ []) (Some e) n)

    go : Contains (flat_map (λ t. flat_map (mentioned_by t) (thread_of log t).entries) (thread_numbers log)) (Some e) ⊎ Contains log.last_tags (Some e) → IsEvent log e
    go (inl m) =
        let (t, u, d) = of_flat_map (λ t. flat_map (mentioned_by t) (thread_of log t).entries) (thread_numbers log) (Some e) m in
        let (a, h, n) = of_flat_map (mentioned_by t) (thread_of log t).entries (Some e) d in
        by t a h n
    go (inr m) = inl (inr m)

pub in_mentioned : (log : Log) (e : Event) → IsEvent log e → Contains (mentioned_tags log) (Some e)
in_mentioned log e is = go is
  where
    all : List Tag
    all = flat_map (λ t. flat_map (mentioned_by t) (thread_of log t).entries) (thread_numbers log)

    named : (t : ℕ) (a : Entry) → HasEntry log t a → Contains (mentioned_by t a) (Some e) → Contains (mentioned_tags log) (Some e)
    named t a h c =
        let l = entry_thread log t a h in
        Contains-append_left (flat_map (λ t. flat_map (mentioned_by t) (thread_of log t).entries) (thread_numbers log)) log.last_tags (Some e)
        (in_flat_map (λ t. flat_map (mentioned_by t) (thread_of log t).entries) (thread_numbers log) t (Some e) (in_range 0 (length log.threads) t (omega arith) (omega (arith, l)))
        (in_flat_map (mentioned_by t) (thread_of log t).entries a (Some e) h c))

    go : IsEvent log e → Contains (mentioned_tags log) (Some e)
    go (inl (inl (t, a, h, q))) = named t a h (0, omega arith, q)
    go (inl (inr m)) = Contains-append_right (flat_map (λ t. flat_map (mentioned_by t) (thread_of log t).entries) (thread_numbers log)) log.last_tags (Some e) m
    go (inr (t, a, h, inl q)) = named t a h (1, omega arith, ap Some (sym q))
    go (inr (t, a, h, inr q)) = named t a h (2, omega arith, ap Some (sym q))

-- tagged events with one number are one
one_number : (x y : Event) → HasTag x → HasTag y → eqb (bits_of (Some x)) (bits_of (Some y)) ≡ true → x ≡ y
one_number x y h g t =
    let q : bits_of (Some x) ≡ bits_of (Some y) = eqb-true (bits_of (Some x)) (bits_of (Some y)) t in
    let e : Some x ≡ Some y = sym (writer_of-bits_of (Some x) h) ∙ ap writer_of q ∙ writer_of-bits_of (Some y) g in
    cc

-- no event has the number of nobody
no_number : (x : Event) → HasTag x → eqb (bits_of (Some x)) 0 ≡ true → ⊥
no_number x h t = let q : bits_of (Some x) ≡ 0 = eqb-true (bits_of (Some x)) 0 t in absurd (omega (arith, q))

numbers_rise : (x y : Event) → HasTag x → HasTag y → bits_of (Some x) < bits_of (Some y) → Before x y
numbers_rise x y h g l =
    let a = h.last in let b = g.first in let c = g.last in
    go (cases_order x.thread y.thread)
  where
    go : (x.thread ≡ y.thread) ⊎ ((x.thread < y.thread) ⊎ (y.thread < x.thread)) → Before x y
    go (inl q) = inr (q, omega (arith, l, q))
    go (inr (inl m)) = inl m
    go (inr (inr m)) =
        let a = g.last in
        let n : (y.thread + 1) * 2 ^ 28 + 2 ^ 28 ≤ (x.thread + 1) * 2 ^ 28 = omega (arith, m) in
        absurd (omega (arith, l, n, a))

-- sorted by number, and each kept once
pub sorted_tags : (log : Log) → IsWellFormed log → (ys : List Tag) → IsPermutation (mentioned_tags log) ys → IsSorted (on bits_of nat_cmp) ys →
    filter_map (λ (tag : Tag). tag) (dedup (λ a b. eqb (bits_of a) (bits_of b)) ys) ≡ event_list log
sorted_tags log formed ys perm sorted = same_ordered Before before_asym (filter_map (λ (tag : Tag). tag) zs) (event_list log)
    (AllPairs-filter_map (λ (tag : Tag). tag) (λ a b. on bits_of nat_cmp a b ≡ Less) Before zs rise (deduped (on_total bits_of nat_cmp_total) (λ a b. nat_ties (bits_of a) (bits_of b)) ys sorted))
    (list_before log) there back
  where
    zs : List Tag
    zs = dedup (λ a b. eqb (bits_of a) (bits_of b)) ys

    named : (e : Event) → Contains (dedup (λ a b. eqb (bits_of a) (bits_of b)) ys) (Some e) → IsEvent log e
    named e c = of_mentioned log e (Contains-permutation ys (mentioned_tags log) (Some e) (IsPermutation-sym (mentioned_tags log) ys perm)
        (Contains-from_dedup (λ (a b : Tag). eqb (bits_of a) (bits_of b)) ys (Some e) c))

    rise : (x y : Tag) (a b : Event) → Contains (dedup (λ a b. eqb (bits_of a) (bits_of b)) ys) x → Contains (dedup (λ a b. eqb (bits_of a) (bits_of b)) ys) y → x ≡ Some a → y ≡ Some b → on bits_of nat_cmp x y ≡ Less → Before a b
    rise x y a b c d p q h =
        let P : Tag → Type 0 = λ tag. Contains (dedup (λ a b. eqb (bits_of a) (bits_of b)) ys) tag in
        let ha = event_tagged log formed a (named a (subst P p c)) in
        let hb = event_tagged log formed b (named b (subst P q d)) in
        let l : bits_of x < bits_of y = nat-less (bits_of x) (bits_of y) h in
        let u = ap bits_of p in
        let v = ap bits_of q in
        numbers_rise a b ha hb (omega (arith, l, u, v))

    there : (e : Event) → Contains (filter_map (λ (tag : Tag). tag) (dedup (λ a b. eqb (bits_of a) (bits_of b)) ys)) e → Contains (event_list log) e
    there e c =
        let (tag, m, q) = of_filter_map (λ (tag : Tag). tag) (dedup (λ a b. eqb (bits_of a) (bits_of b)) ys) e c in
        let P : Tag → Type 0 = λ tag. Contains (dedup (λ a b. eqb (bits_of a) (bits_of b)) ys) tag in
        in_list log formed e (named e (subst P q m))

    back : (e : Event) → Contains (event_list log) e → Contains (filter_map (λ (tag : Tag). tag) (dedup (λ a b. eqb (bits_of a) (bits_of b)) ys)) e
    back e c =
        let is = of_list log e c in
        let m : Contains ys (Some e) = Contains-permutation (mentioned_tags log) ys (Some e) perm (in_mentioned log e is) in
        let (k, tag, l, at, same) = Any-dedup (on_equiv bits_of nat_eq_equiv) ys (Some e) m in
        found tag (k, l, at) same (event_tagged log formed e is)
      where
        found : (tag : Tag) → Contains (dedup (λ a b. eqb (bits_of a) (bits_of b)) ys) tag → eqb (bits_of (Some e)) (bits_of tag) ≡ true → HasTag e →
            Contains (filter_map (λ (tag : Tag). tag) (dedup (λ a b. eqb (bits_of a) (bits_of b)) ys)) e
        found None c same h = absurd (no_number e h same)
        found (Some x) c same h = in_filter_map (λ (tag : Tag). tag) (dedup (λ a b. eqb (bits_of a) (bits_of b)) ys) (Some x) e c
            (ap Some (sym (one_number e x h (event_tagged log formed x (named x c)) same)))
