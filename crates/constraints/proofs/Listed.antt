-- The list of a log's events: what it holds, and positions in it.
use Rattle.std.proofs.Common.{◌≡◌, ℕ, ◌<◌, Bool, true, length, get_or, map, refl, sym, ◌∙◌, ap, subst, arith, inl, inr, ◌⊎◌}
use Rattle.std.specs.Prelude.{◌≢◌, Contains, Some}
use Rattle.std.specs.List.{range_with_len, AllPairs}
use Rattle.std.proofs.lemmas.Bool.{cases_order}
use Rattle.std.proofs.lemmas.List.{get_or_default}
use Rattle.std.proofs.lemmas.List.Elements.{Contains-get_or}
use Rattle.std.proofs.lemmas.List.Kept.{AllPairs-filter}
use Rattle.light_base.specs.declared.tag.Event.{Event}
use Rattle.light_base.specs.declared.tag.Tag.{Tag}
use Rattle.replay_model.specs.declared.Entry.{Entry}
use Rattle.replay_model.specs.Logs.{Log, thread_of, HasEntry, last_tag, first_event, last_event}
use Rattle.replay_model.specs.Events.{IsEvent, is_event}
use Rattle.replay_model.specs.WellFormed.{IsWellFormed, IsEntryOf, IsTaken, IsTagOf}
use Rattle.replay_laws.proofs.Places.{place-contains, at_place, same_place, place_at, IsOnce, entry_thread, is_event-event, event-is_event}
use Rattle.constraints.specs.Positions.{event, thread_numbers, events_of_thread, event_list, no_event, event_at, position_of, positions_where}
use Rattle.constraints.proofs.Members.{of_filter, in_filter, of_map, in_map, of_flat_map, in_flat_map, of_range, in_range, AllPairs-map, AllPairs-flat_map, range-rising, Rising}

-- by thread, and then by number
abbrev pub Before : Event → Event → Type 0
Before a b = (a.thread < b.thread) ⊎ ((a.thread ≡ b.thread) × (a.step < b.step))

pub of_thread : (log : Log) (t : ℕ) (e : Event) → Contains (events_of_thread log t) e → (e.thread ≡ t) × IsEvent log e
of_thread log t e c =
    let (m, h) = of_filter (is_event log) (map (event t) (range_with_len 1 (thread_of log t).steps)) e c in
    let (n, d, q) = of_map (event t) (range_with_len 1 (thread_of log t).steps) e m in
    (sym (ap (λ (x : Event). x.thread) q), is_event-event log e h)

pub in_thread : (log : Log) (e : Event) → IsTaken log e → IsEvent log e → Contains (events_of_thread log e.thread) e
in_thread log e taken is =
    in_filter (is_event log) (map (event e.thread) (range_with_len 1 (thread_of log e.thread).steps)) e
    (in_map (event e.thread) (range_with_len 1 (thread_of log e.thread).steps) e.step (let l = taken.first in let m = taken.last in in_range 1 (thread_of log e.thread).steps e.step (omega (arith, l)) (omega (arith, m))))
    (event-is_event log e is)

-- the source of an entry, and its first and last, are steps that threads took
pub entry_is : (log : Log) → IsWellFormed log → (t : ℕ) (a : Entry) → HasEntry log t a → IsEntryOf log (thread_of log t) a
entry_is log formed t a c = (formed.threads t (entry_thread log t a c)).each a c

pub tag_taken : (log : Log) (tag : Tag) (e : Event) → tag ≡ Some e → IsTagOf log tag → IsTaken log e
tag_taken log tag e q h = let P : Tag → Type 0 = λ x. IsTagOf log x in subst P q h

pub event_taken : (log : Log) → IsWellFormed log → (e : Event) → IsEvent log e → IsTaken log e
event_taken log formed e (inl (inl (t, a, c, q))) = tag_taken log a.source e q (entry_is log formed t a c).source
event_taken log formed e (inl (inr (w, l, h))) =
    let s : last_tag log w ≡ Some e = get_or_default log.last_tags w _ _ l ∙ h in
    tag_taken log (last_tag log w) e s (formed.last_tags w l)
event_taken log formed e (inr (t, a, c, inl q)) = subst (IsTaken log) (sym q) (first (entry_is log formed t a c))
  where
    first : IsEntryOf log (thread_of log t) a → IsTaken log (first_event t a)
    first h = record { thread = entry_thread log t a c; first = h.low; last = let l = h.between in let m = h.high in omega (arith, l, m) }
event_taken log formed e (inr (t, a, c, inr q)) = subst (IsTaken log) (sym q) (last (entry_is log formed t a c))
  where
    last : IsEntryOf log (thread_of log t) a → IsTaken log (last_event t a)
    last h = record { thread = entry_thread log t a c; first = let l = h.low in let m = h.between in omega (arith, l, m); last = h.high }

-- the list holds the events of the log, and nothing else
pub of_list : (log : Log) (e : Event) → Contains (event_list log) e → IsEvent log e
unfolding event_list
of_list log e c = let (t, m, d) = of_flat_map (events_of_thread log) (thread_numbers log) e c in (of_thread log t e d).1

pub in_list : (log : Log) → IsWellFormed log → (e : Event) → IsEvent log e → Contains (event_list log) e
unfolding event_list
in_list log formed e is =
    let taken = event_taken log formed e is in
    let l : e.thread < length log.threads = taken.thread in
    in_flat_map (events_of_thread log) (thread_numbers log) e.thread e (in_range 0 (length log.threads) e.thread (omega arith) (omega (arith, l))) (in_thread log e taken is)

-- it goes by thread, and then by number
pub thread_before : (log : Log) (t : ℕ) → AllPairs Before (events_of_thread log t)
thread_before log t = AllPairs-filter Before (is_event log) (map (event t) (range_with_len 1 (thread_of log t).steps))
    (AllPairs-map (event t) (λ m n. m < n) Before (λ m n l. inr (refl, l)) (range_with_len 1 (thread_of log t).steps) (range-rising 1 (thread_of log t).steps))

pub list_before : (log : Log) → AllPairs Before (event_list log)
unfolding event_list
list_before log = AllPairs-flat_map (events_of_thread log) Before (λ t u. t < u) (thread_before log)
    (λ t u x y l c d. let p = (of_thread log t x c).0 in let q = (of_thread log u y d).0 in inl (omega (arith, p, q, l)))
    (thread_numbers log) (range-rising 0 (length log.threads))

pub before_apart : (a b : Event) → Before a b → a ≢ b
before_apart a b (inl l) e = let q = ap (λ (x : Event). x.thread) e in absurd (omega (arith, l, q))
before_apart a b (inr (s, l)) e = let q = ap (λ (x : Event). x.step) e in absurd (omega (arith, l, q))

-- so it holds each event once
pub list_once : (log : Log) → IsOnce (event_list log)
list_once log i j d l m = before_apart (get_or (event_list log) i d) (get_or (event_list log) j d) (list_before log i j d l m)

-- the event at a position is an event, and has that position
pub event_there : (log : Log) (p : ℕ) → p < length (event_list log) → Contains (event_list log) (event_at log p)
event_there log p l = Contains-get_or (event_list log) p no_event l

pub position-event : (log : Log) (p : ℕ) → p < length (event_list log) → position_of log (event_at log p) ≡ p
position-event log p l = place_at (event_list log) (list_once log) p no_event l

pub event-position : (log : Log) (e : Event) → Contains (event_list log) e → event_at log (position_of log e) ≡ e
event-position log e c = at_place (event_list log) e no_event (place-contains (event_list log) e c)

pub position-below : (log : Log) (e : Event) → Contains (event_list log) e → position_of log e < length (event_list log)
position-below log e c = place-contains (event_list log) e c

-- one position, one event
pub one_position : (log : Log) (a b : Event) → Contains (event_list log) a → position_of log a ≡ position_of log b → a ≡ b
one_position log a b c q = same_place (event_list log) a b q (place-contains (event_list log) a c)

-- an event that comes before another one has the lower position
pub positions_rise : (log : Log) (a b : Event) → Contains (event_list log) a → Contains (event_list log) b → Before a b → position_of log a < position_of log b
positions_rise log a b c d h = go (cases_order (position_of log a) (position_of log b))
  where
    no : (x y : Event) → Before x y → Before y x → ⊥
    no x y (inl l) (inl m) = absurd (omega (arith, l, m))
    no x y (inl l) (inr (q, m)) = absurd (omega (arith, l, q))
    no x y (inr (p, l)) (inl m) = absurd (omega (arith, p, m))
    no x y (inr (p, l)) (inr (q, m)) = absurd (omega (arith, l, m))

    go : (position_of log a ≡ position_of log b) ⊎ ((position_of log a < position_of log b) ⊎ (position_of log b < position_of log a)) → position_of log a < position_of log b
    go (inl q) = absurd (before_apart a b h (one_position log a b c q))
    go (inr (inl l)) = l
    go (inr (inr l)) =
        let r = list_before log (position_of log b) (position_of log a) no_event l (position-below log a c) in
        let x : event_at log (position_of log b) ≡ b = event-position log b d in
        let y : event_at log (position_of log a) ≡ a = event-position log a c in
        absurd (no a b h (subst (λ (e : Event). Before b e) y (subst (λ (e : Event). Before e (event_at log (position_of log a))) x r)))

-- and the other way round
pub before_from : (log : Log) (p q : ℕ) → p < q → q < length (event_list log) → Before (event_at log p) (event_at log q)
before_from log p q l m = list_before log p q no_event l m

-- the positions of the events that pass a test
pub of_positions : (log : Log) (test : Event → Bool) (p : ℕ) → Contains (positions_where log test) p → (p < length (event_list log)) × (test (event_at log p) ≡ true)
of_positions log test p c =
    let (m, t) = of_filter (λ q. test (event_at log q)) (range_with_len 0 (length (event_list log))) p c in
    let (l, k) = of_range 0 (length (event_list log)) p m in (omega (arith, k), t)

pub in_positions : (log : Log) (test : Event → Bool) (p : ℕ) → p < length (event_list log) → test (event_at log p) ≡ true → Contains (positions_where log test) p
in_positions log test p l t = in_filter (λ q. test (event_at log q)) (range_with_len 0 (length (event_list log))) p (in_range 0 (length (event_list log)) p (omega arith) (omega (arith, l))) t

pub positions-rising : (log : Log) (test : Event → Bool) → Rising (positions_where log test)
positions-rising log test = AllPairs-filter (λ m n. m < n) (λ q. test (event_at log q)) (range_with_len 0 (length (event_list log))) (range-rising 0 (length (event_list log)))
