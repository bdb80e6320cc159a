-- Places of events in an order, and the tests on events of a log.
use Rattle.std.proofs.Common.{◌≡◌, ℕ, zero, suc, ◌<◌, ◌≤◌, true, false, cond, eqb, List, [], ◌∷◌, length, get_or, refl, sym, ◌∙◌, ap, subst, arith, inl, inr, ◌⊎◌}
use Rattle.std.specs.Prelude.{◌≢◌, Contains, Some, ◌||◌}
use Rattle.std.specs.List.{list_any}
use Rattle.std.proofs.lemmas.List.{get_or_past, get_or_default}
use Rattle.std.proofs.lemmas.List.Elements.{Contains-get_or}
use Rattle.std.proofs.lemmas.Bool.{cases_Bool, cases_lt, cases_order, or_cases, or_left, or_right, cond-true, cond-false, eq-eqb, eqb-true}
use Rattle.replay_model.specs.Steps.{Event, Tag, same_event, same_tag}
use Rattle.replay_model.specs.declared.Entry.{Entry}
use Rattle.replay_model.specs.Logs.{ThreadLog, Log, no_thread, thread_of, HasEntry, first_event, last_event}
use Rattle.replay_model.specs.Events.{IsKept, IsBound, IsEvent, names_source, keeps, is_bound, is_event}
use Rattle.replay_model.specs.Orders.{place}
use Rattle.replay_model.proofs.Tags.{same_event-true, same_event-same, same_event-false, same_tag-true, any-element, element-any}

-- an event of the order stands at its place
pub place-contains : (order : List Event) (e : Event) → Contains order e → place order e < length order
place-contains [] e (k, l, h) = absurd (omega (arith, l))
place-contains (x ∷ order) e (zero, l, h) =
    let k : same_event x e ≡ true = subst (λ (y : Event). same_event y e ≡ true) (sym h) (same_event-same e) in
    rw k (omega arith)
place-contains (x ∷ order) e (suc k, l, h) =
    let ih : place order e < length order = place-contains order e (k, omega arith, h) in
    elim (same_event x e) as (λ v. cond v 0 (suc (place order e)) < suc (length order)) [ true ↦ omega arith | false ↦ omega arith ]

-- the event at a place
pub at_place : (order : List Event) (e d : Event) → place order e < length order → get_or order (place order e) d ≡ e
at_place [] e d h = absurd (omega (arith, h))
at_place (x ∷ order) e d h = go (at_place order e d) (cases_Bool (same_event x e))
  where
    go : (place order e < length order → get_or order (place order e) d ≡ e) → (same_event x e ≡ true) ⊎ (same_event x e ≡ false) →
        get_or (x ∷ order) (cond (same_event x e) 0 (suc (place order e))) d ≡ e
    go ih (inl t) = rw t (same_event-true x e t)
    go ih (inr t) = rw t (ih (let l : cond (same_event x e) 0 (suc (place order e)) < suc (length order) = h in let m : suc (place order e) < suc (length order) = rw t at l in omega arith))

-- what has a place is there
pub Contains-place : (order : List Event) (e : Event) → place order e < length order → Contains order e
Contains-place order e l = (place order e, l, at_place order e e l)

-- one place, one event
pub same_place : (order : List Event) (a b : Event) → place order a ≡ place order b → place order a < length order → a ≡ b
same_place order a b p l =
    let x = at_place order a a l in
    let y = at_place order b a (let q : place order b < length order = omega arith in q) in
    sym x ∙ ap (λ n. get_or order n a) p ∙ y

-- the first event stands at 0
pub place_head : (a : Event) (order : List Event) → place (a ∷ order) a ≡ 0
place_head a order = cond-true (same_event a a) 0 (suc (place order a)) (same_event-same a)

-- another stands one later than in the rest
pub place_next : (a e : Event) (order : List Event) → a ≢ e → place (a ∷ order) e ≡ suc (place order e)
place_next a e order n = cond-false (same_event a e) 0 (suc (place order e)) (same_event-false a e n)

-- each event stands once
abbrev pub IsOnce : List Event → Type 0
IsOnce order = (i j : ℕ) (d : Event) → i < j → j < length order → get_or order i d ≢ get_or order j d

-- an order that holds each event once has the event at i at the place i
pub place_at : (order : List Event) → IsOnce order → (i : ℕ) (d : Event) → i < length order → place order (get_or order i d) ≡ i
place_at order once i d l =
    let c : Contains order (get_or order i d) = Contains-get_or order i d l in
    let b = place-contains order (get_or order i d) c in
    let e = at_place order (get_or order i d) d b in
    go (cases_order (place order (get_or order i d)) i) b e
  where
    go : (place order (get_or order i d) ≡ i) ⊎ ((place order (get_or order i d) < i) ⊎ (i < place order (get_or order i d))) →
        place order (get_or order i d) < length order → get_or order (place order (get_or order i d)) d ≡ get_or order i d → place order (get_or order i d) ≡ i
    go (inl p) b e = p
    go (inr (inl p)) b e = absurd (once _ i d p l e)
    go (inr (inr p)) b e = absurd (once i _ d p b (sym e))

-- a thread that has an entry is in the log
pub entry_thread : (log : Log) (t : ℕ) (entry : Entry) → HasEntry log t entry → t < length log.threads
entry_thread log t entry (k, l, h) = go (cases_lt t (length log.threads))
  where
    go : (t < length log.threads) ⊎ (length log.threads ≤ t) → t < length log.threads
    go (inl l) = l
    go (inr p) = let e = ap (λ (x : ThreadLog). length x.entries) (get_or_past log.threads t no_thread p) in absurd (omega (arith, l, e))

-- the test on kept writes decides
pub keeps-kept : (log : Log) (event : Event) → keeps log event ≡ true → IsKept log event
keeps-kept log event h = go (or_cases (list_any (names_source (Some event)) log.threads) (list_any (same_tag (Some event)) log.last_tags) h)
  where
    go : (list_any (names_source (Some event)) log.threads ≡ true) ⊎ (list_any (same_tag (Some event)) log.last_tags ≡ true) → IsKept log event
    go (inl x) =
        let (thread, (t, tl, at), y) = any-element (names_source (Some event)) log.threads x in
        let (entry, c, z) = any-element (λ (a : Entry). same_tag a.source (Some event)) thread.entries y in
        let s : thread_of log t ≡ thread = get_or_default log.threads t no_thread thread tl ∙ at in
        inl (t, entry, subst (λ (x : ThreadLog). Contains x.entries entry) (sym s) c, same_tag-true entry.source (Some event) z)
    go (inr x) =
        let (tag, c, z) = any-element (same_tag (Some event)) log.last_tags x in
        inr (subst (Contains log.last_tags) (sym (same_tag-true (Some event) tag z)) c)

-- and the other way round
pub kept-keeps : (log : Log) (event : Event) → IsKept log event → keeps log event ≡ true
kept-keeps log event (inl (t, entry, c, q)) =
    let l = entry_thread log t entry c in
    or_left (list_any (names_source (Some event)) log.threads) (list_any (same_tag (Some event)) log.last_tags)
    (element-any (names_source (Some event)) log.threads (thread_of log t) (Contains-get_or log.threads t no_thread l)
    (element-any (λ (a : Entry). same_tag a.source (Some event)) (thread_of log t).entries entry c (subst (λ (x : Tag). same_tag x (Some event) ≡ true) (sym q) (same_event-same event))))
kept-keeps log event (inr c) =
    or_right (list_any (names_source (Some event)) log.threads) (list_any (same_tag (Some event)) log.last_tags)
    (element-any (same_tag (Some event)) log.last_tags (Some event) c (same_event-same event))

-- so does the test on firsts and lasts
pub is_bound-bound : (log : Log) (event : Event) → is_bound log event ≡ true → IsBound log event
is_bound-bound log event h =
    let (entry, c, z) = any-element (λ (a : Entry). eqb event.step a.first || eqb event.step a.last) (thread_of log event.thread).entries h in
    (event.thread, entry, c, which entry (or_cases (eqb event.step entry.first) (eqb event.step entry.last) z))
  where
    which : (entry : Entry) → (eqb event.step entry.first ≡ true) ⊎ (eqb event.step entry.last ≡ true) → (event ≡ first_event event.thread entry) ⊎ (event ≡ last_event event.thread entry)
    which entry (inl s) = let q : event.step ≡ entry.first = eqb-true _ _ s in inl (λ j. record { thread = event.thread; step = q j })
    which entry (inr s) = let q : event.step ≡ entry.last = eqb-true _ _ s in inr (λ j. record { thread = event.thread; step = q j })

-- and the other way round
pub bound-is_bound : (log : Log) (event : Event) → IsBound log event → is_bound log event ≡ true
bound-is_bound log event (t, entry, c, inl q) =
    let P : Event → Type 0 = λ e. is_bound log e ≡ true in
    subst P (sym q) (element-any (λ (a : Entry). eqb entry.first a.first || eqb entry.first a.last) (thread_of log t).entries entry c
    (or_left (eqb entry.first entry.first) (eqb entry.first entry.last) (eq-eqb entry.first entry.first refl)))
bound-is_bound log event (t, entry, c, inr q) =
    let P : Event → Type 0 = λ e. is_bound log e ≡ true in
    subst P (sym q) (element-any (λ (a : Entry). eqb entry.last a.first || eqb entry.last a.last) (thread_of log t).entries entry c
    (or_right (eqb entry.last entry.first) (eqb entry.last entry.last) (eq-eqb entry.last entry.last refl)))

-- the test on events decides
pub is_event-event : (log : Log) (e : Event) → is_event log e ≡ true → IsEvent log e
is_event-event log e h = go (or_cases (keeps log e) (is_bound log e) h)
  where
    go : (keeps log e ≡ true) ⊎ (is_bound log e ≡ true) → IsEvent log e
    go (inl k) = inl (keeps-kept log e k)
    go (inr b) = inr (is_bound-bound log e b)

-- and the other way round
pub event-is_event : (log : Log) (e : Event) → IsEvent log e → is_event log e ≡ true
event-is_event log e (inl k) = or_left (keeps log e) (is_bound log e) (kept-keeps log e k)
event-is_event log e (inr b) = or_right (keeps log e) (is_bound log e) (bound-is_bound log e b)
