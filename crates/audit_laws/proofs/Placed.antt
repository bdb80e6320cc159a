-- The events and the writes of a history are a placing.
use Rattle.std.proofs.Common.{◌≡◌, ℕ, ◌-◌, ◌<◌, ◌≤◌, true, Option, List, length, take, refl, sym, ◌∙◌, ap, subst, arith, inl, inr, ◌⊎◌}
use Rattle.std.specs.Prelude.{◌≢◌, Contains, Some, None, filter, is_some}
use Rattle.std.proofs.lemmas.Bool.{cases_lt, or_cases, or_left, or_right}
use Rattle.replay_model.specs.Steps.{Event, Step, word_of, wrote, has_ended}
use Rattle.replay_model.specs.declared.Want.{Want}
use Rattle.replay_model.specs.declared.Entry.{Entry}
use Rattle.replay_model.specs.Threads.{Threads, StaysWithin}
use Rattle.replay_model.specs.Histories.{steps_of}
use Rattle.replay_model.specs.Logs.{Log, HasEntry, last_tag, first_event, last_event}
use Rattle.replay_model.specs.RunLogs.{Tallies}
use Rattle.replay_model.specs.Events.{is_event}
use Rattle.replay_model.specs.Orders.{place}
use Rattle.replay_model.specs.Fitting.{step_at, HasWritten, Fits}
use Rattle.replay_model.proofs.Moves.{in_range}
use Rattle.replay_laws.proofs.Places.{Contains-place, same_place, is_event-event, event-is_event}
use Rattle.replay_laws.proofs.FilterPlaces.{Contains-filter, filter-test, place_filter-in, place_filter-lt, place_filter-le, once_filter}
use Rattle.replay_laws.proofs.Skip.{IsOutside}
use Rattle.replay_laws.proofs.Linear.{IsSourceAt, IsLinear}
use Rattle.replay_laws.proofs.LinearReads.{event_placed, source_before, before_last}
use Rattle.audit_laws.specs.Placings.{IsPlaced, Places, is_placed}

-- a write is made to a word that is there
pub written_word : (threads : Threads) (tallies : Tallies) (initial : List ℕ) (log : Log) (runs : List (List Step)) → StaysWithin threads (length initial) →
    Fits threads tallies initial log runs → (e : Event) (word v : ℕ) → HasWritten runs e word v → word < length initial
written_word threads tallies initial log runs within fits e word v hw =
    let low = hw.low in let high = hw.high in
    let l : e.step - 1 < length (steps_of runs e.thread) = omega arith in
    let r = fits.run e.thread (in_range runs e.thread (e.step - 1) l) in
    let w = r.wants (e.step - 1) l in
    subst (λ (x : ℕ). x < length initial) hw.to (subst (λ (x : Want). word_of x < length initial) w
    (within e.thread (take (e.step - 1) (steps_of runs e.thread)) (ap has_ended w ∙ r.lives (e.step - 1) l)))

module _ (threads : Threads) (tallies : Tallies) (initial : List ℕ) (log : Log) (runs : List (List Step)) (all : List Event) (within : StaysWithin threads (length initial))
    (fits : Fits threads tallies initial log runs) (linear : IsLinear (length initial) runs all log.last_tags) where
  abbrev placing : List Event
  placing = filter (is_placed log runs) all

  -- what has a place passes the test
  test_true : (e : Event) → IsPlaced log runs e → is_placed log runs e ≡ true
  test_true e (inl ev) = or_left (is_event log e) (is_some (wrote (step_at runs e).want (step_at runs e).found)) (event-is_event log e ev)
  test_true e (inr (word, v, hw)) = or_right (is_event log e) (is_some (wrote (step_at runs e).want (step_at runs e).found)) (ap is_some hw.wrote)

  -- and the other way round
  true_test : (e : Event) → Contains all e → is_placed log runs e ≡ true → IsPlaced log runs e
  true_test e c h = go (or_cases (is_event log e) (is_some (wrote (step_at runs e).want (step_at runs e).found)) h)
    where
      by : (written : Option ℕ) → wrote (step_at runs e).want (step_at runs e).found ≡ written → is_some written ≡ true → (word value : ℕ) × HasWritten runs e word value
      by None q t = cc t
      by (Some v) q t = let (lo, hi) = linear.taken e c in (word_of (step_at runs e).want, v, record { low = lo; high = hi; to = refl; wrote = q })

      go : (is_event log e ≡ true) ⊎ (is_some (wrote (step_at runs e).want (step_at runs e).found) ≡ true) → IsPlaced log runs e
      go (inl t) = inl (is_event-event log e t)
      go (inr t) = inr (by _ refl t)

  placed : (e : Event) → IsPlaced log runs e → place all e < length all
  placed e (inl ev) = event_placed threads tallies initial log runs all fits linear e ev
  placed e (inr (word, v, hw)) = linear.placed e hw.low hw.high

  le : (a b : Event) → IsPlaced log runs a → IsPlaced log runs b → place all a ≤ place all b → place placing a ≤ place placing b
  le a b pa pb l = place_filter-le (is_placed log runs) all a b (test_true a pa) (test_true b pb) (placed a pa) l

  lt : (a b : Event) → IsPlaced log runs a → IsPlaced log runs b → place all a < place all b → place placing a < place placing b
  lt a b pa pb l = place_filter-lt (is_placed log runs) all a b (test_true a pa) (test_true b pb) l

  apart_at : (t : ℕ) (a : Entry) (w : Event) (v : ℕ) → HasEntry log t a → HasWritten runs w a.word v → a.source ≢ Some w →
      IsOutside placing t a w
  apart_at t a w v h hw ne = go (cases_lt (place all w) (place all (last_event t a)))
    where
      go : (place all w < place all (last_event t a)) ⊎ (place all (last_event t a) ≤ place all w) → IsOutside placing t a w
      go (inr l) = inl (le (last_event t a) w (inl (inr (t, a, h, inr refl))) (inr (a.word, v, hw)) l)
      go (inl l) =
          let (s, q, m) = before_last threads tallies initial log runs all fits linear t a w v h hw l in
          inr (s, q, lt w s (inr (a.word, v, hw)) (inl (inl (inl (t, a, h, q)))) (strict s q m (cases_lt (place all w) (place all s))))
        where
          strict : (s : Event) → a.source ≡ Some s → place all w ≤ place all s → (place all w < place all s) ⊎ (place all s ≤ place all w) → place all w < place all s
          strict s q m (inl x) = x
          strict s q m (inr x) = absurd (ne (q ∙ ap Some (sym (same_place all w s (omega arith) (placed w (inr (a.word, v, hw)))))))

  final_at : (word v : ℕ) (w : Event) → HasWritten runs w word v →
      (z : Event) × (last_tag log word ≡ Some z) × (place placing w ≤ place placing z)
  final_at word v w hw = go (linear.final word (written_word threads tallies initial log runs within fits w word v hw))
    where
      go : IsSourceAt runs all (length all) word (last_tag log word) →
          (z : Event) × (last_tag log word ≡ Some z) × (place placing w ≤ place placing z)
      go (inl (q, none)) = absurd (let n = none w v hw in let p = placed w (inr (word, v, hw)) in omega arith)
      go (inr (z, u, q, zw, d, latest)) = (z, q, le w z (inr (word, v, hw)) (inr (word, u, zw)) (latest w v hw (placed w (inr (word, v, hw)))))

  -- where the runs are put into one order, what has a place in it is a placing
  pub linear_places : Places log runs placing
  linear_places = record {
    all = λ e p. Contains-place placing e (place_filter-in (is_placed log runs) all e (test_true e p) (placed e p));
    only = λ e c. true_test e (Contains-filter (is_placed log runs) all e c) (filter-test (is_placed log runs) all e c);
    once = once_filter (is_placed log runs) all linear.once;
    rising = λ a b ca cb t s.
        let (la, ha) = linear.taken a (Contains-filter (is_placed log runs) all a ca) in
        let (lb, hb) = linear.taken b (Contains-filter (is_placed log runs) all b cb) in
        place_filter-lt (is_placed log runs) all a b (filter-test (is_placed log runs) all a ca) (filter-test (is_placed log runs) all b cb) (linear.rising a b la hb t s);
    source_first = λ t a s h q. lt s (first_event t a) (inl (inl (inl (t, a, h, q)))) (inl (inr (t, a, h, inl refl))) (source_before threads tallies initial log runs all fits linear t a s h q);
    apart = apart_at;
    final = final_at;
  }
