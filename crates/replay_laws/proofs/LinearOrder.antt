-- Where its runs are put into one order, the events of a log in that order respect it.
use Rattle.std.proofs.Common.{◌≡◌, ℕ, ◌<◌, ◌≤◌, List, length, refl, sym, ◌∙◌, ap, subst, arith, inl, inr, ◌⊎◌}
use Rattle.std.specs.Prelude.{◌≢◌, Contains, Some, None, filter}
use Rattle.std.proofs.lemmas.List.{get_or_default}
use Rattle.std.proofs.lemmas.Bool.{cases_lt}
use Rattle.replay_model.specs.Steps.{Event, Tag, Step}
use Rattle.replay_model.specs.declared.Entry.{Entry}
use Rattle.replay_model.specs.Threads.{Threads}
use Rattle.replay_model.specs.Logs.{Log, HasEntry, last_tag, first_event, last_event}
use Rattle.replay_model.specs.RunLogs.{Tallies}
use Rattle.replay_model.specs.Events.{IsEvent, is_event}
use Rattle.replay_model.specs.Orders.{place, Respects}
use Rattle.replay_model.specs.Fitting.{HasWritten, Fits}
use Rattle.replay_laws.proofs.Places.{Contains-place, same_place, is_event-event, event-is_event}
use Rattle.replay_laws.proofs.FilterPlaces.{Contains-filter, filter-test, place_filter-in, place_filter-lt, place_filter-le, once_filter}
use Rattle.replay_laws.proofs.Linear.{IsSourceAt, IsLinear}
use Rattle.replay_laws.proofs.LinearReads.{told, last_read, event_placed, source_before, before_last}

module _ (threads : Threads) (tallies : Tallies) (initial : List ℕ) (log : Log) (runs : List (List Step)) (all : List Event)
    (fits : Fits threads tallies initial log runs) (linear : IsLinear (length initial) runs all log.last_tags) where
  le : (a b : Event) → IsEvent log a → IsEvent log b → place all a ≤ place all b → place (filter (is_event log) all) a ≤ place (filter (is_event log) all) b
  le a b ea eb l = place_filter-le (is_event log) all a b (event-is_event log a ea) (event-is_event log b eb) (event_placed threads tallies initial log runs all fits linear a ea) l

  rising_at : (a b : Event) → Contains (filter (is_event log) all) a → Contains (filter (is_event log) all) b → a.thread ≡ b.thread → a.step < b.step →
      place (filter (is_event log) all) a < place (filter (is_event log) all) b
  rising_at a b ca cb t s =
      let (la, ha) = linear.taken a (Contains-filter (is_event log) all a ca) in
      let (lb, hb) = linear.taken b (Contains-filter (is_event log) all b cb) in
      place_filter-lt (is_event log) all a b (filter-test (is_event log) all a ca) (filter-test (is_event log) all b cb) (linear.rising a b la hb t s)

  apart_at : (t u : ℕ) (a b : Entry) (x y : Event) → HasEntry log t a → HasEntry log u b → a.word ≡ b.word → a.source ≡ Some x → b.source ≡ Some y → x ≢ y →
      (place (filter (is_event log) all) (last_event t a) ≤ place (filter (is_event log) all) y) ⊎ (place (filter (is_event log) all) (last_event u b) ≤ place (filter (is_event log) all) x)
  apart_at t u a b x y ca cb w xq yq ne = go (cases_lt (place all y) (place all (last_event t a))) (cases_lt (place all x) (place all (last_event u b)))
    where
      go : (place all y < place all (last_event t a)) ⊎ (place all (last_event t a) ≤ place all y) → (place all x < place all (last_event u b)) ⊎ (place all (last_event u b) ≤ place all x) →
          (place (filter (is_event log) all) (last_event t a) ≤ place (filter (is_event log) all) y) ⊎ (place (filter (is_event log) all) (last_event u b) ≤ place (filter (is_event log) all) x)
      go (inr l) r = inl (le (last_event t a) y (inr (t, a, ca, inr refl)) (inl (inl (u, b, cb, yq))) l)
      go (inl l) (inr m) = inr (le (last_event u b) x (inr (u, b, cb, inr refl)) (inl (inl (t, a, ca, xq))) m)
      go (inl l) (inl m) =
          let (v, yw) = (told threads tallies initial log runs all fits linear).sources u b y cb yq in
          let (n, xw) = (told threads tallies initial log runs all fits linear).sources t a x ca xq in
          let (p, pq, pl) = before_last threads tallies initial log runs all fits linear t a y v ca (subst (λ (k : ℕ). HasWritten runs y k v) (sym w) yw) l in
          let (r, rq, rl) = before_last threads tallies initial log runs all fits linear u b x n cb (subst (λ (k : ℕ). HasWritten runs x k n) w xw) m in
          let px : p ≡ x = let z : Some p ≡ Some x = sym pq ∙ xq in cc z in
          let ry : r ≡ y = let z : Some r ≡ Some y = sym rq ∙ yq in cc z in
          let pl2 : place all y ≤ place all x = subst (λ (e : Event). place all y ≤ place all e) px pl in
          let rl2 : place all x ≤ place all y = subst (λ (e : Event). place all x ≤ place all e) ry rl in
          absurd (ne (same_place all x y (omega arith) (event_placed threads tallies initial log runs all fits linear x (inl (inl (t, a, ca, xq))))))

  initial_at : (t u : ℕ) (a b : Entry) (y : Event) → HasEntry log t a → HasEntry log u b → a.word ≡ b.word → a.source ≡ None → b.source ≡ Some y →
      place (filter (is_event log) all) (last_event t a) ≤ place (filter (is_event log) all) y
  initial_at t u a b y ca cb w i yq = go (cases_lt (place all y) (place all (last_event t a)))
    where
      go : (place all y < place all (last_event t a)) ⊎ (place all (last_event t a) ≤ place all y) → place (filter (is_event log) all) (last_event t a) ≤ place (filter (is_event log) all) y
      go (inr l) = le (last_event t a) y (inr (t, a, ca, inr refl)) (inl (inl (u, b, cb, yq))) l
      go (inl l) =
          let (v, yw) = (told threads tallies initial log runs all fits linear).sources u b y cb yq in
          let (p, pq, pl) = before_last threads tallies initial log runs all fits linear t a y v ca (subst (λ (k : ℕ). HasWritten runs y k v) (sym w) yw) l in
          absurd (let z : None ≡ Some p = sym i ∙ pq in cc z)

  final_at : (t : ℕ) (a : Entry) → HasEntry log t a → a.source ≢ last_tag log a.word →
      (z : Event) × (last_tag log a.word ≡ Some z) × (place (filter (is_event log) all) (last_event t a) ≤ place (filter (is_event log) all) z)
  final_at t a ca ne = go (linear.final a.word wl)
    where
      wl : a.word < length initial
      wl = (last_read threads tallies initial log runs all fits linear t a ca).0

      placed : (e : Event) → IsEvent log e → place all e < length all
      placed e ev = event_placed threads tallies initial log runs all fits linear e ev

      go : IsSourceAt runs all (length all) a.word (last_tag log a.word) →
          (z : Event) × (last_tag log a.word ≡ Some z) × (place (filter (is_event log) all) (last_event t a) ≤ place (filter (is_event log) all) z)
      go (inl (i, none)) = from a.source refl
        where
          from : (tag : Tag) → a.source ≡ tag → (z : Event) × (last_tag log a.word ≡ Some z) × (place (filter (is_event log) all) (last_event t a) ≤ place (filter (is_event log) all) z)
          from None q = absurd (ne (q ∙ sym i))
          from (Some s) q =
              let (v, sw) = (told threads tallies initial log runs all fits linear).sources t a s ca q in
              let m = none s v sw in
              let p = placed s (inl (inl (t, a, ca, q))) in
              absurd (omega arith)
      go (inr (z, v, zq, zw, zd, latest)) = (z, zq, near (cases_lt (place all z) (place all (last_event t a))))
        where
          wl2 : a.word < length log.last_tags
          wl2 = let s = fits.words in let w = wl in omega arith

          kept : IsEvent log z
          kept = inl (inr (a.word, wl2, get_or_default log.last_tags a.word (Some z) None wl2 ∙ zq))

          near : (place all z < place all (last_event t a)) ⊎ (place all (last_event t a) ≤ place all z) → place (filter (is_event log) all) (last_event t a) ≤ place (filter (is_event log) all) z
          near (inr l) = le (last_event t a) z (inr (t, a, ca, inr refl)) kept l
          near (inl l) =
              let (p, pq, pl) = before_last threads tallies initial log runs all fits linear t a z v ca zw l in
              let (u, pw) = (told threads tallies initial log runs all fits linear).sources t a p ca pq in
              let pp = placed p (inl (inl (t, a, ca, pq))) in
              let y = latest p u pw pp in
              let same : p ≡ z = same_place all p z (omega arith) pp in
              absurd (ne (pq ∙ ap Some same ∙ sym zq))

  -- the order's part that the log's events are
  pub linear_respects : Respects log (filter (is_event log) all)
  linear_respects = record {
    all = λ e ev. Contains-place (filter (is_event log) all) e (place_filter-in (is_event log) all e (event-is_event log e ev) (event_placed threads tallies initial log runs all fits linear e ev));
    only = λ e c. is_event-event log e (filter-test (is_event log) all e c);
    once = once_filter (is_event log) all linear.once;
    rising = λ a b ca cb t s. rising_at a b ca cb t s;
    source_first = λ t a s c q. place_filter-lt (is_event log) all s (first_event t a) (event-is_event log s (inl (inl (t, a, c, q)))) (event-is_event log (first_event t a) (inr (t, a, c, inl refl)))
        (source_before threads tallies initial log runs all fits linear t a s c q);
    apart = λ t u a b x y ca cb w xq yq ne. apart_at t u a b x y ca cb w xq yq ne;
    from_initial = λ t u a b y ca cb w i yq. initial_at t u a b y ca cb w i yq;
    final = λ t a c ne. final_at t a c ne;
  }
