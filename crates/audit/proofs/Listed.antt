-- The list of the steps that have a place: what it holds, and positions in it.
use Rattle.std.proofs.Common.{◌≡◌, ℕ, ◌<◌, ◌≤◌, Bool, true, List, length, get_or, map, ◌-◌, refl, sym, ap, arith, inl, inr, ◌⊎◌}
use Rattle.std.specs.Prelude.{Contains, is_some, Some, None, Option}
use Rattle.std.specs.List.{range_with_len, AllPairs}
use Rattle.std.proofs.lemmas.Bool.{or_cases, or_left, or_right}
use Rattle.std.proofs.lemmas.List.Elements.{Contains-get_or}
use Rattle.std.proofs.lemmas.List.Kept.{AllPairs-filter}
use Rattle.light_base.specs.declared.tag.Event.{Event}
use Rattle.replay_model.specs.Steps.{Step, word_of, wrote}
use Rattle.replay_model.specs.Histories.{steps_of}
use Rattle.replay_model.specs.Logs.{Log}
use Rattle.replay_model.specs.Events.{is_event}
use Rattle.replay_model.specs.Fitting.{step_at, HasWritten}
use Rattle.replay_model.proofs.Moves.{in_range}
use Rattle.replay_laws.proofs.Places.{place-contains, at_place, same_place, place_at, IsOnce, is_event-event, event-is_event}
use Rattle.replay_laws.proofs.Skip.{Told}
use Rattle.replay_laws.proofs.Advance.{event_inside}
use Rattle.audit_laws.specs.Placings.{IsPlaced, is_placed}
use Rattle.constraints.specs.Positions.{event, thread_numbers, no_event}
use Rattle.constraints.proofs.Members.{of_filter, in_filter, of_map, in_map, of_flat_map, in_flat_map, of_range, in_range as range-in, AllPairs-map, AllPairs-flat_map, range-rising, Rising}
use Rattle.constraints.proofs.Listed.{Before, before_apart}
use Rattle.audit.specs.Positions.{placed_of_thread, placed_list, placed_at, position_of, positions_where}

-- a step passes the test exactly where it is an event or wrote
pub placed-test : (log : Log) (runs : List (List Step)) (e : Event) → IsPlaced log runs e → is_placed log runs e ≡ true
placed-test log runs e (inl ev) = or_left (is_event log e) (is_some (wrote (step_at runs e).want (step_at runs e).found)) (event-is_event log e ev)
placed-test log runs e (inr (word, v, hw)) = or_right (is_event log e) (is_some (wrote (step_at runs e).want (step_at runs e).found)) (ap is_some hw.wrote)

-- what a step wrote, where it did
pub written-at : (runs : List (List Step)) (e : Event) → 1 ≤ e.step → e.step ≤ length (steps_of runs e.thread) →
    is_some (wrote (step_at runs e).want (step_at runs e).found) ≡ true → (v : ℕ) × HasWritten runs e (word_of (step_at runs e).want) v
written-at runs e lo hi h = by (wrote (step_at runs e).want (step_at runs e).found) refl h
  where
    by : (written : Option ℕ) → wrote (step_at runs e).want (step_at runs e).found ≡ written → is_some written ≡ true → (v : ℕ) × HasWritten runs e (word_of (step_at runs e).want) v
    by None q t = cc t
    by (Some v) q t = (v, record { low = lo; high = hi; to = refl; wrote = q })

module _ (initial : List ℕ) (log : Log) (runs : List (List Step)) (told : Told initial log runs) (counted : length log.threads ≡ length runs) where
  -- what has a place is a step that its thread took
  pub taken : (e : Event) → IsPlaced log runs e → (1 ≤ e.step) × (e.step ≤ length (steps_of runs e.thread))
  taken e (inl ev) = event_inside initial log runs told e ev
  taken e (inr (word, v, hw)) = (hw.low, hw.high)

  pub thread_below : (e : Event) → IsPlaced log runs e → e.thread < length log.threads
  thread_below e is =
      let (lo, hi) = taken e is in
      let r = in_range runs e.thread (e.step - 1) (omega (arith, lo, hi)) in omega (arith, r, counted)

  pub of_thread : (t : ℕ) (e : Event) → Contains (placed_of_thread log runs t) e → (e.thread ≡ t) × IsPlaced log runs e
  of_thread t e c =
      let (m, h) = of_filter (is_placed log runs) (map (event t) (range_with_len 1 (length (steps_of runs t)))) e c in
      let (n, d, q) = of_map (event t) (range_with_len 1 (length (steps_of runs t))) e m in
      let r = of_range 1 (length (steps_of runs t)) n d in
      let tq : e.thread ≡ t = sym (ap (λ (x : Event). x.thread) q) in
      let nq : e.step ≡ n = sym (ap (λ (x : Event). x.step) q) in
      let long : length (steps_of runs e.thread) ≡ length (steps_of runs t) = ap (λ (u : ℕ). length (steps_of runs u)) tq in
      (tq, go (omega (arith, r, nq)) (omega (arith, r, nq, long)) (or_cases (is_event log e) (is_some (wrote (step_at runs e).want (step_at runs e).found)) h))
    where
      go : 1 ≤ e.step → e.step ≤ length (steps_of runs e.thread) →
          (is_event log e ≡ true) ⊎ (is_some (wrote (step_at runs e).want (step_at runs e).found) ≡ true) → IsPlaced log runs e
      go lo hi (inl x) = inl (is_event-event log e x)
      go lo hi (inr x) = let (v, hw) = written-at runs e lo hi x in inr (word_of (step_at runs e).want, v, hw)

  pub in_thread : (e : Event) → IsPlaced log runs e → Contains (placed_of_thread log runs e.thread) e
  in_thread e is =
      let (lo, hi) = taken e is in
      in_filter (is_placed log runs) (map (event e.thread) (range_with_len 1 (length (steps_of runs e.thread)))) e
      (in_map (event e.thread) (range_with_len 1 (length (steps_of runs e.thread))) e.step (range-in 1 (length (steps_of runs e.thread)) e.step lo (omega (arith, hi))))
      (placed-test log runs e is)

  -- the list holds the steps that have a place, and nothing else
  pub of_list : (e : Event) → Contains (placed_list log runs) e → IsPlaced log runs e
  unfolding placed_list
  of_list e c = let (t, m, d) = of_flat_map (placed_of_thread log runs) (thread_numbers log) e c in (of_thread t e d).1

  pub in_list : (e : Event) → IsPlaced log runs e → Contains (placed_list log runs) e
  unfolding placed_list
  in_list e is =
      let l = thread_below e is in
      in_flat_map (placed_of_thread log runs) (thread_numbers log) e.thread e (range-in 0 (length log.threads) e.thread (omega arith) (omega (arith, l))) (in_thread e is)

  -- it goes by thread, and then by number
  pub thread_before : (t : ℕ) → AllPairs Before (placed_of_thread log runs t)
  thread_before t = AllPairs-filter Before (is_placed log runs) (map (event t) (range_with_len 1 (length (steps_of runs t))))
      (AllPairs-map (event t) (λ m n. m < n) Before (λ m n l. inr (refl, l)) (range_with_len 1 (length (steps_of runs t))) (range-rising 1 (length (steps_of runs t))))

  pub list_before : AllPairs Before (placed_list log runs)
  unfolding placed_list
  list_before = AllPairs-flat_map (placed_of_thread log runs) Before (λ t u. t < u) thread_before
      (λ t u x y l c d. let p = (of_thread t x c).0 in let q = (of_thread u y d).0 in inl (omega (arith, p, q, l)))
      (thread_numbers log) (range-rising 0 (length log.threads))

  -- so it holds each step once
  pub list_once : IsOnce (placed_list log runs)
  list_once i j d l m = before_apart (get_or (placed_list log runs) i d) (get_or (placed_list log runs) j d) (list_before i j d l m)

  pub position-at : (p : ℕ) → p < length (placed_list log runs) → position_of log runs (placed_at log runs p) ≡ p
  position-at p l = place_at (placed_list log runs) list_once p no_event l

  pub at-position : (e : Event) → IsPlaced log runs e → placed_at log runs (position_of log runs e) ≡ e
  at-position e is = at_place (placed_list log runs) e no_event (place-contains (placed_list log runs) e (in_list e is))

  pub position-below : (e : Event) → IsPlaced log runs e → position_of log runs e < length (placed_list log runs)
  position-below e is = place-contains (placed_list log runs) e (in_list e is)

  pub one_position : (a b : Event) → IsPlaced log runs a → position_of log runs a ≡ position_of log runs b → a ≡ b
  one_position a b is q = same_place (placed_list log runs) a b q (position-below a is)

  pub placed_there : (p : ℕ) → p < length (placed_list log runs) → IsPlaced log runs (placed_at log runs p)
  placed_there p l = of_list (placed_at log runs p) (Contains-get_or (placed_list log runs) p no_event l)

-- the positions of the steps that pass a test
pub of_positions : (log : Log) (runs : List (List Step)) (test : Event → Bool) (p : ℕ) → Contains (positions_where log runs test) p →
    (p < length (placed_list log runs)) × (test (placed_at log runs p) ≡ true)
of_positions log runs test p c =
    let (m, t) = of_filter (λ q. test (placed_at log runs q)) (range_with_len 0 (length (placed_list log runs))) p c in
    let (l, k) = of_range 0 (length (placed_list log runs)) p m in (omega (arith, k), t)

pub in_positions : (log : Log) (runs : List (List Step)) (test : Event → Bool) (p : ℕ) → p < length (placed_list log runs) → test (placed_at log runs p) ≡ true →
    Contains (positions_where log runs test) p
in_positions log runs test p l t = in_filter (λ q. test (placed_at log runs q)) (range_with_len 0 (length (placed_list log runs))) p
    (range-in 0 (length (placed_list log runs)) p (omega arith) (omega (arith, l))) t

pub positions-rising : (log : Log) (runs : List (List Step)) (test : Event → Bool) → Rising (positions_where log runs test)
positions-rising log runs test =
    AllPairs-filter (λ m n. m < n) (λ q. test (placed_at log runs q)) (range_with_len 0 (length (placed_list log runs))) (range-rising 0 (length (placed_list log runs)))
