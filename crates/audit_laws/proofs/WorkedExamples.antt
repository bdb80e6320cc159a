-- The worked examples.
use Rattle.std.proofs.Common.{◌≡◌, ℕ, ◌<◌, ◌≤◌, List, [], ◌∷◌, length, refl, ap, subst, arith, inl, inr, ◌⊎◌}
use Rattle.std.specs.Prelude.{Some, Contains}
use Rattle.replay_model.specs.Steps.{Event, Step}
use Rattle.replay_model.specs.Histories.{move, take_step, play, steps_of}
use Rattle.replay_model.specs.ThreadLogs.{thread_log}
use Rattle.replay_model.specs.Logs.{HasEntry}
use Rattle.replay_model.specs.Events.{events_of}
use Rattle.replay_model.specs.Orders.{place}
use Rattle.replay_model.specs.Fitting.{HasWritten}
use Rattle.replay_model.specs.SkipPlay.{moves, turn, turns, finish}
use Rattle.replay_laws.specs.Scripts.{one_each}
use Rattle.replay_laws.specs.Examples as Below
use Rattle.replay_laws.proofs.Scripts.{script_within, script_only, script_ends}
use Rattle.replay_laws.proofs.WorkedExamples as Worked
use Rattle.audit_laws.specs.Placings.{Places, history_placing, turns_from}
use Rattle.audit_laws.specs.PlacingLaws.{IsHistoryOf}
use Rattle.audit_laws.specs.Examples
use Rattle.audit_laws.proofs.Audit.{history_places, history_runs}

-- blind stores
pub blind_stores : Examples.BlindStoresPlaced
unfolding play move take_step events_of thread_log turns_from
blind_stores = (
  history_places (Below.example_threads Examples.blind_scripts (0 ∷ [])) one_each (0 ∷ []) (Below.example_log Examples.blind_scripts (0 ∷ []) Examples.blind_history)
      Examples.blind_history (script_within Examples.blind_scripts 1 Below.example_limits) (script_only Examples.blind_scripts 1 Below.example_limits)
      (record { whole = Worked.blind_stores.whole; logged = refl }),
  refl,
)

-- the second write of the first thread would stand before its third step, so before the second thread's first step, and so before its second one; but this read the first write
no_placing : (order : List Event) → Places Below.forced_between_log Below.forced_between_end.threads order → ⊥
unfolding play move take_step thread_log moves turn turns finish
no_placing order places = go (places.apart 1 (Below.entry 0 (Some (Below.at 0 1)) 2 2) (Below.at 0 2) 2 two written (λ e. other (cc e)))
  where
    one : HasEntry Below.forced_between_log 1 (Below.entry 1 (Some (Below.at 0 3)) 1 1)
    one = (0, omega arith, refl)

    two : HasEntry Below.forced_between_log 1 (Below.entry 0 (Some (Below.at 0 1)) 2 2)
    two = (1, omega arith, refl)

    written : HasWritten Below.forced_between_end.threads (Below.at 0 2) 0 2
    written = record { low = omega arith; high = (let n : length (steps_of Below.forced_between_end.threads 0) ≡ 3 = refl in omega (arith, n)); to = refl; wrote = refl }

    other : Below.at 0 1 ≡ Below.at 0 2 → ⊥
    other same = let n = ap (λ (e : Event). e.step) same in omega (arith, n)

    here : Contains order (Below.at 0 2)
    here = places.all (Below.at 0 2) (inr (0, 2, written))

    before : place order (Below.at 0 2) < place order (Below.at 1 2)
    before =
        let a = places.rising (Below.at 0 2) (Below.at 0 3) here (places.all _ (inl (inl (inl (1, _, one, refl))))) refl (omega arith) in
        let b = places.source_first 1 _ (Below.at 0 3) one refl in
        let c = places.rising (Below.at 1 1) (Below.at 1 2) (places.all _ (inl (inr (1, _, one, inl refl)))) (places.all _ (inl (inr (1, _, two, inl refl)))) refl (omega arith) in
        omega (arith, a, b, c)

    go : (place order (Below.at 1 2) ≤ place order (Below.at 0 2)) ⊎
        ((source : Event) × (Some (Below.at 0 1) ≡ Some source) × (place order (Below.at 0 2) < place order source)) → ⊥
    go (inl l) = let b = before in omega (arith, b, l)
    go (inr (source, q, l)) =
        let same : Below.at 0 1 ≡ source = cc q in
        let a = places.rising (Below.at 0 1) (Below.at 0 2) (places.all _ (inl (inl (inl (1, _, two, refl))))) here refl (omega arith) in
        let p = ap (place order) same in omega (arith, a, p, l)

-- a write forced between
pub forced_between : Examples.ForcedBetweenIsOfNoHistory
unfolding play move take_step thread_log moves turn turns finish
forced_between = (Worked.forced_between.0, λ legal. no_placing (history_placing Below.forced_between_threads (0 ∷ 0 ∷ []) Below.forced_between_log legal.0) (placed legal.0 legal.1))
  where
    placed : (history : List ℕ) → IsHistoryOf Below.forced_between_threads one_each (0 ∷ 0 ∷ []) Below.forced_between_log history →
        Places Below.forced_between_log Below.forced_between_end.threads (history_placing Below.forced_between_threads (0 ∷ 0 ∷ []) Below.forced_between_log history)
    placed history is =
        let within = script_within (Below.counts ∷ Below.looks_back ∷ []) 2 Below.example_limits in
        let only = script_only (Below.counts ∷ Below.looks_back ∷ []) 2 Below.example_limits in
        let stops = script_ends (Below.counts ∷ Below.looks_back ∷ []) 2 Below.example_limits in
        let same = history_runs Below.forced_between_threads one_each (0 ∷ 0 ∷ []) Below.forced_between_log history within only is Below.forced_between_end.threads stops Worked.forced_between.1 in
        let P : List (List Step) → Type 0 = λ runs. Places Below.forced_between_log runs (history_placing Below.forced_between_threads (0 ∷ 0 ∷ []) Below.forced_between_log history) in
        subst P same (history_places Below.forced_between_threads one_each (0 ∷ 0 ∷ []) Below.forced_between_log history within only is)
