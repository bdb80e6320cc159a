-- The turns of a placing are a history.
use Rattle.std.proofs.Common.{◌≡◌, ℕ, zero, suc, ◌+◌, ◌-◌, ◌<◌, ◌≤◌, true, false, Option, List, [], ◌∷◌, ◌++◌, length, get_or, drop, refl, sym, ◌∙◌, ap, subst, arith, inl, inr, ◌⊎◌, replicate}
use Rattle.std.specs.Prelude.{Contains, Some, None, slice_index_or, slice_set, is_some}
use Rattle.std.proofs.lemmas.List.{drop_more, get_or-set_same, get_or-set_other, length-set}
use Rattle.std.proofs.lemmas.List.Elements.{Contains-get_or}
use Rattle.std.proofs.lemmas.Bool.{cases_eq, cases_Bool}
use Rattle.replay_model.specs.Steps.{Event, Tag, Cell, Step, word_of, reads, wrote, has_ended}
use Rattle.replay_model.specs.declared.Want.{Want}
use Rattle.replay_model.specs.declared.Want.TheVariants.{Load, Store, Swap, Cond, Ended}
use Rattle.replay_model.specs.Threads.{Threads, StaysWithin, IsRun}
use Rattle.replay_model.specs.Histories.{World, steps_of, wanted, move, keep_all, play, IsLegal}
use Rattle.replay_model.specs.Logs.{Log, last_tag, first_event, last_event}
use Rattle.replay_model.specs.RunLogs.{Tallies}
use Rattle.replay_model.specs.Orders.{place}
use Rattle.replay_model.specs.SkipPlay.{moves}
use Rattle.replay_model.specs.Fitting.{Fits}
use Rattle.replay_model.proofs.Moves.{in_range, move_ended, move_here, move_count}
use Rattle.replay_model.proofs.Plays.{play-append, legal-append}
use Rattle.replay_laws.proofs.Places.{place-contains, place_at}
use Rattle.replay_laws.proofs.Skip.{Told, HasLastTag, Serves, Inv}
use Rattle.replay_laws.proofs.NextSteps.{run_step}
use Rattle.replay_laws.proofs.Advance.{step_at-next, event_inside}
use Rattle.replay_laws.proofs.Turns.{turn_loop}
use Rattle.replay_laws.proofs.Told.{told_by_fit}
use Rattle.replay_laws.proofs.Endings.{moves_ended, moves_there}
use Rattle.audit_laws.specs.Placings.{IsPlaced, Places, turns_from}

-- a placing serves the play that makes every write
pub places_serve : (threads : Threads) (tallies : Tallies) (initial : List ℕ) (log : Log) (runs : List (List Step)) (order : List Event) →
    Fits threads tallies initial log runs → Places log runs order → Serves (length initial) keep_all log runs order
places_serve threads tallies initial log runs order fits places = record {
  once = places.once;
  inside = λ e c. inside e (places.only e c);
  rising = places.rising;
  made = λ e word v k hw. places.all e (inr (word, v, hw));
  firsts = λ t a h. places.all (first_event t a) (inl (inr (t, a, h, inl refl)));
  last_reads = λ t a h. places.all (last_event t a) (inl (inr (t, a, h, inr refl)));
  sources = λ t a s h q. (refl, places.source_first t a s h q);
  others = λ t a e v h k hw ne. places.apart t a e v h hw ne;
  last_tags = λ word w. last_at word w (last_tag log word) refl;
}
  where
    inside : (e : Event) → IsPlaced log runs e → (1 ≤ e.step) × (e.step ≤ length (steps_of runs e.thread))
    inside e (inl ev) = event_inside initial log runs (told_by_fit threads tallies initial log runs fits) e ev
    inside e (inr (word, v, hw)) = (hw.low, hw.high)

    last_at : (word : ℕ) → word < length initial → (tag : Tag) → last_tag log word ≡ tag → HasLastTag keep_all log runs order word
    last_at word w None q = inl (q, λ e v k hw. let (z, zq, l) = places.final word v e hw in let no : None ≡ Some z = sym q ∙ zq in cc no)
    last_at word w (Some z) q = let (v, hw) = fits.last_tags word z w q in inr (z, v, q, refl, hw, λ e v k hw. last e (places.final word v e hw))
      where
        last : (e : Event) → (x : Event) × (last_tag log word ≡ Some x) × (place order e ≤ place order x) → place order e ≤ place order z
        last e (x, xq, l) = let y : Some x ≡ Some z = sym xq ∙ q in let same : x ≡ z = cc y in subst (λ (k : Event). place order e ≤ place order k) same l

-- a step that reads nothing writes
quiet_writes : (w : Want) → has_ended w ≡ false → reads w ≡ false → (found : Option Cell) → (v : ℕ) × (wrote w found ≡ Some v)
quiet_writes (Load word) lives quiet found = cc quiet
quiet_writes (Store word value) lives quiet found = (value, refl)
quiet_writes (Swap word value) lives quiet found = cc quiet
quiet_writes (Cond word seen value) lives quiet found = cc quiet
quiet_writes (Ended end) lives quiet found = cc lives

-- turns of one thread are moves of it
moves_played : (threads : Threads) (n t : ℕ) (world : World) → play threads (replicate n t) world ≡ moves threads keep_all n t world
unfolding play moves
moves_played threads zero t world = refl
moves_played threads (suc n) t world = moves_played threads n t (move threads keep_all t world)

-- where as many steps were taken as there were moves, each was wanted, and there are no more
moves_legal : (threads : Threads) (n t : ℕ) (world : World) → t < length world.threads →
    (length (steps_of (moves threads keep_all n t world).threads t) ≤ length (steps_of world.threads t) + n) ×
    (length (steps_of world.threads t) + n ≤ length (steps_of (moves threads keep_all n t world).threads t) → IsLegal threads (replicate n t) world)
unfolding moves IsLegal
moves_legal threads zero t world tl = (omega arith, λ l. tt)
moves_legal threads (suc n) t world tl =
    go (moves_legal threads n t (move threads keep_all t world) (let c = move_count threads keep_all t world in omega (arith, c, tl))) (cases_Bool (has_ended (wanted threads t world)))
  where
    after : World
    after = moves threads keep_all n t (move threads keep_all t world)

    go : (length (steps_of after.threads t) ≤ length (steps_of (move threads keep_all t world).threads t) + n) ×
        (length (steps_of (move threads keep_all t world).threads t) + n ≤ length (steps_of after.threads t) → IsLegal threads (replicate n t) (move threads keep_all t world)) →
        (has_ended (wanted threads t world) ≡ true) ⊎ (has_ended (wanted threads t world) ≡ false) →
        (length (steps_of after.threads t) ≤ length (steps_of world.threads t) + suc n) ×
        (length (steps_of world.threads t) + suc n ≤ length (steps_of after.threads t) → IsLegal threads (t ∷ replicate n t) world)
    go ih (inl e) =
        let s : after ≡ world = ap (moves threads keep_all n t) (move_ended threads keep_all t world e) ∙ moves_ended threads keep_all n t world e in
        let q = ap (λ (w : World). length (steps_of w.threads t)) s in
        (omega (arith, q), λ l. absurd (omega (arith, q, l)))
    go ih (inr e) =
        let h = move_here threads keep_all t world (wanted threads t world) tl refl e in
        let a = ih.0 in
        (omega (arith, h, a), λ l. (e, ih.1 (omega (arith, h, l))))

module _ (threads : Threads) (initial : List ℕ) (log : Log) (runs : List (List Step)) (order : List Event)
    (told : Told initial log runs) (serves : Serves (length initial) keep_all log runs order)
    (run : (t : ℕ) → t < length runs → IsRun threads t (steps_of runs t))
    (within : StaysWithin threads (length initial)) where
  -- the turns from place i on are a legal history, and lead to the end of the order
  pub turned : (rest : List Event) (i : ℕ) (world : World) (taken : List ℕ) → drop i order ≡ rest → i + length rest ≡ length order →
      Inv initial keep_all runs order i world → length taken ≡ length runs → ((t : ℕ) → slice_index_or taken t 0 ≡ length (steps_of world.threads t)) →
      IsLegal threads (turns_from taken rest) world × Inv initial keep_all runs order (length order) (play threads (turns_from taken rest) world)
  unfolding turns_from play IsLegal
  turned [] i world taken d n inv sized same =
      let q : i ≡ length order = omega arith in
      let P : ℕ → Type 0 = λ x. Inv initial keep_all runs order x world in (tt, subst P q inv)
  turned (e ∷ rest) i world taken d n inv sized same =
      let l : i < length order = omega arith in
      let m : drop i order ≡ get_or order i e ∷ drop (i + 1) order = drop_more order i e l in
      let c : get_or order i e ∷ drop (i + 1) order ≡ e ∷ rest = sym m ∙ d in
      let here : get_or order i e ≡ e = cc in
      let there : drop (i + 1) order ≡ rest = cc in
      let pl : place order e ≡ i = ap (place order) (sym here) ∙ place_at order serves.once i e l in
      let ev : Contains order e = subst (Contains order) here (Contains-get_or order i e l) in
      step (e.step - slice_index_or taken e.thread 0) ev pl there (ap (λ (k : ℕ). e.step - k) (same e.thread)) (turned rest (i + 1))
    where
      step : (fuel : ℕ) → Contains order e → place order e ≡ i → drop (i + 1) order ≡ rest → fuel ≡ e.step - length (steps_of world.threads e.thread) →
          ((world : World) (taken : List ℕ) → drop (i + 1) order ≡ rest → (i + 1) + length rest ≡ length order →
          Inv initial keep_all runs order (i + 1) world → length taken ≡ length runs → ((t : ℕ) → slice_index_or taken t 0 ≡ length (steps_of world.threads t)) →
          IsLegal threads (turns_from taken rest) world × Inv initial keep_all runs order (length order) (play threads (turns_from taken rest) world)) →
          IsLegal threads (replicate fuel e.thread ++ turns_from (slice_set taken e.thread e.step) rest) world ×
          Inv initial keep_all runs order (length order) (play threads (replicate fuel e.thread ++ turns_from (slice_set taken e.thread e.step) rest) world)
      step fuel ev pl there fq ih =
          let y = serves.inside e ev in
          let t_runs : e.thread < length runs = in_range runs e.thread (e.step - 1) (omega arith) in
          let t_in : e.thread < length world.threads = let k = inv.counted in omega arith in
          let before = inv.todo e ev (omega arith) in
          let inv2 = turn_loop threads initial keep_all log runs order told serves run within fuel i world inv e ev pl fq in
          let (most, legal) = moves_legal threads fuel e.thread world t_in in
          let done = inv2.done e ev (omega arith) in
          let played = moves_played threads fuel e.thread world in
          let P : World → Type 0 = λ w. IsLegal threads (turns_from (slice_set taken e.thread e.step) rest) w ×
          Inv initial keep_all runs order (length order) (play threads (turns_from (slice_set taken e.thread e.step) rest) w) in
          let (legal2, end) = subst P (sym played) (ih (moves threads keep_all fuel e.thread world) (slice_set taken e.thread e.step) there (omega arith) inv2
          (length-set taken e.thread e.step ∙ sized) (λ u. each u (omega (arith, most, done, fq, before)) (omega arith) (cases_eq u e.thread))) in (
            legal-append threads (replicate fuel e.thread) (turns_from (slice_set taken e.thread e.step) rest) world (legal (omega (arith, done, fq, before))) legal2,
            subst (Inv initial keep_all runs order (length order)) (sym (play-append threads (replicate fuel e.thread) (turns_from (slice_set taken e.thread e.step) rest) world)) end,
          )
        where
          each : (u : ℕ) → length (steps_of (moves threads keep_all fuel e.thread world).threads e.thread) ≡ e.step → e.thread < length taken → (u ≡ e.thread) ⊎ (u ≡ e.thread → ⊥) →
              slice_index_or (slice_set taken e.thread e.step) u 0 ≡ length (steps_of (moves threads keep_all fuel e.thread world).threads u)
          each u q l (inl s) =
              let P : ℕ → Type 0 = λ x. slice_index_or (slice_set taken e.thread e.step) x 0 ≡ length (steps_of (moves threads keep_all fuel e.thread world).threads x) in
              subst P (sym s) (get_or-set_same taken e.thread e.step 0 l ∙ sym q)
          each u q l (inr n) = get_or-set_other taken e.thread u e.step 0 n ∙ same u ∙ ap length (sym (moves_there threads keep_all fuel e.thread u world n))

  -- no step comes after the last event or write of its thread, so every thread has then taken its whole run
  pub all_taken : (world : World) → Inv initial keep_all runs order (length order) world → (t : ℕ) → t < length runs → length (steps_of world.threads t) ≡ length (steps_of runs t)
  all_taken world inv t tl = go (length (steps_of runs t)) refl
    where
      go : (n : ℕ) → length (steps_of runs t) ≡ n → length (steps_of world.threads t) ≡ length (steps_of runs t)
      go zero q = let s = inv.short t in omega arith
      go (suc k) q = by (run_step runs t k).found refl
        where
          l : k < length (steps_of runs t)
          l = omega arith

          enough : (n : ℕ) → Contains order (record { thread = t; step = n }) → k + 1 ≤ n → length (steps_of world.threads t) ≡ length (steps_of runs t)
          enough n c h =
              let d = inv.done (record { thread = t; step = n }) c (place-contains order (record { thread = t; step = n }) c) in
              let s = inv.short t in omega arith

          by : (found : Option Cell) → (run_step runs t k).found ≡ found → length (steps_of world.threads t) ≡ length (steps_of runs t)
          by (Some cell) f = let (a, h, w, s, lo, hi) = told.covered t k cell l f in enough a.last (serves.last_reads t a h) hi
          by None f =
              let r = run t tl in
              let (v, q) = quiet_writes (run_step runs t k).want (r.lives k l) (sym (r.found k l) ∙ ap is_some f) (run_step runs t k).found in
              let st = step_at-next runs t k in
              let kl = l in
              enough (k + 1) (serves.made _ (word_of (run_step runs t k).want) v refl (record {
                low = omega arith;
                high = omega arith;
                to = ap (λ (s : Step). word_of s.want) st;
                wrote = ap (λ (s : Step). wrote s.want s.found) st ∙ q;
              })) (omega arith)
