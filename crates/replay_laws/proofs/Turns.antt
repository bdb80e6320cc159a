-- The turns of an order, and then each thread to its end.
use Rattle.std.proofs.Common.{◌≡◌, ℕ, zero, suc, ◌+◌, ◌-◌, ◌<◌, ◌≤◌, Bool, true, false, cond, List, [], ◌∷◌, ◌++◌, length, get_or, drop, refl, sym, ◌∙◌, ap, subst, arith, inl, inr, ◌⊎◌}
use Rattle.std.specs.Prelude.{Contains, Option, Some, None, slice_set}
use Rattle.std.proofs.lemmas.List.{take_all, drop_more}
use Rattle.std.proofs.lemmas.List.Elements.{Contains-get_or}
use Rattle.std.proofs.lemmas.Bool.{cases_lt}
use Rattle.replay_model.specs.Steps.{Event, Cell, Step, word_of, wrote, has_ended, found_in, put}
use Rattle.replay_model.specs.declared.Want.{Want}
use Rattle.replay_model.specs.Threads.{Threads, StaysWithin, IsRun}
use Rattle.replay_model.specs.Histories.{World, steps_of, step_in, move}
use Rattle.replay_model.specs.Logs.{Log}
use Rattle.replay_model.specs.Orders.{place}
use Rattle.replay_model.specs.SkipPlay.{moves, turn, turns}
use Rattle.replay_model.proofs.Moves.{in_range, move_shape, move_ended, move_here, move_there}
use Rattle.replay_laws.proofs.Places.{place-contains, place_at, same_place}
use Rattle.replay_laws.proofs.Skip.{Told, Serves, Inv}
use Rattle.replay_laws.proofs.NextSteps.{run_step, wants_next, step_found}
use Rattle.replay_laws.proofs.Advance.{advance, step_at-next, event_memory}

module _ (threads : Threads) (initial : List ℕ) (keep : Event → Bool) (log : Log) (runs : List (List Step)) (order : List Event)
    (told : Told initial log runs) (serves : Serves (length initial) keep log runs order)
    (run : (t : ℕ) → t < length runs → IsRun threads t (steps_of runs t))
    (within : StaysWithin threads (length initial)) where
  -- each event of the order has a place
  placed : (e : Event) → Contains order e → place order e < length order
  placed e ev = place-contains order e ev

  -- of one thread's events the one with the lesser number stands no later
  pub upto : (a b : Event) → Contains order a → Contains order b → a.thread ≡ b.thread → a.step ≤ b.step → place order a ≤ place order b
  upto a b va vb t s = go (cases_lt a.step b.step)
    where
      go : (a.step < b.step) ⊎ (b.step ≤ a.step) → place order a ≤ place order b
      go (inl l) = let r = serves.rising a b va vb t l in omega arith
      go (inr l) =
          let e : a.step ≡ b.step = omega arith in
          let same : a ≡ b = λ j. record { thread = t j; step = e j } in
          let q : place order a ≡ place order b = ap (place order) same in omega arith

  -- and the one that stands earlier has the lesser number
  pub below : (a b : Event) → Contains order a → Contains order b → a.thread ≡ b.thread → place order a < place order b → a.step < b.step
  below a b va vb t s = go (cases_lt a.step b.step)
    where
      go : (a.step < b.step) ⊎ (b.step ≤ a.step) → a.step < b.step
      go (inl l) = l
      go (inr l) = let r = upto b a vb va (sym t) l in absurd (omega arith)

  want_facts : (i : ℕ) (world : World) → Inv initial keep runs order i world → (t : ℕ) →
      length (steps_of world.threads t) < length (steps_of runs t) →
      (threads t (steps_of world.threads t) ≡ (run_step runs t (length (steps_of world.threads t))).want) ×
      (has_ended (run_step runs t (length (steps_of world.threads t))).want ≡ false) ×
      (word_of (run_step runs t (length (steps_of world.threads t))).want < length initial) ×
      (t < length world.threads)
  want_facts i world inv t l =
      let pw = wants_next threads initial keep log runs order told serves run within i world inv t l in
      let lives = (run t (in_range runs t _ l)).lives (length (steps_of world.threads t)) l in
      let c = inv.counted in
      let r = in_range runs t _ l in
      (pw, lives, subst (λ (x : Want). word_of x < length initial) pw (within t (steps_of world.threads t) (ap has_ended pw ∙ lives)), omega arith)

  -- the step that is the event at place i
  pub event_step : (i : ℕ) (world : World) → Inv initial keep runs order i world → (t : ℕ) →
      (l : length (steps_of world.threads t) < length (steps_of runs t)) →
      Contains order (record { thread = t; step = length (steps_of world.threads t) + 1 }) →
      place order (record { thread = t; step = length (steps_of world.threads t) + 1 }) ≡ i →
      Inv initial keep runs order (i + 1) (move threads keep t world)
  event_step i world inv t l ev pl =
      let (pw, lives, word, t_in) = want_facts i world inv t l in
      let w : Want = (run_step runs t (length (steps_of world.threads t))).want in
      let here : Event = record { thread = t; step = length (steps_of world.threads t) + 1 } in
      let f = step_found threads initial keep log runs order told serves run within i world inv t (length (steps_of world.threads t)) refl l pw
      (λ a va at as'. let u = upto a (record { thread = t; step = length (steps_of world.threads t) + 1 }) va ev at as' in omega arith) in
      let m = event_memory initial keep log runs order i world.memory serves inv.sized inv.memory t (length (steps_of world.threads t)) l pl word
      (record { thread = t; step = length (steps_of world.threads t) + 1 }) refl
      (wrote (run_step runs t (length (steps_of world.threads t))).want (found_in world.memory (run_step runs t (length (steps_of world.threads t))).want))
      (ap (λ (x : Option Cell). wrote (run_step runs t (length (steps_of world.threads t))).want x) (sym f))
      (keep (record { thread = t; step = length (steps_of world.threads t) + 1 })) refl in
      let step_is : step_in world.memory (run_step runs t (length (steps_of world.threads t))).want ≡ run_step runs t (length (steps_of world.threads t)) =
      λ j. record { want = (run_step runs t (length (steps_of world.threads t))).want; found = f j } in
      let P : World → Type 0 = λ x. Inv initial keep runs order (i + 1) x in
      subst P (sym (move_shape threads keep t world (run_step runs t (length (steps_of world.threads t))).want pw lives))
      (advance initial keep runs order i (i + 1) world inv t (length (steps_of world.threads t)) refl l
      (step_in world.memory (run_step runs t (length (steps_of world.threads t))).want) step_is _ m.0 m.1
      (λ e ve lo hi. same_here e ve (omega arith))
      (λ e ve lo. (omega arith, λ et. let b = below (record { thread = t; step = length (steps_of world.threads t) + 1 }) e ev ve (sym et) (omega arith) in omega arith)))
    where
      same_here : (e : Event) → Contains order e → place order e ≡ i → (e.thread ≡ t) × (e.step ≤ length (steps_of world.threads t) + 1)
      same_here e ve pe =
          let s : e ≡ record { thread = t; step = length (steps_of world.threads t) + 1 } = same_place order e (record { thread = t; step = length (steps_of world.threads t) + 1 }) (pe ∙ sym pl) (placed e ve) in
          let q : e.step ≡ length (steps_of world.threads t) + 1 = ap (λ (x : Event). x.step) s in
          (ap (λ (x : Event). x.thread) s, omega arith)

  -- a step that is no event
  pub quiet_step : (i : ℕ) (world : World) → Inv initial keep runs order i world → (t : ℕ) →
      (l : length (steps_of world.threads t) < length (steps_of runs t)) →
      (Contains order (record { thread = t; step = length (steps_of world.threads t) + 1 }) → ⊥) →
      ((a : Event) → Contains order a → a.thread ≡ t → a.step ≤ length (steps_of world.threads t) + 1 → place order a ≤ i) →
      ((a : Event) → Contains order a → i ≤ place order a → a.thread ≡ t → length (steps_of world.threads t) + 1 < a.step) →
      Inv initial keep runs order i (move threads keep t world)
  quiet_step i world inv t l quiet early late =
      let (pw, lives, word, t_in) = want_facts i world inv t l in
      let f = step_found threads initial keep log runs order told serves run within i world inv t (length (steps_of world.threads t)) refl l pw early in
      let step_is : step_in world.memory (run_step runs t (length (steps_of world.threads t))).want ≡ run_step runs t (length (steps_of world.threads t)) =
      λ j. record { want = (run_step runs t (length (steps_of world.threads t))).want; found = f j } in
      let P : World → Type 0 = λ x. Inv initial keep runs order i x in
      let Q : List Cell → Type 0 = λ m. Inv initial keep runs order i (record {
        memory = m;
        threads = slice_set world.threads t (steps_of world.threads t ++ step_in world.memory (run_step runs t (length (steps_of world.threads t))).want ∷ []);
      }) in
      subst P (sym (move_shape threads keep t world (run_step runs t (length (steps_of world.threads t))).want pw lives))
      (subst Q (sym (unmade (wrote (run_step runs t (length (steps_of world.threads t))).want (found_in world.memory (run_step runs t (length (steps_of world.threads t))).want))
      (ap (λ (x : Option Cell). wrote (run_step runs t (length (steps_of world.threads t))).want x) (sym f))
      (keep (record { thread = t; step = length (steps_of world.threads t) + 1 })) refl))
      (advance initial keep runs order i i world inv t (length (steps_of world.threads t)) refl l
      (step_in world.memory (run_step runs t (length (steps_of world.threads t))).want) step_is world.memory inv.sized inv.memory
      (λ e ve lo hi. absurd (omega arith))
      (λ e ve lo. (lo, λ et. late e ve lo et))))
    where
      unmade : (written : Option ℕ) → wrote (run_step runs t (length (steps_of world.threads t))).want (run_step runs t (length (steps_of world.threads t))).found ≡ written →
          (kept : Bool) → keep (record { thread = t; step = length (steps_of world.threads t) + 1 }) ≡ kept →
          cond kept (put world.memory (word_of (run_step runs t (length (steps_of world.threads t))).want) (record { thread = t; step = length (steps_of world.threads t) + 1 }) written) world.memory ≡ world.memory
      unmade written q false k = refl
      unmade None q true k = refl
      unmade (Some value) q true k =
          let st = step_at-next runs t (length (steps_of world.threads t)) in
          absurd (quiet (serves.made _ (word_of (run_step runs t (length (steps_of world.threads t))).want) value k (record {
            low = omega arith;
            high = omega arith;
            to = ap (λ (s : Step). word_of s.want) st;
            wrote = ap (λ (s : Step). wrote s.want s.found) st ∙ q;
          })))

  -- a turn up to the event at place i
  pub turn_loop : (fuel i : ℕ) (world : World) → Inv initial keep runs order i world → (e : Event) → Contains order e → place order e ≡ i →
      fuel ≡ e.step - length (steps_of world.threads e.thread) → Inv initial keep runs order (i + 1) (moves threads keep fuel e.thread world)
  unfolding moves
  turn_loop zero i world inv e ev pl fq = absurd (let x = inv.todo e ev (omega arith) in omega arith)
  turn_loop (suc zero) i world inv e ev pl fq =
      let x = inv.todo e ev (omega arith) in
      let y = serves.inside e ev in
      let q : length (steps_of world.threads e.thread) + 1 ≡ e.step = omega arith in
      let same : e ≡ record { thread = e.thread; step = length (steps_of world.threads e.thread) + 1 } = λ j. record { thread = e.thread; step = sym q j } in
      event_step i world inv e.thread (omega arith) (subst (Contains order) same ev) (ap (place order) (sym same) ∙ pl)
  turn_loop (suc (suc fuel)) i world inv e ev pl fq =
      let x = inv.todo e ev (omega arith) in
      let y = serves.inside e ev in
      let l : length (steps_of world.threads e.thread) < length (steps_of runs e.thread) = omega arith in
      let (pw, lives, word, t_in) = want_facts i world inv e.thread l in
      let here : Event = record { thread = e.thread; step = length (steps_of world.threads e.thread) + 1 } in
      let grown = move_here threads keep e.thread world _ t_in pw lives in
      let inv2 = quiet_step i world inv e.thread l
      (λ he. let r = serves.rising (record { thread = e.thread; step = length (steps_of world.threads e.thread) + 1 }) e he ev refl (omega arith) in
      let d = inv.done (record { thread = e.thread; step = length (steps_of world.threads e.thread) + 1 }) he (omega arith) in omega arith)
      (λ a va at as'. let r = serves.rising a e va ev at (omega arith) in omega arith)
      (λ a va lo at. let r = upto e a ev va (sym at) in later a va lo at (omega (arith, fq)) (cases_lt a.step e.step)) in
      turn_loop (suc fuel) i (move threads keep e.thread world) inv2 e ev pl (omega (arith, grown))
    where
      later : (a : Event) → Contains order a → i ≤ place order a → a.thread ≡ e.thread → length (steps_of world.threads e.thread) + 1 < e.step → (a.step < e.step) ⊎ (e.step ≤ a.step) →
          length (steps_of world.threads e.thread) + 1 < a.step
      later a va lo at k (inl s) = absurd (let r = serves.rising a e va ev at s in omega arith)
      later a va lo at k (inr s) = omega arith

  -- all turns from place i on
  pub turns_all : (rest : List Event) (i : ℕ) (world : World) → drop i order ≡ rest → i + length rest ≡ length order →
      Inv initial keep runs order i world → Inv initial keep runs order (length order) (turns threads keep rest world)
  unfolding turns turn
  turns_all [] i world d n inv =
      let q : i ≡ length order = omega arith in
      let P : ℕ → Type 0 = λ x. Inv initial keep runs order x world in subst P q inv
  turns_all (e ∷ rest) i world d n inv =
      let l : i < length order = omega arith in
      let m : drop i order ≡ get_or order i e ∷ drop (i + 1) order = drop_more order i e l in
      let c : get_or order i e ∷ drop (i + 1) order ≡ e ∷ rest = sym m ∙ d in
      let here : get_or order i e ≡ e = cc in
      let there : drop (i + 1) order ≡ rest = cc in
      let pl : place order e ≡ i = ap (place order) (sym here) ∙ place_at order serves.once i e l in
      let ev : Contains order e = subst (Contains order) here (Contains-get_or order i e l) in
      turns_all rest (i + 1) (moves threads keep (e.step - length (steps_of world.threads e.thread)) e.thread world) there (omega arith)
      (turn_loop (e.step - length (steps_of world.threads e.thread)) i world inv e ev pl refl)

  -- a step after the whole order
  pub tail_step : (world : World) → Inv initial keep runs order (length order) world → (t : ℕ) →
      length (steps_of world.threads t) < length (steps_of runs t) → Inv initial keep runs order (length order) (move threads keep t world)
  tail_step world inv t l = quiet_step (length order) world inv t l
      (λ he. let p = placed (record { thread = t; step = length (steps_of world.threads t) + 1 }) he in let d = inv.done (record { thread = t; step = length (steps_of world.threads t) + 1 }) he p in omega arith)
      (λ a va at as'. let p = placed a va in omega arith)
      (λ a va lo at. let p = placed a va in absurd (omega arith))

  -- a thread to its end
  pub to_end : (fuel : ℕ) (world : World) → Inv initial keep runs order (length order) world → (t : ℕ) → t < length runs →
      length (steps_of runs t) ≤ fuel + length (steps_of world.threads t) →
      Inv initial keep runs order (length order) (moves threads keep fuel t world) ×
      (length (steps_of (moves threads keep fuel t world).threads t) ≡ length (steps_of runs t)) ×
      ((u : ℕ) → (u ≡ t → ⊥) → steps_of (moves threads keep fuel t world).threads u ≡ steps_of world.threads u)
  unfolding moves
  to_end zero world inv t tl f = (inv, (let s = inv.short t in omega arith), λ u n. refl)
  to_end (suc fuel) world inv t tl f = go (cases_lt (length (steps_of world.threads t)) (length (steps_of runs t))) (to_end fuel)
    where
      go : (length (steps_of world.threads t) < length (steps_of runs t)) ⊎ (length (steps_of runs t) ≤ length (steps_of world.threads t)) →
          ((world : World) → Inv initial keep runs order (length order) world → (t : ℕ) → t < length runs →
          length (steps_of runs t) ≤ fuel + length (steps_of world.threads t) →
          Inv initial keep runs order (length order) (moves threads keep fuel t world) ×
          (length (steps_of (moves threads keep fuel t world).threads t) ≡ length (steps_of runs t)) ×
          ((u : ℕ) → (u ≡ t → ⊥) → steps_of (moves threads keep fuel t world).threads u ≡ steps_of world.threads u)) →
          Inv initial keep runs order (length order) (moves threads keep fuel t (move threads keep t world)) ×
          (length (steps_of (moves threads keep fuel t (move threads keep t world)).threads t) ≡ length (steps_of runs t)) ×
          ((u : ℕ) → (u ≡ t → ⊥) → steps_of (moves threads keep fuel t (move threads keep t world)).threads u ≡ steps_of world.threads u)
      go (inl l) ih =
          let (pw, lives, word, t_in) = want_facts (length order) world inv t l in
          let grown = move_here threads keep t world _ t_in pw lives in
          let (a, b, c) = ih (move threads keep t world) (tail_step world inv t l) t tl (omega arith) in
          (a, b, λ u n. c u n ∙ move_there threads keep t u world n)
      go (inr l) ih =
          let s = inv.short t in
          let e : steps_of world.threads t ≡ steps_of runs t = inv.prefix t ∙ take_all (length (steps_of world.threads t)) (steps_of runs t) l in
          let stays : move threads keep t world ≡ world = move_ended threads keep t world (ap (λ (x : List Step). has_ended (threads t x)) e ∙ (run t tl).ends) in
          let P : World → Type 0 = λ x. Inv initial keep runs order (length order) (moves threads keep fuel t x) ×
          (length (steps_of (moves threads keep fuel t x).threads t) ≡ length (steps_of runs t)) ×
          ((u : ℕ) → (u ≡ t → ⊥) → steps_of (moves threads keep fuel t x).threads u ≡ steps_of world.threads u) in
          subst P (sym stays) (ih world inv t tl (omega arith))
