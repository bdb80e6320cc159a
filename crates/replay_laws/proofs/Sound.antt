-- Plays keep what a state owes: each step was wanted, and found a value that was there to be found.
use Rattle.std.proofs.Common.{◌≡◌, ℕ, zero, suc, ◌+◌, ◌-◌, ◌<◌, ◌≤◌, Bool, true, false, cond, List, [], ◌∷◌, ◌++◌, length, take, refl, sym, ◌∙◌, ap, subst, arith, inl, inr, ◌⊎◌, replicate}
use Rattle.std.specs.Prelude.{slice_index_or, Option, Some, None, slice_set, is_some}
use Rattle.std.proofs.lemmas.List.{length-set, get_or-set_same, get_or-set_other, get_or_append_left, take-append-le, take_at, get_or_push, length_push, length-replicate, get_or-map, length-map}
use Rattle.std.proofs.lemmas.Bool.{cases_eq, cases_lt, cases_Bool}
use Rattle.replay_model.specs.Steps.{Event, Cell, Step, word_of, reads, wrote, no_cell, has_ended, found_in, put}
use Rattle.replay_model.specs.declared.Want.{Want}
use Rattle.replay_model.specs.Threads.{Threads, StaysWithin, HasOnly, no_step}
use Rattle.replay_model.specs.Histories.{World, steps_of, opening, step_in, move, keep_all, play}
use Rattle.replay_model.specs.Fitting.{step_at, HasWritten, IsGrounded}
use Rattle.replay_model.specs.SkipPlay.{moves, turn, turns, finish}
use Rattle.replay_model.proofs.Moves.{set_here, each_thread, opening_steps, move_shape, move_ended, move_count, found_in-some, found_in-cell}

-- one step of a thread: it was wanted, and what it found was there to be found
pub record IsSoundStep (threads : Threads) (initial : List ℕ) (runs : List (List Step)) (t : ℕ) (steps : List Step) (k : ℕ) : Type 0 where
  pub wants : threads t (take k steps) ≡ (slice_index_or steps k no_step).want
  pub lives : has_ended (slice_index_or steps k no_step).want ≡ false
  pub found : is_some (slice_index_or steps k no_step).found ≡ reads (slice_index_or steps k no_step).want
  pub grounded : (cell : Cell) → (slice_index_or steps k no_step).found ≡ Some cell → IsGrounded initial runs (word_of (slice_index_or steps k no_step).want) cell

-- each step was wanted, and each cell was there from the start or was written by a step
pub record IsSound (threads : Threads) (initial : List ℕ) (world : World) : Type 0 where
  pub sized : length world.memory ≡ length initial
  pub steps : (t k : ℕ) → k < length (steps_of world.threads t) → IsSoundStep threads initial world.threads t (steps_of world.threads t) k
  pub memory : (word : ℕ) → word < length initial → IsGrounded initial world.threads word (slice_index_or world.memory word no_cell)

-- more steps keep what was written
pub written_more : (runs : List (List Step)) (t : ℕ) (step : Step) → t < length runs → (e : Event) (word v : ℕ) →
    HasWritten runs e word v → HasWritten (slice_set runs t (steps_of runs t ++ step ∷ [])) e word v
written_more runs t step l e word v hw =
    let (h, s) = each_thread (λ u steps. e.thread ≡ u → (e.step ≤ length steps) × (slice_index_or steps (e.step - 1) no_step ≡ step_at runs e))
    runs t (steps_of runs t ++ step ∷ []) l here there e.thread refl in
    record { low = hw.low; high = h; to = ap (λ (x : Step). word_of x.want) s ∙ hw.to; wrote = ap (λ (x : Step). wrote x.want x.found) s ∙ hw.wrote }
  where
    here : e.thread ≡ t → (e.step ≤ length (steps_of runs t ++ step ∷ [])) × (slice_index_or (steps_of runs t ++ step ∷ []) (e.step - 1) no_step ≡ step_at runs e)
    here et =
        let low = hw.low in
        let high : e.step ≤ length (steps_of runs t) = subst (λ (u : ℕ). e.step ≤ length (steps_of runs u)) et hw.high in
        let p = length_push (steps_of runs t) step in
        (omega (arith, p), get_or_append_left (steps_of runs t) (step ∷ []) no_step (e.step - 1) (omega arith) ∙ ap (λ u. slice_index_or (steps_of runs u) (e.step - 1) no_step) (sym et))

    there : (u : ℕ) → (u ≡ t → ⊥) → e.thread ≡ u → (e.step ≤ length (steps_of runs u)) × (slice_index_or (steps_of runs u) (e.step - 1) no_step ≡ step_at runs e)
    there u n et = (subst (λ (u : ℕ). e.step ≤ length (steps_of runs u)) et hw.high, ap (λ u. slice_index_or (steps_of runs u) (e.step - 1) no_step) (sym et))

-- and what is grounded
pub grounded_more : (initial : List ℕ) (old new : List (List Step)) → ((e : Event) (word v : ℕ) → HasWritten old e word v → HasWritten new e word v) →
    (word : ℕ) (cell : Cell) → IsGrounded initial old word cell → IsGrounded initial new word cell
grounded_more initial old new more word cell (inl p) = inl p
grounded_more initial old new more word cell (inr (e, q, hw)) = inr (e, q, more e word cell.value hw)

-- a step keeps the state sound, whatever is left out
pub sound_move : (threads : Threads) (initial : List ℕ) (keep : Event → Bool) (t : ℕ) (world : World) →
    StaysWithin threads (length initial) → HasOnly threads (length world.threads) →
    IsSound threads initial world → IsSound threads initial (move threads keep t world)
sound_move threads initial keep t world within only sound = go (cases_Bool (has_ended (threads t (steps_of world.threads t)))) (cases_lt t (length world.threads))
  where
    go : (has_ended (threads t (steps_of world.threads t)) ≡ true) ⊎ (has_ended (threads t (steps_of world.threads t)) ≡ false) →
        (t < length world.threads) ⊎ (length world.threads ≤ t) → IsSound threads initial (move threads keep t world)
    go (inl e) h = subst (IsSound threads initial) (sym (move_ended threads keep t world e)) sound
    go (inr e) (inr h) = absurd (let no : true ≡ false = sym (only t (steps_of world.threads t) h) ∙ e in cc no)
    go (inr e) (inl l) =
        subst (IsSound threads initial) (sym (move_shape threads keep t world w refl e)) (record {
          sized = after_sized (keep here) (wrote w (found_in world.memory w));
          steps = λ u k kl. each_thread (λ u steps. (k : ℕ) → k < length steps → IsSoundStep threads initial after u steps k)
              world.threads t new l (λ k kl. step_here k kl (cases_lt k (length old))) (λ u n k kl. step_there u k kl) u k kl;
          memory = λ word wl. after_memory (keep here) (wrote w (found_in world.memory w)) refl word wl;
        })
      where
        w : Want
        w = threads t (steps_of world.threads t)

        old : List Step
        old = steps_of world.threads t

        step : Step
        step = step_in world.memory w

        new : List Step
        new = old ++ step ∷ []

        after : List (List Step)
        after = slice_set world.threads t (old ++ step ∷ [])

        here : Event
        here = record { thread = t; step = length old + 1 }

        more : (word : ℕ) (cell : Cell) → IsGrounded initial world.threads word cell → IsGrounded initial after word cell
        more word cell g = grounded_more initial world.threads after (written_more world.threads t step l) word cell g

        after_sized : (b : Bool) (v : Option ℕ) → length (cond b (put world.memory (word_of w) here v) world.memory) ≡ length initial
        after_sized false v = sound.sized
        after_sized true None = sound.sized
        after_sized true (Some v) = length-set world.memory (word_of w) _ ∙ sound.sized

        step_there : (u k : ℕ) → k < length (steps_of world.threads u) → IsSoundStep threads initial after u (steps_of world.threads u) k
        step_there u k kl =
            let s = sound.steps u k kl in
            record { wants = s.wants; lives = s.lives; found = s.found; grounded = λ cell q. more _ cell (s.grounded cell q) }

        step_here : (k : ℕ) → k < length new → (k < length old) ⊎ (length old ≤ k) → IsSoundStep threads initial after t new k
        step_here k kl (inl x) =
            let s = sound.steps t k x in
            let g : slice_index_or new k no_step ≡ slice_index_or old k no_step = get_or_append_left old (step ∷ []) no_step k x in
            let tk : take k new ≡ take k old = take-append-le k old (step ∷ []) (omega arith) in
            record {
              wants = ap (threads t) tk ∙ s.wants ∙ ap (λ (x : Step). x.want) (sym g);
              lives = ap (λ (x : Step). has_ended x.want) g ∙ s.lives;
              found = ap (λ (x : Step). is_some x.found) g ∙ s.found ∙ ap (λ (x : Step). reads x.want) (sym g);
              grounded = λ cell q. subst (λ (x : Step). IsGrounded initial after (word_of x.want) cell) (sym g) (more _ cell (s.grounded cell (sym (ap (λ (x : Step). x.found) g) ∙ q)));
            }
        step_here k kl (inr x) =
            let p : length new ≡ length old + 1 = length_push old step in
            let z : length old ≡ k = omega (arith, p, kl) in
            let g : slice_index_or new k no_step ≡ step = get_or_push old step no_step k z in
            let tk : take k new ≡ old = take_at old (step ∷ []) k z in
            record {
              wants = ap (threads t) tk ∙ ap (λ (x : Step). x.want) (sym g);
              lives = ap (λ (x : Step). has_ended x.want) g ∙ e;
              found = ap (λ (x : Step). is_some x.found) g ∙ found_in-some world.memory w ∙ ap (λ (x : Step). reads x.want) (sym g);
              grounded = λ cell q.
                  let c : cell ≡ slice_index_or world.memory (word_of w) no_cell = found_in-cell world.memory w cell (sym (ap (λ (x : Step). x.found) g) ∙ q) in
                  let m = more (word_of w) (slice_index_or world.memory (word_of w) no_cell) (sound.memory (word_of w) (within t (steps_of world.threads t) e)) in
                  subst (λ (x : Step). IsGrounded initial after (word_of x.want) cell) (sym g) (subst (λ (y : Cell). IsGrounded initial after (word_of w) y) (sym c) m);
            }

        after_memory : (b : Bool) (v : Option ℕ) → wrote w (found_in world.memory w) ≡ v → (word : ℕ) → word < length initial →
            IsGrounded initial after word (slice_index_or (cond b (put world.memory (word_of w) here v) world.memory) word no_cell)
        after_memory false v q word wl = more word _ (sound.memory word wl)
        after_memory true None q word wl = more word _ (sound.memory word wl)
        after_memory true (Some v) q word wl = at (cases_eq word (word_of w))
          where
            at : (word ≡ word_of w) ⊎ (word ≡ word_of w → ⊥) → IsGrounded initial after word (slice_index_or (slice_set world.memory (word_of w) (record { value = v; tag = Some here })) word no_cell)
            at (inl same) =
                let s = sound.sized in
                let g : slice_index_or (slice_set world.memory (word_of w) (record { value = v; tag = Some here })) word no_cell ≡ record { value = v; tag = Some here } =
                ap (λ x. slice_index_or (slice_set world.memory (word_of w) (record { value = v; tag = Some here })) x no_cell) same ∙
                get_or-set_same world.memory (word_of w) (record { value = v; tag = Some here }) no_cell (omega arith) in
                let th : steps_of after t ≡ new = set_here world.threads t new l in
                let z : length old ≡ (length old + 1) - 1 = omega arith in
                let st : step_at after here ≡ step = ap (λ (s : List Step). slice_index_or s ((length old + 1) - 1) no_step) th ∙ get_or_push old step no_step ((length old + 1) - 1) z in
                let p : length new ≡ length old + 1 = length_push old step in
                let hw : HasWritten after here word v = record {
                  low = omega arith;
                  high = subst (λ (s : List Step). length old + 1 ≤ length s) (sym th) (omega (arith, p));
                  to = ap (λ (x : Step). word_of x.want) st ∙ sym same;
                  wrote = ap (λ (x : Step). wrote x.want x.found) st ∙ q;
                } in
                subst (λ (c : Cell). IsGrounded initial after word c) (sym g) (inr (here, refl, hw))
            at (inr n) =
                let g = get_or-set_other world.memory (word_of w) word (record { value = v; tag = Some here }) no_cell n in
                subst (λ (c : Cell). IsGrounded initial after word c) (sym g) (more word _ (sound.memory word wl))

-- soundness with the number of threads, to go along a play
pub record IsGoing (threads : Threads) (initial : List ℕ) (count : ℕ) (world : World) : Type 0 where
  pub sound : IsSound threads initial world
  pub counted : length world.threads ≡ count

module _ (threads : Threads) (initial : List ℕ) (count : ℕ) (within : StaysWithin threads (length initial)) (only : HasOnly threads count) where
  -- a step keeps it
  pub going_move : (keep : Event → Bool) (t : ℕ) (world : World) → IsGoing threads initial count world → IsGoing threads initial count (move threads keep t world)
  going_move keep t world g = record {
    sound = sound_move threads initial keep t world within (subst (HasOnly threads) (sym g.counted) only) g.sound;
    counted = move_count threads keep t world ∙ g.counted;
  }

  -- so do steps of one thread
  pub going_moves : (keep : Event → Bool) (n t : ℕ) (world : World) → IsGoing threads initial count world → IsGoing threads initial count (moves threads keep n t world)
  unfolding moves
  going_moves keep zero t world g = g
  going_moves keep (suc n) t world g = going_moves keep n t (move threads keep t world) (going_move keep t world g)

  -- so do turns
  pub going_turns : (keep : Event → Bool) (order : List Event) (world : World) → IsGoing threads initial count world → IsGoing threads initial count (turns threads keep order world)
  unfolding turns turn
  going_turns keep [] world g = g
  going_turns keep (e ∷ order) world g = going_turns keep order (moves threads keep (e.step - length (steps_of world.threads e.thread)) e.thread world)
      (going_moves keep (e.step - length (steps_of world.threads e.thread)) e.thread world g)

  -- so does the end of a play
  pub going_finish : (keep : Event → Bool) (bound n : ℕ) (world : World) → IsGoing threads initial count world → IsGoing threads initial count (finish threads keep bound n world)
  unfolding finish
  going_finish keep bound zero world g = g
  going_finish keep bound (suc t) world g = going_moves keep bound t (finish threads keep bound t world) (going_finish keep bound t world g)

  -- so does a history
  pub going_play : (history : List ℕ) (world : World) → IsGoing threads initial count world → IsGoing threads initial count (play threads history world)
  unfolding play
  going_play [] world g = g
  going_play (t ∷ history) world g = going_play history (move threads keep_all t world) (going_move keep_all t world g)

  -- the opening state has it
  pub going_opening : IsGoing threads initial count (opening initial count)
  going_opening = record {
    sound = record {
      sized = length-map initial _;
      steps = λ t k l. absurd (let q = ap length (opening_steps count t) in omega arith);
      memory = λ word w. subst (λ (c : Cell). IsGrounded initial (replicate count []) word c) (sym (get_or-map (λ (value : ℕ). record { value = value; tag = None }) initial word 0 no_cell w)) (inl (refl, refl));
    };
    counted = length-replicate count [];
  }
