-- What a step of one thread does to the state.
use Rattle.std.proofs.Common.{◌≡◌, ℕ, ◌+◌, ◌<◌, ◌≤◌, Bool, true, false, cond, List, [], ◌∷◌, ◌++◌, length, refl, sym, ◌∙◌, ap, subst, arith, inl, inr, ◌⊎◌}
use Rattle.std.specs.Prelude.{Some, None, slice_set, slice_index_or, is_some, replicate}
use Rattle.std.proofs.lemmas.List.{length-set, get_or-set_same, get_or-set_other, get_or_past, length_push, get_or-replicate, length-replicate}
use Rattle.std.proofs.lemmas.Bool.{cases_eq, cases_lt, cases_Bool, cond-true, cond-false}
use Rattle.replay_model.specs.Steps.{Event, Cell, Want, Step, word_of, reads, wrote, no_cell, has_ended, found_in, put}
use Rattle.replay_model.specs.Threads.{Threads}
use Rattle.replay_model.specs.Histories.{World, steps_of, step_in, next_event, take_step, wanted, move}

-- a thread that has a step is one of the threads
pub in_range : (runs : List (List Step)) (t k : ℕ) → k < length (steps_of runs t) → t < length runs
in_range runs t k h = go (cases_lt t (length runs))
  where
    go : (t < length runs) ⊎ (length runs ≤ t) → t < length runs
    go (inl l) = l
    go (inr l) = let e = ap length (get_or_past runs t [] l) in absurd (omega arith)

-- the thread whose steps were set has them
pub set_here : (runs : List (List Step)) (t : ℕ) (steps : List Step) → t < length runs → steps_of (slice_set runs t steps) t ≡ steps
set_here runs t steps h = get_or-set_same runs t steps [] h

-- another has its own still
pub set_there : (runs : List (List Step)) (t u : ℕ) (steps : List Step) → (u ≡ t → ⊥) → steps_of (slice_set runs t steps) u ≡ steps_of runs u
set_there runs t u steps h = get_or-set_other runs t u steps [] h

-- what holds of each thread after one thread's steps changed
pub each_thread : (P : ℕ → List Step → Type 0) (runs : List (List Step)) (t : ℕ) (steps : List Step) → t < length runs →
    P t steps → ((u : ℕ) → (u ≡ t → ⊥) → P u (steps_of runs u)) → (u : ℕ) → P u (steps_of (slice_set runs t steps) u)
each_thread P runs t steps l here there u = go (cases_eq u t)
  where
    go : (u ≡ t) ⊎ (u ≡ t → ⊥) → P u (steps_of (slice_set runs t steps) u)
    go (inl e) =
        let h : P t (steps_of (slice_set runs t steps) t) = subst (P t) (sym (set_here runs t steps l)) here in
        let Q : ℕ → Type 0 = λ x. P x (steps_of (slice_set runs t steps) x) in
        subst Q (sym e) h
    go (inr n) = subst (P u) (sym (set_there runs t u steps n)) (there u n)

-- no thread has a step in the opening state
pub opening_steps : (count t : ℕ) → steps_of (replicate count []) t ≡ []
opening_steps count t = go (cases_lt t count)
  where
    go : (t < count) ⊎ (count ≤ t) → steps_of (replicate count []) t ≡ []
    go (inl l) = get_or-replicate count t [] [] l
    go (inr l) = get_or_past (replicate count []) t [] (let q = length-replicate {A = List Step} count [] in omega arith)

-- the state after a step of thread t, spelled out
abbrev pub stepped : (Event → Bool) → ℕ → World → Want → World
stepped keep t world w = record {
  memory = cond (keep (next_event t world)) (put world.memory (word_of w) (next_event t world) (wrote w (found_in world.memory w))) world.memory;
  threads = slice_set world.threads t (steps_of world.threads t ++ step_in world.memory w ∷ []);
}

-- what a step does, where the thread has not ended
pub move_shape : (threads : Threads) (keep : Event → Bool) (t : ℕ) (world : World) (w : Want) →
    wanted threads t world ≡ w → has_ended w ≡ false → move threads keep t world ≡ stepped keep t world w
unfolding move take_step
move_shape threads keep t world w p h =
    ap (λ (x : Want). cond (has_ended x) world (take_step keep t x world)) p ∙ cond-false (has_ended w) world (take_step keep t w world) h

-- a thread that has ended does not move
pub move_ended : (threads : Threads) (keep : Event → Bool) (t : ℕ) (world : World) →
    has_ended (wanted threads t world) ≡ true → move threads keep t world ≡ world
unfolding move
move_ended threads keep t world h = cond-true (has_ended (wanted threads t world)) world (take_step keep t (wanted threads t world) world) h

-- the steps of each thread after a step of t
pub move_steps : (threads : Threads) (keep : Event → Bool) (t : ℕ) (world : World) (w : Want) → t < length world.threads →
    wanted threads t world ≡ w → has_ended w ≡ false →
    steps_of (move threads keep t world).threads t ≡ steps_of world.threads t ++ step_in world.memory w ∷ []
move_steps threads keep t world w l p h =
    ap (λ (x : World). steps_of x.threads t) (move_shape threads keep t world w p h) ∙
    set_here world.threads t (steps_of world.threads t ++ step_in world.memory w ∷ []) l

-- the thread that moves has one step more
pub move_here : (threads : Threads) (keep : Event → Bool) (t : ℕ) (world : World) (w : Want) → t < length world.threads →
    wanted threads t world ≡ w → has_ended w ≡ false →
    length (steps_of (move threads keep t world).threads t) ≡ length (steps_of world.threads t) + 1
move_here threads keep t world w l p h =
    ap length (move_steps threads keep t world w l p h) ∙ length_push (steps_of world.threads t) (step_in world.memory w)

-- another has as many as before
pub move_there : (threads : Threads) (keep : Event → Bool) (t u : ℕ) (world : World) → (u ≡ t → ⊥) →
    steps_of (move threads keep t world).threads u ≡ steps_of world.threads u
move_there threads keep t u world n = go (cases_Bool (has_ended (wanted threads t world)))
  where
    go : (has_ended (wanted threads t world) ≡ true) ⊎ (has_ended (wanted threads t world) ≡ false) →
        steps_of (move threads keep t world).threads u ≡ steps_of world.threads u
    go (inl e) = ap (λ (x : World). steps_of x.threads u) (move_ended threads keep t world e)
    go (inr e) =
        ap (λ (x : World). steps_of x.threads u) (move_shape threads keep t world (wanted threads t world) refl e) ∙
        set_there world.threads t u (steps_of world.threads t ++ step_in world.memory (wanted threads t world) ∷ []) n

-- no step changes the number of threads
pub move_count : (threads : Threads) (keep : Event → Bool) (t : ℕ) (world : World) → length (move threads keep t world).threads ≡ length world.threads
move_count threads keep t world = go (cases_Bool (has_ended (wanted threads t world)))
  where
    go : (has_ended (wanted threads t world) ≡ true) ⊎ (has_ended (wanted threads t world) ≡ false) → length (move threads keep t world).threads ≡ length world.threads
    go (inl e) = ap (λ (x : World). length x.threads) (move_ended threads keep t world e)
    go (inr e) = ap (λ (x : World). length x.threads) (move_shape threads keep t world (wanted threads t world) refl e) ∙ length-set world.threads t _

-- what a reading step finds
pub found_in-some : (memory : List Cell) (w : Want) → is_some (found_in memory w) ≡ reads w
found_in-some memory w = elim (reads w) as (λ b. is_some (cond b (Some (slice_index_or memory (word_of w) no_cell)) None) ≡ b) [ true ↦ refl | false ↦ refl ]

-- what is found is the cell of the word
pub found_in-cell : (memory : List Cell) (w : Want) (cell : Cell) → found_in memory w ≡ Some cell → cell ≡ slice_index_or memory (word_of w) no_cell
found_in-cell memory w cell h = go (cases_Bool (reads w))
  where
    go : (reads w ≡ true) ⊎ (reads w ≡ false) → cell ≡ slice_index_or memory (word_of w) no_cell
    go (inl e) = let y : Some (slice_index_or memory (word_of w) no_cell) ≡ Some cell = sym (cond-true (reads w) (Some (slice_index_or memory (word_of w) no_cell)) None e) ∙ h in cc y
    go (inr e) = let y : None ≡ Some cell = sym (cond-false (reads w) (Some (slice_index_or memory (word_of w) no_cell)) None e) ∙ h in cc y
