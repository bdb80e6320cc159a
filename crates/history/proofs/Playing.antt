-- The state of a plain machine, before and after a step.
use Rattle.std.proofs.Common.{◌≡◌, ℕ, ◌+◌, ◌<◌, false, List, [], ◌∷◌, ◌++◌, length, refl, sym, ◌∙◌, ap, subst, arith}
use Rattle.std.specs.Prelude.{slice_index_or, slice_set}
use Rattle.std.proofs.lemmas.List.{length-set, length_push, length-map, length-replicate}
use Rattle.replay_model.specs.declared.Access.{Access}
use Rattle.replay_model.specs.declared.End.{End}
use Rattle.replay_model.specs.Steps.{Cell, Step, word_of, wrote, has_ended, found_in, put, access_of, initial_cells}
use Rattle.replay_model.specs.Histories.{World, steps_of, step_in, play, keep_all, IsLegal}
use Rattle.replay_model.proofs.Moves.{move_shape, set_here, set_there, opening_steps}
use Rattle.replay_model.proofs.Plays.{play-push, play_count, play_memory, legal-push}
use Rattle.machine.specs.Programs.{ProgramValue, LimitsValue}
use Rattle.machine.specs.Inputs.{InputsValue, inputs_of}
use Rattle.machine.specs.Runs.{start_of}
use Rattle.running_thread.proofs.Lists.{each-set, each-push}
use Rattle.history.specs.declared.plain.Stepped.{Stepped}
use Rattle.history.specs.declared.plain.Stepped.TheVariants.{Took, Ended}
use Rattle.history.specs.declared.seat.Seat.{Seat}
use Rattle.history.specs.declared.words.PlainWords.{PlainWords}
use Rattle.history.specs.Played.{Played, unplayed, threads_in, world_of, thread_steps, wanted_by, next_step, after_step}
use Rattle.history.specs.Playing.{AreFresh, IsSeat, IsPlaying, TakesNext, Steps}
use Rattle.history.specs.Stepping.{IsStep}

-- a play keeps the number of threads and of words
pub threads_count : (played : Played) → length (world_of played).threads ≡ length played.program.threads
threads_count played = play_count (threads_in played) played.taken (start_of played.program) ∙ length-replicate {A = List Step} (length played.program.threads) []

pub words_count : (played : Played) → length (world_of played).memory ≡ length played.program.words
words_count played = play_memory (threads_in played) played.taken (start_of played.program) ∙ length-map played.program.words _

-- what is said of thread t, which took these steps
abbrev sits : Played → (ℕ → List Step) → ℕ → Seat → Type 0
sits played steps t seat = IsSeat played.program played.limits (inputs_of played.inputs t) t (steps t) seat

-- another state of a thread that is as good
pub playing-same : (played : Played) (words : PlainWords) (seats : List Seat) (t : ℕ) (new : Seat) → IsPlaying played words seats → t < length seats →
    IsSeat played.program played.limits (inputs_of played.inputs t) t (thread_steps played t) new → IsPlaying played words (slice_set seats t new)
playing-same played words seats t new is l here = record {
  legal = is.legal;
  memory = is.memory;
  counted = length-set seats t new ∙ is.counted;
  listed = is.listed;
  each = each-set (sits played (thread_steps played)) seats new t l here (λ u seat n ul. is.each u seat ul);
}

-- the world after one more step
pub world-step : (played : Played) (t : ℕ) → has_ended (wanted_by played t) ≡ false → world_of (after_step played t) ≡ record {
  memory = put (world_of played).memory (word_of (wanted_by played t)) (record { thread = t; step = length (thread_steps played t) + 1 }) (wrote (wanted_by played t) (found_in (world_of played).memory (wanted_by played t)));
  threads = slice_set (world_of played).threads t (thread_steps played t ++ next_step played t ∷ []);
}
world-step played t lives =
    play-push (threads_in played) played.taken t (start_of played.program) ∙
    move_shape (threads_in played) keep_all t (world_of played) (wanted_by played t) refl lives

-- the thread's steps after one more
pub steps-step : (played : Played) (t : ℕ) → t < length played.program.threads → has_ended (wanted_by played t) ≡ false →
    thread_steps (after_step played t) t ≡ thread_steps played t ++ next_step played t ∷ []
steps-step played t l lives =
    ap (λ (w : World). steps_of w.threads t) (world-step played t lives) ∙
    set_here (world_of played).threads t (thread_steps played t ++ next_step played t ∷ []) (let c = threads_count played in omega (arith, c, l))

pub steps-other : (played : Played) (t u : ℕ) → has_ended (wanted_by played t) ≡ false → (u ≡ t → ⊥) → thread_steps (after_step played t) u ≡ thread_steps played u
steps-other played t u lives n =
    ap (λ (w : World). steps_of w.threads u) (world-step played t lives) ∙
    set_there (world_of played).threads t u (thread_steps played t ++ next_step played t ∷ []) n

-- the state after a step
pub playing-step : (played : Played) (old new : PlainWords) (seats : List Seat) (t : ℕ) (access : Access) (seat : Seat) → IsPlaying played old seats → t < length seats →
    TakesNext played.program played.limits (inputs_of played.inputs t) t (thread_steps played t) old access new seat → IsPlaying (after_step played t) new (slice_set seats t seat)
playing-step played old new seats t access seat is l takes = record {
  legal = legal-push (threads_in played) played.taken t (start_of played.program) is.legal takes.lives;
  memory =
      takes.cells ∙
      ap (λ (m : List Cell). put m (word_of (wanted_by played t)) (record { thread = t; step = length (thread_steps played t) + 1 }) (wrote (wanted_by played t) (found_in m (wanted_by played t)))) is.memory ∙
      ap (λ (w : World). w.memory) (sym (world-step played t takes.lives));
  counted = length-set seats t seat ∙ is.counted;
  listed = is.listed;
  each = each-set (sits played (thread_steps (after_step played t))) seats seat t l
      (subst (λ (s : List Step). IsSeat played.program played.limits (inputs_of played.inputs t) t s seat) (sym more) takes.is)
      (λ u other n ul. subst (λ (s : List Step). IsSeat played.program played.limits (inputs_of played.inputs u) u s (slice_index_or seats u other)) (sym (steps-other played t u takes.lives n)) (is.each u other ul));
}
  where
    more : thread_steps (after_step played t) t ≡ thread_steps played t ++ step_in old.cells.items (wanted_by played t) ∷ []
    more =
        steps-step played t (let c = is.counted in omega (arith, c, l)) takes.lives ∙
        ap (λ (m : List Cell). thread_steps played t ++ step_in m (wanted_by played t) ∷ []) (sym is.memory)

module _ (p : ProgramValue) (limits : LimitsValue) (inputs : InputsValue) where
  -- one more thread at its start
  pub fresh-push : (count : ℕ) (seats : List Seat) (seat : Seat) → AreFresh p limits inputs count seats → IsSeat p limits (inputs_of inputs count) count [] seat → AreFresh p limits inputs (count + 1) (seats ++ seat ∷ [])
  fresh-push count seats new is here = record {
    counted = length_push seats new ∙ ap (λ (n : ℕ). n + 1) is.counted;
    each = each-push (λ t. IsSeat p limits (inputs_of inputs t) t []) seats new count is.counted here is.each;
  }

  -- the state before any step
  pub playing-new : (words : PlainWords) (seats : List Seat) → length inputs ≡ length p.threads → words.cells.items ≡ initial_cells p.words → AreFresh p limits inputs (length p.threads) seats →
      IsPlaying (unplayed p limits inputs) words seats
  unfolding play IsLegal
  playing-new words seats listed first fresh = record {
    legal = tt;
    memory = first;
    counted = fresh.counted;
    listed = listed;
    each = λ t seat l. subst (λ (s : List Step). IsSeat p limits (inputs_of inputs t) t s (slice_index_or seats t seat)) (sym (opening_steps (length p.threads) t))
        (fresh.each t seat (let c = fresh.counted in omega (arith, c, l)));
  }

-- ---- a step, from what its calls say

-- whose step is taken
pub record Begins (played : Played) (words : PlainWords) (seats : List Seat) (t place : ℕ) (list : List ℕ) (old : Seat) : Type 0 where
  pub is : IsPlaying played words seats
  pub there : t < length played.program.threads
  pub at : place ≡ t
  pub given : list ≡ inputs_of played.inputs place
  pub old_is : old ≡ slice_index_or seats place old

module _ (played : Played) (words : PlainWords) (seats : List Seat) (t place : ℕ) (list : List ℕ) (old : Seat) (b : Begins played words seats t place list old) where
  in-seats : place < length seats
  in-seats = let n = b.is.counted in let h = b.there in let e = b.at in omega (arith, n, h, e)

  -- the input list is that of the thread
  by_list : (P : List ℕ → Type 0) → P (inputs_of played.inputs place) → P list
  by_list P h = subst P (sym b.given) h

  seated : IsSeat played.program played.limits list place (thread_steps played place) old
  seated =
      by_list (λ l. IsSeat played.program played.limits l place (thread_steps played place) old)
      (subst (IsSeat played.program played.limits (inputs_of played.inputs place) place (thread_steps played place)) (sym b.old_is) (b.is.each place old in-seats))

  pub stands : IsSeat played.program played.limits list old.thread.core.thread (thread_steps played place) old
  stands = subst (λ (u : ℕ). IsSeat played.program played.limits list u (thread_steps played place) old) (sym seated.runs.own) seated

  pub sized : length words.cells.items ≡ length played.program.words
  sized = ap length b.is.memory ∙ words_count played

  -- nothing was taken
  pub kept : (taken : List ℕ) (now : PlainWords) (seat : Seat) → taken ≡ played.taken → now ≡ words → IsSeat played.program played.limits list old.thread.core.thread (thread_steps played place) seat →
      IsPlaying (record played { taken = taken }) now (slice_set seats place seat)
  kept taken now seat e same is =
      let P : List ℕ → Type 0 = λ l. IsPlaying (record played { taken = l }) now (slice_set seats place seat) in
      let W : PlainWords → Type 0 = λ w. IsPlaying played w (slice_set seats place seat) in
      let Q : ℕ → Type 0 = λ u. IsSeat played.program played.limits list u (thread_steps played place) seat in
      let R : List ℕ → Type 0 = λ l. IsSeat played.program played.limits l place (thread_steps played place) seat in
      subst P (sym e) (subst W (sym same) (playing-same played words seats place seat b.is in-seats (subst R b.given (subst Q seated.runs.own is))))

  module _ (stepped : Stepped) (now : PlainWords) (seat : Seat) (ran : (steps : List Step) → IsSeat played.program played.limits list old.thread.core.thread steps old → length words.cells.items ≡ length played.program.words →
      Steps played.program played.limits list old.thread.core.thread steps words stepped now seat) where
    -- what came of the step of thread t
    came : (x : Stepped) → stepped ≡ x → Steps played.program played.limits (inputs_of played.inputs t) t (thread_steps played t) words x now seat
    came x e =
        let X : Stepped → Type 0 = λ y. Steps played.program played.limits list old.thread.core.thread (thread_steps played place) words y now seat in
        let Q : ℕ → Type 0 = λ u. Steps played.program played.limits list u (thread_steps played place) words x now seat in
        let R : List ℕ → Type 0 = λ l. Steps played.program played.limits l place (thread_steps played place) words x now seat in
        let S : ℕ → Type 0 = λ u. Steps played.program played.limits (inputs_of played.inputs u) u (thread_steps played u) words x now seat in
        subst S b.at (subst R b.given (subst Q seated.runs.own (subst X e (ran (thread_steps played place) stands sized))))

    -- it took one
    module _ (access : Access) (took : stepped ≡ Took access) (taken : List ℕ) (e : taken ≡ played.taken ++ t ∷ []) where
      pub moved : IsPlaying (record played { taken = taken }) now (slice_set seats place seat)
      moved =
          let P : List ℕ → Type 0 = λ l. IsPlaying (record played { taken = l }) now (slice_set seats place seat) in
          let Q : ℕ → Type 0 = λ u. IsPlaying (after_step played t) now (slice_set seats u seat) in
          subst P (sym e) (subst Q (sym b.at) (playing-step played words now seats t access seat b.is (let n = b.is.counted in let h = b.there in omega (arith, n, h)) (came (Took access) took)))

      pub is-step : (seen : Played) → played ≡ seen → IsStep seen t (Took access) (record played { taken = taken })
      is-step seen view =
          let P : Played → Type 0 = λ x. IsStep x t (Took access) (record played { taken = taken }) in
          let takes : TakesNext played.program played.limits (inputs_of played.inputs t) t (thread_steps played t) words access now seat = came (Took access) took in
          subst P view (
            takes.lives,
            takes.told ∙ ap (λ (m : List Cell). access_of (length (thread_steps played t) + 1) (step_in m (wanted_by played t))) b.is.memory,
            ap (λ (l : List ℕ). record played { taken = l }) e,
          )

    -- it has ended
    module _ (end : End) (ended : stepped ≡ Ended end) (taken : List ℕ) (e : taken ≡ played.taken) where
      pub stayed : IsPlaying (record played { taken = taken }) now (slice_set seats place seat)
      stayed =
          let X : Stepped → Type 0 = λ y. Steps played.program played.limits list old.thread.core.thread (thread_steps played place) words y now seat in
          let over : X (Ended end) = subst X ended (ran (thread_steps played place) stands sized) in kept taken now seat e over.1 over.2

      pub is-end : (seen : Played) → played ≡ seen → IsStep seen t (Ended end) (record played { taken = taken })
      is-end seen view =
          let P : Played → Type 0 = λ x. IsStep x t (Ended end) (record played { taken = taken }) in
          subst P view ((came (Ended end) ended).0, ap (λ (l : List ℕ). record played { taken = l }) e)

-- the facts of a step, as its calls give them
pub begins : (seen played : Played) (words : PlainWords) (seats : List Seat) (t place : ℕ) (list : List ℕ) (old : Seat) → played ≡ seen → IsPlaying played words seats → t < length seen.program.threads → place ≡ t →
    list ≡ inputs_of played.inputs place → old ≡ slice_index_or seats place old → Begins played words seats t place list old
begins seen played words seats t place list old view is there at given old_is =
    record { is = is; there = subst (λ (x : Played). t < length x.program.threads) (sym view) there; at = at; given = given; old_is = old_is }
