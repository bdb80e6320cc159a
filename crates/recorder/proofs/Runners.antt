-- A thread that runs at shared words, before and after a run.
use Rattle.std.proofs.Common.{◌≡◌, ℕ, ◌+◌, ◌-◌, ◌≤◌, Bool, true, false, not, List, [], ◌∷◌, ◌++◌, length, refl, sym, ◌∙◌, ap, subst, arith, inl, inr, ◌⊎◌, append-nil, length-append}
use Rattle.std.specs.Prelude.{slice_get, Option, Some, None, is_some, is_none}
use Rattle.std.proofs.lemmas.List.{length_push}
use Rattle.replay_model.specs.declared.Want.{Want}
use Rattle.replay_model.specs.declared.Want.TheVariants.{Load, Store, Swap, Cond, Ended}
use Rattle.replay_model.specs.declared.End.{End}
use Rattle.replay_model.specs.Steps.{Event, Step, has_ended}
use Rattle.replay_model.specs.Threads.{Threads}
use Rattle.machine.specs.Programs.{ProgramValue, LimitsValue}
use Rattle.tagged_words.specs.declared.words.Seen.{Seen}
use Rattle.tagged_words.specs.Views.{Progress}
use Rattle.tagged_words.specs.Hands.{new_hand}
use Rattle.tagged_words.proofs.Places.{slice_get_push}
use Rattle.running_thread.specs.declared.thread.RunningThread.{RunningThread}
use Rattle.running_thread.specs.Running.{Asks, IsAfterLoad, Runs, step_that}
use Rattle.running_thread.specs.Threads.{IsThread, HasAdded, IsEndBefore, threads_with}
use Rattle.running_thread.proofs.Ends.{at-end}
use Rattle.running_thread.proofs.Running.{most-steps}
use Rattle.recorder.specs.declared.hand_words.HandWords.{HandWords}
use Rattle.recorder.specs.HandWords.{IsReadyFor, IsReady, TakesAt}
use Rattle.recorder.specs.Running.{IsRunning, IsSame, runner_of}
use Rattle.recorder.specs.Grouped.{RanFor}

-- ---- the words of one thread

module _ (at : HandWords) (size : ℕ) (event : Event) (steps : List Step) (is : IsReady at size event.thread steps) where
  -- a conditional write has the load at hand which it follows
  pub ready-for : (wanted : Want) → Asks size event steps wanted → IsReadyFor at.hand at.loaded wanted
  ready-for (Load word) asks = tt
  ready-for (Store word value) asks = tt
  ready-for (Swap word value) asks = tt
  ready-for (Ended end) asks = tt
  ready-for (Cond word tag value) asks =
      let f : IsAfterLoad steps word tag = asks.follows word tag value refl in
      let whole : at.hand.steps ≡ f.earlier ++ step_that (Load word) (Some f.cell) ∷ [] = is.steps ∙ f.whole in
      let n : length at.hand.steps ≡ length f.earlier + 1 = ap length whole ∙ length_push f.earlier (step_that (Load word) (Some f.cell)) in
      let get : slice_get at.hand.steps (length at.hand.steps - 1) ≡ Some (step_that (Load word) (Some f.cell)) =
      ap (λ (x : List Step). slice_get x (length at.hand.steps - 1)) whole ∙ slice_get_push f.earlier _ (length at.hand.steps - 1) (omega (arith, n)) in
      let P : Option Seen → Type 0 = λ l. IsReadyFor at.hand l (Cond word tag value) in
      subst P (sym (is.loads f.earlier word f.cell whole)) ((omega (arith, n), get), refl, f.tag)

-- a run is at the same words
same-words : (threads : Threads) (t : ℕ) (added steps : List Step) (old new : HandWords) → Runs TakesAt threads t steps added old new → new.words.now ≡ old.words.now
same-words threads t [] steps old new runs = ap (λ (at : HandWords). at.words.now) runs
same-words threads t (step ∷ added) steps old new (mid, wants, lives, takes, runs) = same-words threads t added (steps ++ step ∷ []) mid new runs ∙ takes.1

-- ---- before any step

pub new-running : (p : ProgramValue) (limits : LimitsValue) (list : List ℕ) (thread : RunningThread) (at : HandWords) (taken : List ℕ) → at.hand ≡ new_hand at.words.now at.hand.thread → at.loaded ≡ None →
    length at.words.now.start.initial ≡ length p.words → IsThread p limits list at.hand.thread [] thread → taken ≡ list → IsRunning p limits list thread at taken
new-running p limits list thread at taken fresh none sized is room =
    let steps : at.hand.steps ≡ [] = ap (λ (h : Progress). h.steps) fresh in
    record {
      is = subst (λ (l : List Step). IsThread p limits list at.hand.thread l thread) (sym steps) is;
      still = record {
        own = ap (λ (h : Progress). h.words) fresh;
        sized = sized;
        thread = refl;
        steps = refl;
        loads = λ earlier word cell e. absurd (let n = ap length (sym steps ∙ e) in omega (arith, n, length_push earlier (step_that (Load word) (Some cell))));
      };
      room = room;
    }

-- ---- a run

-- a test for no end
pub none-is : (o : Option End) (b : Bool) → is_some o ≡ not b → is_none o ≡ b
none-is None true h = refl
none-is None false h = absurd (cc h)
none-is (Some end) true h = absurd (cc h)
none-is (Some end) false h = refl

module _ (p : ProgramValue) (limits : LimitsValue) (list : List ℕ) (thread : RunningThread) (at : HandWords) (taken : List ℕ) (is : IsRunning p limits list thread at taken) where
  -- what holds for whatever steps made the thread what it is
  pub of-hand : (P : ℕ → List Step → Type 0) →
      ((steps : List Step) → IsThread p limits list thread.core.thread steps thread → IsReady at (length p.words) thread.core.thread steps → P thread.core.thread steps) → P at.hand.thread at.hand.steps
  of-hand P h =
      let back = sym is.is.own in
      subst (λ (t : ℕ). P t at.hand.steps) is.is.own
      (h at.hand.steps (subst (λ (t : ℕ). IsThread p limits list t at.hand.steps thread) back is.is) (subst (λ (t : ℕ). IsReady at (length p.words) t at.hand.steps) back is.still))

  module _ (added : List Step) (new : HandWords) (next : RunningThread) (has : HasAdded IsReady TakesAt p limits list at.hand.thread at.hand.steps added at new next) where
    -- it is the same thread at the same words
    pub is-same : IsSame (runner_of p limits list thread.core at.hand) (runner_of p limits list next.core new.hand)
    is-same = record {
      program = refl;
      limits = refl;
      list = refl;
      words = has.still.own ∙ same-words (threads_with p limits list) at.hand.thread added at.hand.steps at new has.runs ∙ sym is.still.own;
      thread = has.still.thread;
    }

    -- it took so many steps, or has ended
    pub ran-for : (n last : ℕ) (end : Option End) → 1 ≤ n → (last ≡ thread.core.steps + n) ⊎ (268435456 ≤ last) → (length (at.hand.steps ++ added) ≤ last) ⊎ (added ≡ []) →
        IsEndBefore p limits list at.hand.thread last (at.hand.steps ++ added) end next → RanFor (runner_of p limits list thread.core at.hand) (is_none end) n (runner_of p limits list next.core new.hand)
    ran-for n last None some far within ended =
        let most = most-steps p limits list at.hand.thread (at.hand.steps ++ added) has.is.begun in
        let bounds = has.is.bounds.steps in
        let count = is.is.counted in
        let now = ap length has.still.steps in
        let exactly : length (at.hand.steps ++ added) ≡ length at.hand.steps + n = by_last far within in
        (now ∙ exactly, omega (arith, now, most))
      where
        by_last : (last ≡ thread.core.steps + n) ⊎ (268435456 ≤ last) → (length (at.hand.steps ++ added) ≤ last) ⊎ (added ≡ []) → length (at.hand.steps ++ added) ≡ length at.hand.steps + n
        by_last (inr l) w = absurd (let most = most-steps p limits list at.hand.thread (at.hand.steps ++ added) has.is.begun in let bounds = has.is.bounds.steps in omega (arith, l, most, bounds, ended))
        by_last (inl e) (inl w) = let count = is.is.counted in omega (arith, e, w, count, ended)
        by_last (inl e) (inr none) =
            let count = is.is.counted in
            let same = ap (λ (l : List Step). length (at.hand.steps ++ l)) none ∙ ap length (append-nil at.hand.steps) in absurd (omega (arith, e, same, count, ended, some))
    ran-for n last (Some end) some far within ended = (
      (let now = ap length has.still.steps in let more = length-append at.hand.steps added in omega (arith, now, more)),
      at-end p limits list at.hand.thread (at.hand.steps ++ added) next.core ended.2 (ap has_ended ended.1),
    )
