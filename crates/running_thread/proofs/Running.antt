-- A run, and one step more of it.
use Rattle.std.proofs.Common.{◌≡◌, ℕ, ◌+◌, ◌<◌, ◌≤◌, true, false, take, List, [], ◌∷◌, ◌++◌, length, refl, sym, ◌∙◌, ap, subst, arith, inl, inr, ◌⊎◌, append_assoc, append-nil}
use Rattle.std.specs.Prelude.{Option, Some, None}
use Rattle.std.proofs.lemmas.Bool.{cases_lt}
use Rattle.std.proofs.lemmas.List.{length_push, length-take-le}
use Rattle.replay_model.specs.declared.End.{End}
use Rattle.replay_model.specs.declared.Want.{Want}
use Rattle.replay_model.specs.Steps.{Event, Cell, Step, has_ended}
use Rattle.replay_model.specs.Threads.{Threads}
use Rattle.machine.specs.Programs.{ProgramValue, LimitsValue}
use Rattle.running_thread.specs.declared.thread.RunningThread.{RunningThread}
use Rattle.running_thread.specs.declared.thread.Moved.{Moved}
use Rattle.running_thread.specs.declared.thread.Moved.TheVariants.{Took, Ended}
use Rattle.running_thread.specs.Running.{IsBegun, Runs, event_after, step_that}
use Rattle.running_thread.specs.Threads.{IsThread, TakesStep, IsAtEnd, Moves, HasAdded, HasRun, HasStopped, HasEnded, threads_with}
use Rattle.running_thread.proofs.ThreadFacts.{obeys}

-- one more step at the end of a run
pub runs-push : {X : Type 0} (takes : X → Event → Want → Option Cell → X → Type 0) (threads : Threads) (t : ℕ) (steps added : List Step) (step : Step) (old mid new : X) → Runs takes threads t steps added old mid →
    threads t (steps ++ added) ≡ step.want → has_ended step.want ≡ false → takes mid (event_after t (steps ++ added)) step.want step.found new → Runs takes threads t steps (added ++ step ∷ []) old new
runs-push {X} takes threads t steps [] step old mid new is wants lives taken =
    let e : steps ++ [] ≡ steps = append-nil steps in
    let P : X → Type 0 = λ x. takes x (event_after t steps) step.want step.found new in
    (new, ap (threads t) (sym e) ∙ wants, lives, subst P is (subst (λ (l : List Step). takes mid (event_after t l) step.want step.found new) e taken), refl)
runs-push {X} takes threads t steps (first ∷ added) step old mid new is wants lives taken =
    let e : (steps ++ first ∷ []) ++ added ≡ steps ++ first ∷ added = append_assoc steps (first ∷ []) added in (
      is.0,
      is.1,
      is.2,
      is.3,
      runs-push takes threads t (steps ++ first ∷ []) added step is.0 mid new is.4 (ap (threads t) e ∙ wants) lives
          (subst (λ (l : List Step). takes mid (event_after t l) step.want step.found new) (sym e) taken),
    )

-- nothing was added yet
pub added-none : {X : Type 0} (ready : X → ℕ → ℕ → List Step → Type 0) (takes : X → Event → Want → Option Cell → X → Type 0) (p : ProgramValue) (limits : LimitsValue) (list : List ℕ) (t : ℕ) (steps : List Step) (words : X)
    (thread : RunningThread) → IsThread p limits list t steps thread → ready words (length p.words) t steps → HasAdded ready takes p limits list t steps [] words words thread
added-none ready takes p limits list t steps words thread is still = record {
  runs = refl;
  still = subst (ready words (length p.words) t) (sym (append-nil steps)) still;
  is = subst (λ (l : List Step). IsThread p limits list t l thread) (sym (append-nil steps)) is;
}

-- one more was
pub added-push : {X : Type 0} (ready : X → ℕ → ℕ → List Step → Type 0) (takes : X → Event → Want → Option Cell → X → Type 0) (p : ProgramValue) (limits : LimitsValue) (list : List ℕ) (t : ℕ) (steps added : List Step) (old mid new : X)
    (thread next : RunningThread) (wanted : Want) (found : Option Cell) → HasAdded ready takes p limits list t steps added old mid thread → TakesStep ready takes p limits list t (steps ++ added) mid wanted found new next →
    HasAdded ready takes p limits list t steps (added ++ step_that wanted found ∷ []) old new next
added-push ready takes p limits list t steps added old mid new thread next wanted found is step =
    let e : (steps ++ added) ++ step_that wanted found ∷ [] ≡ steps ++ (added ++ step_that wanted found ∷ []) = append_assoc steps added (step_that wanted found ∷ []) in
    record {
      runs = runs-push takes (threads_with p limits list) t steps added (step_that wanted found) old mid new is.runs step.wants step.lives step.taken;
      still = subst (ready new (length p.words) t) e step.still;
      is = subst (λ (l : List Step). IsThread p limits list t l next) e step.is;
    }

-- the thread, which had these steps, has come to step n
pub record HasCome {X : Type 0} (ready : X → ℕ → ℕ → List Step → Type 0) (takes : X → Event → Want → Option Cell → X → Type 0) (p : ProgramValue) (limits : LimitsValue) (list : List ℕ) (t : ℕ) (steps : List Step) (last n : ℕ)
    (old new : X) (thread : RunningThread) : Type 0 where
  pub added : List Step
  pub has : HasAdded ready takes p limits list t steps added old new thread
  pub so_many : length (steps ++ added) ≡ n
  pub within : (n ≤ last) ⊎ (added ≡ [])

module _ {X : Type 0} (ready : X → ℕ → ℕ → List Step → Type 0) (takes : X → Event → Want → Option Cell → X → Type 0) (p : ProgramValue) (limits : LimitsValue) (list : List ℕ) (t : ℕ) (steps : List Step) (last : ℕ) where
  pub come-start : (n : ℕ) (words : X) (thread : RunningThread) → n ≡ thread.core.steps → IsThread p limits list t steps thread → ready words (length p.words) t steps →
      HasCome ready takes p limits list t steps last n words words thread
  come-start n words thread count is still = record {
    added = [];
    has = added-none ready takes p limits list t steps words thread is still;
    so_many = ap length (append-nil steps) ∙ sym is.counted ∙ sym count;
    within = inr refl;
  }

  module _ (n : ℕ) (old mid : X) (thread : RunningThread) (come : HasCome ready takes p limits list t steps last n old mid thread) where
    -- the step that it has come to
    pub come-step : (new : X) (next : RunningThread) (moved : Moved) → n < last → ((end : End) → moved ≡ Ended end → ⊥) → Moves ready takes p limits list t (steps ++ come.added) mid moved new next →
        HasCome ready takes p limits list t steps last (n + 1) old new next
    come-step new next (Ended end) l goes moves = absurd (goes end refl)
    come-step new next (Took number wanted found) l goes moves = record {
      added = come.added ++ step_that wanted found ∷ [];
      has = added-push ready takes p limits list t steps come.added old mid new thread next wanted found come.has moves.1;
      so_many = sym (ap length (append_assoc steps come.added (step_that wanted found ∷ []))) ∙ length_push (steps ++ come.added) (step_that wanted found) ∙ ap (λ (k : ℕ). k + 1) come.so_many;
      within = inl (omega arith);
    }

    -- it has ended there
    pub come-end : (new : X) (next : RunningThread) (moved : Moved) (end : End) → n < last → moved ≡ Ended end → Moves ready takes p limits list t (steps ++ come.added) mid moved new next →
        HasRun ready takes p limits list t steps last old (Some end) new next
    come-end new next moved end l is moves = by_end (subst (λ (m : Moved). Moves ready takes p limits list t (steps ++ come.added) mid m new next) is moves)
      where
        by_end : IsAtEnd p limits list t (steps ++ come.added) mid end new next → HasRun ready takes p limits list t steps last old (Some end) new next
        by_end over = record {
          added = come.added;
          has = record {
            runs = subst (λ (x : X). Runs takes (threads_with p limits list) t steps come.added old x) (sym over.same) come.has.runs;
            still = subst (λ (x : X). ready x (length p.words) t (steps ++ come.added)) (sym over.same) come.has.still;
            is = over.is;
          };
          within = inl (let k = come.so_many in omega (arith, k, l));
          ended = ((let k = come.so_many in omega (arith, k, l)), over.wants, over.settled);
        }

    -- it has taken its last step
    pub come-done : last ≤ n → HasRun ready takes p limits list t steps last old None mid thread
    come-done l = record {
      added = come.added;
      has = come.has;
      within = elim come.within [ inl h ↦ inl (let k = come.so_many in omega (arith, k, h)) | inr h ↦ inr h ];
      ended = let k = come.so_many in omega (arith, k, l);
    }

    -- it was stopped there
    pub come-stopped : (new : X) (next : RunningThread) → n < last → new ≡ mid → IsThread p limits list t (steps ++ come.added) next → HasStopped ready takes p limits list t steps last old new next
    come-stopped new next l same is = record {
      added = come.added;
      has = record {
        runs = subst (λ (x : X). Runs takes (threads_with p limits list) t steps come.added old x) (sym same) come.has.runs;
        still = subst (λ (x : X). ready x (length p.words) t (steps ++ come.added)) (sym same) come.has.still;
        is = is;
      };
      before = let k = come.so_many in omega (arith, k, l);
    }

-- no thread takes more steps than the limit says
pub most-steps : (p : ProgramValue) (limits : LimitsValue) (list : List ℕ) (t : ℕ) (steps : List Step) → IsBegun (threads_with p limits list) t steps → length steps ≤ limits.steps
most-steps p limits list t steps begun = go (cases_lt limits.steps (length steps))
  where
    go : (limits.steps < length steps) ⊎ (length steps ≤ limits.steps) → length steps ≤ limits.steps
    go (inr h) = h
    go (inl h) =
        let n : length (take limits.steps steps) ≡ limits.steps = length-take-le limits.steps steps (omega arith) in
        let ends = (obeys p limits list t (take limits.steps steps)).ends (omega (arith, n)) in
        let no : true ≡ false = sym ends ∙ ap has_ended (begun.wants limits.steps h) ∙ begun.lives limits.steps h in
        absurd (cc no)

-- so each has ended before one more
pub run-ended : {X : Type 0} (ready : X → ℕ → ℕ → List Step → Type 0) (takes : X → Event → Want → Option Cell → X → Type 0) (p : ProgramValue) (limits : LimitsValue) (list : List ℕ) (t : ℕ) (steps : List Step) (last : ℕ) (old : X)
    (end : End) (new : X) (thread : RunningThread) → HasRun ready takes p limits list t steps last old (Some end) new thread → HasEnded ready takes p limits list t steps old end new thread
run-ended ready takes p limits list t steps last old end new thread run = record {
  added = run.added;
  has = run.has;
  within = most-steps p limits list t (steps ++ run.added) run.has.is.begun;
  wants = run.ended.1;
  settled = run.ended.2;
}

pub never-none : {X : Type 0} (ready : X → ℕ → ℕ → List Step → Type 0) (takes : X → Event → Want → Option Cell → X → Type 0) (p : ProgramValue) (limits : LimitsValue) (list : List ℕ) (t : ℕ) (steps : List Step) (last : ℕ) (old : X)
    (new : X) (thread : RunningThread) → limits.steps < last → HasRun ready takes p limits list t steps last old None new thread → ⊥
never-none ready takes p limits list t steps last old new thread l run =
    let most = most-steps p limits list t (steps ++ run.added) run.has.is.begun in let e = run.ended in omega (arith, most, e, l)
