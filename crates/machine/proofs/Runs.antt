-- Threads as functions of their memory steps.
use Rattle.std.proofs.Common.{◌≡◌, ◌⊎◌, ℕ, ◌+◌, ◌<◌, ◌≤◌, Bool, true, false, List, [], ◌∷◌, ◌++◌, length, refl, sym, ◌∙◌, ap, subst, arith, append_assoc, append-nil, inl, inr}
use Rattle.std.proofs.lemmas.List.{get_or_past}
use Rattle.std.specs.Prelude.{Option, Some, None, IsSome}
use Rattle.light_base.specs.declared.tag.Cell.{Cell}
use Rattle.replay_model.specs.Steps.{Tag, Step, has_ended, word_of}
use Rattle.replay_model.specs.Threads.{StaysWithin, HasOnly, EndsWithin}
use Rattle.replay_model.specs.ThreadLogs.{is_full}
use Rattle.replay_model.specs.declared.Want.{Want}
use Rattle.replay_model.specs.declared.Want.TheVariants as want
use Rattle.replay_model.specs.declared.End.TheVariants as end
use Rattle.machine.specs.Programs.{ProgramValue, LimitsValue, code_of}
use Rattle.machine.specs.declared.cores.Expected.{Expected}
use Rattle.machine.specs.declared.program.Instr.{Instr}
use Rattle.machine.specs.Cores.{State, first_state, settled, took, want_or, pending_want, resumed, run_on}
use Rattle.machine.specs.Inputs.{InputsValue, inputs_of}
use Rattle.machine.specs.Laws.{FollowsLoad}
use Rattle.machine.specs.Runs.{state_from, state_after, threads_of}
use Rattle.machine.proofs.Local.{run_on-stop}
use Rattle.machine.proofs.Rests.{MayBeTaken, IsAsked, IsBetween, run_on-settles, settled-settles, settled-some, settled-none}
use Rattle.machine.proofs.Took.{took_takes, took_between}

-- what has no code comes to its end at once
settled-past : (p : ProgramValue) (limits : LimitsValue) (list : List ℕ) (full : Bool) (s : State) → IsBetween p limits s → length p.threads ≤ s.thread → (settled p limits list full s).pending ≡ Some (want.Ended end.Halted)
settled-past p limits list full s h past =
    let none : code_of p s.thread ≡ [] = get_or_past p.threads s.thread [] past in
    ap (λ (n : State). n.pending) (
    settled-none p limits list full s None h.pending (h.past past) ∙ ap (λ (code : List Instr). run_on code (length p.words) limits list full s) none ∙
    run_on-stop [] (length p.words) limits list full s None (want.Ended end.Halted) refl refl
    )

-- it has ended
past_ended : (p : ProgramValue) (limits : LimitsValue) (list : List ℕ) (full : Bool) (s : State) → IsBetween p limits s → length p.threads ≤ s.thread → (wanted : Want) → (settled p limits list full s).pending ≡ Some wanted → has_ended wanted ≡ true
past_ended p limits list full s h past wanted pending =
    let e : Some wanted ≡ Some (want.Ended end.Halted) = sym pending ∙ settled-past p limits list full s h past in
    let w : wanted ≡ want.Ended end.Halted = cc in
    ap has_ended w

-- the state after these steps: its thread, its count of steps, and what is pending
pub record Stands (p : ProgramValue) (limits : LimitsValue) (full : Bool) (t count : ℕ) (s : State) : Type 0 where
  pub thread : s.thread ≡ t
  pub steps : s.steps ≡ count
  pub wanted : Want
  pub pending : s.pending ≡ Some wanted
  pub step : has_ended wanted ≡ false → MayBeTaken (length p.words) limits s wanted
  pub asked : IsAsked (length p.words) full wanted
  pub past : length p.threads ≤ t → has_ended wanted ≡ true

-- so stands a settled state
settled-stands : (p : ProgramValue) (limits : LimitsValue) (list : List ℕ) (full : Bool) (s : State) → IsBetween p limits s → Stands p limits full s.thread s.steps (settled p limits list full s)
settled-stands p limits list full s h =
    let t = settled-settles p limits list full s h in
    record {
      thread = t.thread;
      steps = t.steps;
      wanted = t.wanted;
      pending = t.pending;
      step = t.step;
      asked = t.asked;
      past = λ over. past_ended p limits list full s h over t.wanted t.pending;
    }

-- a memory step from there leads on
stands-between : (p : ProgramValue) (limits : LimitsValue) (full : Bool) (t count : ℕ) (s : State) (cell : Option Cell) → Stands p limits full t count s → IsBetween p limits (took s cell)
stands-between p limits full t count s cell h = took_between p limits s h.wanted cell h.pending h.step (λ over. let e = h.thread in h.past (omega (arith, e, over)))

-- so stands the state after more steps
state_from-stands : (p : ProgramValue) (limits : LimitsValue) (list : List ℕ) (earlier : List Step) (s : State) (steps : List Step) → IsBetween p limits s →
    Stands p limits (is_full limits.entries (earlier ++ steps)) s.thread (s.steps + length steps) (state_from p limits list earlier s steps)
state_from-stands p limits list earlier s [] h =
    let P : ℕ → Type 0 = λ n. Stands p limits (is_full limits.entries (earlier ++ [])) s.thread n (settled p limits list (is_full limits.entries earlier) s) in
    let Q : List Step → Type 0 = λ l. Stands p limits (is_full limits.entries l) s.thread s.steps (settled p limits list (is_full limits.entries earlier) s) in
    subst P (omega arith) (subst Q (sym (append-nil earlier)) (settled-stands p limits list (is_full limits.entries earlier) s h))
state_from-stands p limits list earlier s (step ∷ steps) h =
    let here = settled p limits list (is_full limits.entries earlier) s in
    let next = took here step.found in
    let t = settled-settles p limits list (is_full limits.entries earlier) s h in
    let k = took_takes here step.found in
    let e : next.thread ≡ s.thread = k.thread ∙ t.thread in
    let ts = k.steps in
    let ss = t.steps in
    let n : next.steps + length steps ≡ s.steps + length (step ∷ steps) = omega arith in
    let new = state_from p limits list (earlier ++ step ∷ []) next steps in
    let full = is_full limits.entries (earlier ++ step ∷ steps) in
    let P : ℕ → Type 0 = λ k. Stands p limits full k (s.steps + length (step ∷ steps)) new in
    let Q : ℕ → Type 0 = λ k. Stands p limits full next.thread k new in
    let R : List Step → Type 0 = λ l. Stands p limits (is_full limits.entries l) next.thread (next.steps + length steps) new in
    subst P e (subst Q n (subst R (append_assoc earlier (step ∷ []) steps) (state_from-stands p limits list (earlier ++ step ∷ []) next steps (stands-between p limits (is_full limits.entries earlier) s.thread s.steps here step.found (settled-stands p limits list (is_full limits.entries earlier) s h)))))

-- before its first step a thread has no second one left
first_between : (p : ProgramValue) (limits : LimitsValue) (t : ℕ) → IsBetween p limits (first_state t)
first_between p limits t = record { pending = refl; word = λ e h. absurd cc; instr = λ e h. absurd cc; past = λ over. refl }

-- so stands the state after these steps
pub state_after-stands : (p : ProgramValue) (limits : LimitsValue) (inputs : InputsValue) (t : ℕ) (steps : List Step) → Stands p limits (is_full limits.entries steps) t (length steps) (state_after p limits inputs t steps)
state_after-stands p limits inputs t steps =
    let P : ℕ → Type 0 = λ n. Stands p limits (is_full limits.entries steps) t n (state_after p limits inputs t steps) in
    subst P (omega arith) (state_from-stands p limits (inputs_of inputs t) [] (first_state t) steps (first_between p limits t))

-- what is wanted is what is pending
pub wanted_of : (p : ProgramValue) (limits : LimitsValue) (inputs : InputsValue) (t : ℕ) (steps : List Step) → threads_of p limits inputs t steps ≡ (state_after-stands p limits inputs t steps).wanted
wanted_of p limits inputs t steps = ap (want_or (want.Ended end.Halted)) (state_after-stands p limits inputs t steps).pending

-- no thread asks for a word that the program does not have
pub stays_within : (p : ProgramValue) (limits : LimitsValue) (inputs : InputsValue) → StaysWithin (threads_of p limits inputs) (length p.words)
stays_within p limits inputs t steps h =
    let e = wanted_of p limits inputs t steps in
    let P : Want → Type 0 = λ w. word_of w < length p.words in
    subst P (sym e) ((state_after-stands p limits inputs t steps).step (sym (ap has_ended e) ∙ h)).word

-- a thread that the program does not have has ended
pub has_only : (p : ProgramValue) (limits : LimitsValue) (inputs : InputsValue) → HasOnly (threads_of p limits inputs) (length p.threads)
has_only p limits inputs t steps over = ap has_ended (wanted_of p limits inputs t steps) ∙ (state_after-stands p limits inputs t steps).past over

-- what is not false is true
true_or : (b : Bool) → (b ≡ false → ⊥) → b ≡ true
true_or true h = refl
true_or false h = absurd (h refl)

-- no thread takes more steps than the limit says
pub ends_within : (p : ProgramValue) (limits : LimitsValue) (inputs : InputsValue) → EndsWithin (threads_of p limits inputs) limits.steps
ends_within p limits inputs t steps over =
    ap has_ended (wanted_of p limits inputs t steps) ∙
    true_or _ (λ lives. let s = state_after-stands p limits inputs t steps in let r = (s.step lives).steps in let n = s.steps in absurd (omega (arith, r, n)))

-- a state counts the steps that led to it
pub counts_steps : (p : ProgramValue) (limits : LimitsValue) (inputs : InputsValue) (t : ℕ) (steps : List Step) → (state_after p limits inputs t steps).steps ≡ length steps
counts_steps p limits inputs t steps = (state_after-stands p limits inputs t steps).steps

-- a state is one of its thread
pub keeps_thread : (p : ProgramValue) (limits : LimitsValue) (inputs : InputsValue) (t : ℕ) (steps : List Step) → (state_after p limits inputs t steps).thread ≡ t
keeps_thread p limits inputs t steps = (state_after-stands p limits inputs t steps).thread

-- one more step, from any state
state_from-push : (p : ProgramValue) (limits : LimitsValue) (list : List ℕ) (earlier : List Step) (s : State) (steps : List Step) (step : Step) →
    state_from p limits list earlier s (steps ++ step ∷ []) ≡ settled p limits list (is_full limits.entries (earlier ++ (steps ++ step ∷ []))) (took (state_from p limits list earlier s steps) step.found)
state_from-push p limits list earlier s [] step = refl
state_from-push p limits list earlier s (first ∷ steps) step =
    let now = took (settled p limits list (is_full limits.entries earlier) s) first.found in
    state_from-push p limits list (earlier ++ first ∷ []) now steps step ∙
    ap (λ (whole : List Step). settled p limits list (is_full limits.entries whole) (took (state_from p limits list (earlier ++ first ∷ []) now steps) step.found)) (append_assoc earlier (first ∷ []) (steps ++ step ∷ []))

-- one more step
pub after_step : (p : ProgramValue) (limits : LimitsValue) (inputs : InputsValue) (t : ℕ) (steps : List Step) (step : Step) →
    state_after p limits inputs t (steps ++ step ∷ []) ≡ settled p limits (inputs_of inputs t) (is_full limits.entries (steps ++ step ∷ [])) (took (state_after p limits inputs t steps) step.found)
after_step p limits inputs t steps step = state_from-push p limits (inputs_of inputs t) [] (first_state t) steps step

-- something is pending
some_pending : (o : Option Want) (w : Want) → o ≡ Some w → IsSome o
some_pending None w h = cc
some_pending (Some x) w h = refl

-- local instructions end with something pending
run_on_pending : (code : List Instr) (words : ℕ) (limits : LimitsValue) (list : List ℕ) (full : Bool) (s : State) → IsSome (run_on code words limits list full s).pending
run_on_pending code words limits list full s = some_pending _ _ (run_on-settles code words limits list full s).pending

resumed_pending : (p : ProgramValue) (limits : LimitsValue) (list : List ℕ) (full : Bool) (s : State) (e : Option Expected) → IsSome (resumed p limits list full s e).pending
resumed_pending p limits list full s None = run_on_pending (code_of p s.thread) (length p.words) limits list full s
resumed_pending p limits list full s (Some e) = refl

-- a settled state has something pending
pub settled_pending : (p : ProgramValue) (limits : LimitsValue) (list : List ℕ) (full : Bool) (s : State) → IsSome (settled p limits list full s).pending
settled_pending p limits list full s = by_pending s.pending refl
  where
    by_pending : (o : Option Want) → s.pending ≡ o → IsSome (settled p limits list full s).pending
    by_pending None h = let P : State → Type 0 = λ n. IsSome n.pending in subst P (sym (settled-none p limits list full s s.expected h refl)) (resumed_pending p limits list full s s.expected)
    by_pending (Some w) h = some_pending _ _ (ap (λ (n : State). n.pending) (settled-some p limits list full s w h) ∙ h)

-- a state with something pending stays as it is
pub settled_stays : (p : ProgramValue) (limits : LimitsValue) (list : List ℕ) (full : Bool) (s : State) → IsSome s.pending → settled p limits list full s ≡ s
settled_stays p limits list full s h = by_pending s.pending refl h
  where
    by_pending : (o : Option Want) → s.pending ≡ o → IsSome o → settled p limits list full s ≡ s
    by_pending None e h = cc
    by_pending (Some w) e h = settled-some p limits list full s w e

-- ---- a conditional write follows its load

-- a list is empty, or has a last element
split_last : (steps : List Step) → (steps ≡ []) ⊎ ((earlier : List Step) × (last : Step) × (steps ≡ earlier ++ last ∷ []))
split_last [] = inl refl
split_last (step ∷ steps) =
    elim (split_last steps) [
      | inl none ↦ inr ([], step, ap (λ (list : List Step). step ∷ list) none)
      | inr some ↦ inr (step ∷ some.0, some.1, ap (λ (list : List Step). step ∷ list) some.2)
    ]

-- after so many steps, of which there is a last
conditional_last : (p : ProgramValue) (limits : LimitsValue) (inputs : InputsValue) (t : ℕ) (earlier : List Step) (last : Step) (word : ℕ) (seen : Tag) (value : ℕ) → threads_of p limits inputs t (earlier ++ last ∷ []) ≡ want.Cond word seen value →
    FollowsLoad (threads_of p limits inputs) t (earlier ++ last ∷ []) word seen
conditional_last p limits inputs t earlier last word seen value h =
    let before = state_after p limits inputs t earlier in
    let full = is_full limits.entries (earlier ++ last ∷ []) in
    let next = took before last.found in
    let between = stands-between p limits (is_full limits.entries earlier) t (length earlier) before last.found (state_after-stands p limits inputs t earlier) in
    let settles = settled-settles p limits (inputs_of inputs t) full next between in
    let is : threads_of p limits inputs t (earlier ++ last ∷ []) ≡ settles.wanted = ap pending_want (after_step p limits inputs t earlier last) ∙ ap (want_or (want.Ended end.Halted)) settles.pending in
    let left = settles.second word seen value (sym is ∙ h) in
    let half = (took_takes before last.found).half left.expected left.left in
    record { earlier = earlier; last = last; whole = refl; load = half.wanted ∙ ap want.Load left.at; cell = half.seen; found = half.was; tag = half.tag ∙ left.tag }

-- before its first step a thread wants no conditional write
conditional_first : (p : ProgramValue) (limits : LimitsValue) (inputs : InputsValue) (t word : ℕ) (seen : Tag) (value : ℕ) → threads_of p limits inputs t [] ≡ want.Cond word seen value → ⊥
conditional_first p limits inputs t word seen value h =
    let settles = settled-settles p limits (inputs_of inputs t) (is_full limits.entries []) (first_state t) (first_between p limits t) in
    let is : threads_of p limits inputs t [] ≡ settles.wanted = ap (want_or (want.Ended end.Halted)) settles.pending in
    let left = (settles.second word seen value (sym is ∙ h)).left in
    cc

pub compares_after_loads : (p : ProgramValue) (limits : LimitsValue) (inputs : InputsValue) (t : ℕ) (steps : List Step) (word : ℕ) (seen : Tag) (value : ℕ) → threads_of p limits inputs t steps ≡ want.Cond word seen value →
    FollowsLoad (threads_of p limits inputs) t steps word seen
compares_after_loads p limits inputs t steps word seen value h =
    elim (split_last steps) [
      | inl none ↦ absurd (conditional_first p limits inputs t word seen value (ap (threads_of p limits inputs t) (sym none) ∙ h))
      | inr some ↦ (let P : List Step → Type 0 = λ list. FollowsLoad (threads_of p limits inputs) t list word seen in subst P (sym some.2) (conditional_last p limits inputs t some.0 some.1 word seen value (ap (threads_of p limits inputs t) (sym some.2) ∙ h)))
    ]
