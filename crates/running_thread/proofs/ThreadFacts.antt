-- What holds of a thread that has this input list, whatever the lists of the others are.
use Rattle.std.proofs.Common.{◌≡◌, ℕ, ◌<◌, ◌≤◌, true, false, List, [], ◌∷◌, ◌++◌, length, sym, ◌∙◌, ap, subst}
use Rattle.std.specs.Prelude.{Some, slice_index_or, replicate}
use Rattle.std.proofs.lemmas.List.{length-replicate}
use Rattle.std.proofs.Math.Seq.{get_or-append_seam}
use Rattle.replay_model.specs.declared.Want.{Want}
use Rattle.replay_model.specs.declared.Want.TheVariants.{Cond}
use Rattle.replay_model.specs.Steps.{Tag, Step, word_of, has_ended, reads}
use Rattle.replay_model.specs.ThreadLogs.{is_full}
use Rattle.machine.specs.Programs.{ProgramValue, LimitsValue}
use Rattle.machine.specs.Inputs.{InputsValue, inputs_of}
use Rattle.machine.specs.Cores.{first_state, settled, took}
use Rattle.machine.specs.Runs.{state_from, threads_of}
use Rattle.machine.specs.Laws.{FollowsLoad}
use Rattle.machine.proofs.Rests.{IsAsked}
use Rattle.machine.proofs.Runs.{stays_within, ends_within, counts_steps, keeps_thread, after_step, state_after-stands, wanted_of, compares_after_loads}
use Rattle.running_thread.specs.Threads.{threads_with}

-- inputs in which thread t has this list
inputs_with : ℕ → List ℕ → InputsValue
inputs_with t list = replicate t [] ++ list ∷ []

with-list : (t : ℕ) (list : List ℕ) → inputs_of (inputs_with t list) t ≡ list
unfolding inputs_with
with-list t list = ap (λ (n : ℕ). slice_index_or (replicate t [] ++ list ∷ []) n []) (sym (length-replicate {A = List ℕ} t [])) ∙ get_or-append_seam (replicate t []) list [] []

pub record Obeys (p : ProgramValue) (limits : LimitsValue) (list : List ℕ) (t : ℕ) (steps : List Step) : Type 0 where
  pub counted : (state_from p limits list [] (first_state t) steps).steps ≡ length steps
  pub thread : (state_from p limits list [] (first_state t) steps).thread ≡ t
  pub pending : (state_from p limits list [] (first_state t) steps).pending ≡ Some (threads_with p limits list t steps)
  pub within : has_ended (threads_with p limits list t steps) ≡ false → word_of (threads_with p limits list t steps) < length p.words
  pub ends : limits.steps ≤ length steps → has_ended (threads_with p limits list t steps) ≡ true
  pub room : reads (threads_with p limits list t steps) ≡ true → is_full limits.entries steps ≡ false
  pub more : (step : Step) → state_from p limits list [] (first_state t) (steps ++ step ∷ []) ≡
      settled p limits list (is_full limits.entries (steps ++ step ∷ [])) (took (state_from p limits list [] (first_state t) steps) step.found)
  pub compares : (word : ℕ) (seen : Tag) (value : ℕ) → threads_with p limits list t steps ≡ Cond word seen value → FollowsLoad (threads_with p limits list) t steps word seen

of_inputs : (p : ProgramValue) (limits : LimitsValue) (inputs : InputsValue) (t : ℕ) (steps : List Step) → Obeys p limits (inputs_of inputs t) t steps
of_inputs p limits inputs t steps = record {
  counted = counts_steps p limits inputs t steps;
  thread = keeps_thread p limits inputs t steps;
  pending = (state_after-stands p limits inputs t steps).pending ∙ ap (λ (w : Want). Some w) (sym (wanted_of p limits inputs t steps));
  within = stays_within p limits inputs t steps;
  ends = ends_within p limits inputs t steps;
  room = (subst (IsAsked (length p.words) (is_full limits.entries steps)) (sym (wanted_of p limits inputs t steps)) (state_after-stands p limits inputs t steps).asked).room;
  more = after_step p limits inputs t steps;
  compares = λ word seen value h.
      let f : FollowsLoad (threads_of p limits inputs) t steps word seen = compares_after_loads p limits inputs t steps word seen value h in
      record { earlier = f.earlier; last = f.last; whole = f.whole; load = f.load; cell = f.cell; found = f.found; tag = f.tag };
}

pub obeys : (p : ProgramValue) (limits : LimitsValue) (list : List ℕ) (t : ℕ) (steps : List Step) → Obeys p limits list t steps
obeys p limits list t steps = subst (λ (l : List ℕ). Obeys p limits l t steps) (with-list t list) (of_inputs p limits (inputs_with t list) t steps)
