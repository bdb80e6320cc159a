-- The next step of a thread in a play by an order: it is that of the thread's run.
use Rattle.std.proofs.Common.{◌≡◌, ℕ, ◌+◌, ◌<◌, ◌≤◌, Bool, true, false, List, length, refl, sym, ◌∙◌, ap, subst, arith, inl, inr, ◌⊎◌}
use Rattle.std.specs.Prelude.{slice_index_or, Contains, Option, Some, None, is_some}
use Rattle.std.proofs.lemmas.Bool.{cases_lt}
use Rattle.replay_model.specs.Steps.{Event, Cell, Step, word_of, reads, no_cell, has_ended, found_in}
use Rattle.replay_model.specs.declared.Want.{Want}
use Rattle.replay_model.specs.declared.Entry.{Entry}
use Rattle.replay_model.specs.Threads.{Threads, StaysWithin, IsRun, no_step}
use Rattle.replay_model.specs.Histories.{World, steps_of}
use Rattle.replay_model.specs.Logs.{Log, HasEntry, first_event, last_event}
use Rattle.replay_model.specs.Orders.{place}
use Rattle.replay_model.specs.Fitting.{HasWritten}
use Rattle.replay_model.proofs.Moves.{in_range}
use Rattle.replay_laws.proofs.Skip.{Told, Serves, IsLatest, Inv, found_right}

-- a place at which nothing is written to the word changes nothing
pub still_latest : (initial : List ℕ) (keep : Event → Bool) (runs : List (List Step)) (order : List Event) (i word : ℕ) (cell : Cell) →
    ((e : Event) (v : ℕ) → keep e ≡ true → HasWritten runs e word v → place order e ≡ i → ⊥) →
    IsLatest initial keep runs order i word cell → IsLatest initial keep runs order (i + 1) word cell
still_latest initial keep runs order i word cell none (inl fresh) = inl (record {
  tag = fresh.tag;
  value = fresh.value;
  none = λ e v k w. let l = fresh.none e v k w in let n = none e v k w in omega arith;
})
still_latest initial keep runs order i word cell none (inr from) = inr (record {
  event = from.event;
  tag = from.tag;
  kept = from.kept;
  written = from.written;
  done = let d = from.done in omega arith;
  latest = λ e v k w l. let n = none e v k w in let m = from.latest e v k w in omega arith;
})

-- the step that the run of t takes after k steps
abbrev pub run_step : List (List Step) → ℕ → ℕ → Step
run_step runs t k = slice_index_or (steps_of runs t) k no_step

module _ (threads : Threads) (initial : List ℕ) (keep : Event → Bool) (log : Log) (runs : List (List Step)) (order : List Event)
    (told : Told initial log runs) (serves : Serves (length initial) keep log runs order)
    (run : (t : ℕ) → t < length runs → IsRun threads t (steps_of runs t))
    (within : StaysWithin threads (length initial)) where
  -- a thread wants what its run wants next
  pub wants_next : (i : ℕ) (world : World) → Inv initial keep runs order i world → (t : ℕ) →
      length (steps_of world.threads t) < length (steps_of runs t) →
      threads t (steps_of world.threads t) ≡ (run_step runs t (length (steps_of world.threads t))).want
  wants_next i world inv t l =
      let r = run t (in_range runs t _ l) in
      ap (threads t) (inv.prefix t) ∙ r.wants (length (steps_of world.threads t)) l

  not_yet : (i : ℕ) (world : World) → Inv initial keep runs order i world → (t k : ℕ) → k ≡ length (steps_of world.threads t) →
      (entry : Entry) → HasEntry log t entry → k + 1 ≤ entry.last → i ≤ place order (last_event t entry)
  not_yet i world inv t k kk entry c hi = far (cases_lt (place order (last_event t entry)) i)
    where
      far : (place order (last_event t entry) < i) ⊎ (i ≤ place order (last_event t entry)) → i ≤ place order (last_event t entry)
      far (inl x) =
          let d = inv.done (last_event t entry) (serves.last_reads t entry c) x in
          absurd (omega arith)
      far (inr x) = x

  -- and finds what its run found
  pub step_found : (i : ℕ) (world : World) → Inv initial keep runs order i world → (t k : ℕ) → k ≡ length (steps_of world.threads t) →
      (l : k < length (steps_of runs t)) →
      threads t (steps_of world.threads t) ≡ (run_step runs t k).want →
      ((a : Event) → Contains order a → a.thread ≡ t → a.step ≤ k + 1 → place order a ≤ i) →
      found_in world.memory (run_step runs t k).want ≡ (run_step runs t k).found
  step_found i world inv t k kk l pw early = go (run_step runs t k).found refl
    where
      r : IsRun threads t (steps_of runs t)
      r = run t (in_range runs t _ l)

      go : (found : Option Cell) → (run_step runs t k).found ≡ found → found_in world.memory (run_step runs t k).want ≡ (run_step runs t k).found
      go None q =
          let e : reads (run_step runs t k).want ≡ false = sym (r.found k l) ∙ ap is_some q in
          rw e (sym q)
      go (Some cell) q =
          let e : reads (run_step runs t k).want ≡ true = sym (r.found k l) ∙ ap is_some q in
          let (entry, c, ew, es, lo, hi) = told.covered t k cell l q in
          let w : word_of (run_step runs t k).want < length initial =
          subst (λ (x : Want). word_of x < length initial) pw
          (within t (steps_of world.threads t) (ap has_ended pw ∙ r.lives k l)) in
          let late : i ≤ place order (last_event t entry) = not_yet i world inv t k kk entry c hi in
          let f = found_right initial keep log runs order serves i (word_of (run_step runs t k).want) (slice_index_or world.memory (word_of (run_step runs t k).want) no_cell) cell t entry c ew es late
          (early (first_event t entry) (serves.firsts t entry c) refl lo) (told.grounded t k cell l q) (inv.memory _ w) in
          rw e (ap Some f ∙ sym q)
