-- The writes of threads, after one more step.
use Rattle.std.proofs.Common.{◌≡◌, ℕ, zero, suc, ◌+◌, ◌-◌, ◌<◌, ◌≤◌, List, [], ◌∷◌, ◌++◌, length, refl, sym, ◌∙◌, ap, subst, arith, inl, inr, ◌⊎◌}
use Rattle.std.specs.Prelude.{Option, Some, None, IfSome, slice_index_or, slice_set, Contains}
use Rattle.std.specs.Global.{Vec}
use Rattle.std.proofs.lemmas.Bool.{cases_lt}
use Rattle.std.proofs.lemmas.List.{get_or_append_left, get_or_push, get_or_past, length_push, length-replicate}
use Rattle.std.proofs.lemmas.List.Elements.{Contains-append_left, Contains-append_right, Contains-append_cases}
use Rattle.replay_model.specs.Steps.{Event, Step, word_of, wrote}
use Rattle.replay_model.specs.Threads.{no_step}
use Rattle.replay_model.specs.Histories.{steps_of, opening}
use Rattle.replay_model.specs.Fitting.{step_at, HasWritten}
use Rattle.replay_model.proofs.Moves.{each_thread, set_here, opening_steps}
use Rattle.replay_laws.proofs.Sound.{written_more}
use Rattle.running_thread.specs.Running.{event_after}
use Rattle.replayer.specs.declared.notes.Written.{Written}
use Rattle.replayer.specs.Notes.{AreWrites, writes_of, NotesMore}

module _ (runs : List (List Step)) (t : ℕ) (step : Step) (l : t < length runs) where
  abbrev pub steps : List Step
  steps = steps_of runs t

  abbrev pub more : List (List Step)
  more = slice_set runs t (steps ++ step ∷ [])

  -- what a step wrote it wrote before, or it is the new step
  abbrev pub WroteThere : Event → ℕ → ℕ → Type 0
  WroteThere e word v = HasWritten runs e word v ⊎ ((e ≡ event_after t steps) × (word_of step.want ≡ word) × (wrote step.want step.found ≡ Some v))

  wrote-there : (e : Event) (word v : ℕ) → HasWritten more e word v → WroteThere e word v
  wrote-there e word v hw =
      each_thread (λ u ss. e.thread ≡ u → e.step ≤ length ss → word_of (slice_index_or ss (e.step - 1) no_step).want ≡ word →
      wrote (slice_index_or ss (e.step - 1) no_step).want (slice_index_or ss (e.step - 1) no_step).found ≡ Some v → WroteThere e word v) runs t (steps ++ step ∷ []) l
      (λ et hi to wr. here et hi to wr (cases_lt (e.step - 1) (length steps))) there e.thread refl hw.high hw.to hw.wrote
    where
      there : (u : ℕ) → (u ≡ t → ⊥) → e.thread ≡ u → e.step ≤ length (steps_of runs u) → word_of (slice_index_or (steps_of runs u) (e.step - 1) no_step).want ≡ word →
          wrote (slice_index_or (steps_of runs u) (e.step - 1) no_step).want (slice_index_or (steps_of runs u) (e.step - 1) no_step).found ≡ Some v → WroteThere e word v
      there u n et hi to wr =
          let at : step_at runs e ≡ slice_index_or (steps_of runs u) (e.step - 1) no_step = ap (λ (x : ℕ). slice_index_or (steps_of runs x) (e.step - 1) no_step) et in
          inl (record {
            low = hw.low;
            high = subst (λ (x : ℕ). e.step ≤ length (steps_of runs x)) (sym et) hi;
            to = ap (λ (x : Step). word_of x.want) at ∙ to;
            wrote = ap (λ (x : Step). wrote x.want x.found) at ∙ wr;
          })

      here : e.thread ≡ t → e.step ≤ length (steps ++ step ∷ []) → word_of (slice_index_or (steps ++ step ∷ []) (e.step - 1) no_step).want ≡ word →
          wrote (slice_index_or (steps ++ step ∷ []) (e.step - 1) no_step).want (slice_index_or (steps ++ step ∷ []) (e.step - 1) no_step).found ≡ Some v →
          (e.step - 1 < length steps) ⊎ (length steps ≤ e.step - 1) → WroteThere e word v
      here et hi to wr (inl m) =
          let at : step_at runs e ≡ slice_index_or (steps ++ step ∷ []) (e.step - 1) no_step =
          ap (λ (x : ℕ). slice_index_or (steps_of runs x) (e.step - 1) no_step) et ∙ sym (get_or_append_left steps (step ∷ []) no_step (e.step - 1) m) in
          inl (record {
            low = hw.low;
            high = subst (λ (x : ℕ). e.step ≤ length (steps_of runs x)) (sym et) (let a = hw.low in omega (arith, a, m));
            to = ap (λ (x : Step). word_of x.want) at ∙ to;
            wrote = ap (λ (x : Step). wrote x.want x.found) at ∙ wr;
          })
      here et hi to wr (inr m) =
          let low = hw.low in
          let p = length_push steps step in
          let n : length steps ≡ e.step - 1 = omega (arith, hi, p, m) in
          let k : e.step ≡ length steps + 1 = omega (arith, n, low) in
          let at : slice_index_or (steps ++ step ∷ []) (e.step - 1) no_step ≡ step = get_or_push steps step no_step (e.step - 1) n in
          inr (
            ap (λ (x : ℕ). record { thread = x; step = e.step }) et ∙ ap (λ (x : ℕ). record { thread = t; step = x }) k,
            ap (λ (x : Step). word_of x.want) (sym at) ∙ to,
            ap (λ (x : Step). wrote x.want x.found) (sym at) ∙ wr,
          )

  -- the new step wrote
  wrote-here : (v : ℕ) → wrote step.want step.found ≡ Some v → HasWritten more (event_after t steps) (word_of step.want) v
  wrote-here v q =
      let s : steps_of more t ≡ steps ++ step ∷ [] = set_here runs t (steps ++ step ∷ []) l in
      let n = ap length s ∙ length_push steps step in
      let at : step_at more (event_after t steps) ≡ step =
      ap (λ (ss : List Step). slice_index_or ss (length steps + 1 - 1) no_step) s ∙ get_or_push steps step no_step (length steps + 1 - 1) (omega arith) in
      record {
        low = omega arith;
        high = omega (arith, n);
        to = ap (λ (x : Step). word_of x.want) at;
        wrote = ap (λ (x : Step). wrote x.want x.found) at ∙ q;
      }

  -- one more is noted where it wrote
  pub writes-more : (writes : List Written) → AreWrites runs writes → AreWrites more (writes ++ writes_of (event_after t steps) (word_of step.want) (wrote step.want step.found))
  writes-more writes are = record { all = all; only = only }
    where
      noted : List Written
      noted = writes_of (event_after t steps) (word_of step.want) (wrote step.want step.found)

      all : (e : Event) (word v : ℕ) → HasWritten more e word v → Contains (writes ++ writes_of (event_after t steps) (word_of step.want) (wrote step.want step.found)) (record { event = e; word = word })
      all e word v hw = go (wrote-there e word v hw)
        where
          go : WroteThere e word v → Contains (writes ++ writes_of (event_after t steps) (word_of step.want) (wrote step.want step.found)) (record { event = e; word = word })
          go (inl h) = Contains-append_left writes _ _ (are.all e word v h)
          go (inr (q, to, wr)) =
              let P : Option ℕ → Type 0 = λ o. Contains (writes_of (event_after t steps) (word_of step.want) o) (record { event = event_after t steps; word = word_of step.want }) in
              let c : P (wrote step.want step.found) = subst P (sym wr) (0, omega arith, refl) in
              let Q : Event → Type 0 = λ x. Contains (writes_of (event_after t steps) (word_of step.want) (wrote step.want step.found)) (record { event = x; word = word }) in
              let R : ℕ → Type 0 = λ x. Contains (writes_of (event_after t steps) (word_of step.want) (wrote step.want step.found)) (record { event = event_after t steps; word = x }) in
              Contains-append_right writes _ _ (subst Q (sym q) (subst R to c))

      only : (w : Written) → Contains (writes ++ writes_of (event_after t steps) (word_of step.want) (wrote step.want step.found)) w → (v : ℕ) × HasWritten more w.event w.word v
      only w c = go (Contains-append_cases writes _ w c)
        where
          new : (o : Option ℕ) → wrote step.want step.found ≡ o → Contains (writes_of (event_after t steps) (word_of step.want) o) w → (v : ℕ) × HasWritten more w.event w.word v
          new None q (k, m, at) = absurd (omega (arith, m))
          new (Some v) q (zero, m, at) = (v, subst (λ (x : Written). HasWritten more x.event x.word v) at (wrote-here v q))
          new (Some v) q (suc k, m, at) = absurd (omega (arith, m))

          go : Contains writes w ⊎ Contains (writes_of (event_after t steps) (word_of step.want) (wrote step.want step.found)) w → (v : ℕ) × HasWritten more w.event w.word v
          go (inl m) = let (v, hw) = are.only w m in (v, written_more runs t step l w.event w.word v hw)
          go (inr m) = new (wrote step.want step.found) refl m

  -- so it is with what is noted
  pub noted-more : (old new : Option (Vec Written)) → NotesMore old (writes_of (event_after t steps) (word_of step.want) (wrote step.want step.found)) new →
      IfSome old (λ writes. AreWrites runs writes.items) → IfSome new (λ writes. AreWrites more writes.items)
  noted-more old None h are = tt
  noted-more None (Some new) h are = absurd h
  noted-more (Some old) (Some new) h are = subst (AreWrites more) (sym h) (writes-more old.items are)

-- before any step there are none
pub no-writes : (initial : List ℕ) (count : ℕ) → AreWrites (opening initial count).threads []
no-writes initial count = record {
  all = λ e word v hw.
      let none = ap length (opening_steps count e.thread) in
      let lo = hw.low in
      let hi = hw.high in
      absurd (omega (arith, none, lo, hi));
  only = λ w c. absurd (let (k, m, at) = c in omega (arith, m));
}

pub none_noted : (initial : List ℕ) (count : ℕ) (notes : Option (Vec Written)) → IfSome notes (λ writes. writes.items ≡ []) → IfSome notes (λ writes. AreWrites (opening initial count).threads writes.items)
none_noted initial count None h = tt
none_noted initial count (Some writes) h = subst (AreWrites (opening initial count).threads) (sym h) (no-writes initial count)
