-- What a step of its run does to the state of a play by an order.
use Rattle.std.proofs.Common.{◌≡◌, ℕ, ◌+◌, ◌-◌, ◌<◌, ◌≤◌, Bool, true, false, cond, List, [], ◌∷◌, ◌++◌, length, take, refl, sym, ◌∙◌, ap, subst, arith, inl, inr, ◌⊎◌}
use Rattle.std.specs.Prelude.{slice_index_or, Contains, Option, Some, None, slice_set}
use Rattle.std.proofs.lemmas.List.{length-set, get_or-set_same, get_or-set_other, take_more, length_push}
use Rattle.std.proofs.lemmas.Bool.{cases_eq, cases_lt}
use Rattle.replay_model.specs.Steps.{Event, Cell, Step, word_of, wrote, no_cell, put}
use Rattle.replay_model.specs.Threads.{no_step}
use Rattle.replay_model.specs.Histories.{World, steps_of}
use Rattle.replay_model.specs.Logs.{Log}
use Rattle.replay_model.specs.Events.{IsEvent}
use Rattle.replay_model.specs.Orders.{place}
use Rattle.replay_model.specs.Fitting.{step_at, HasWritten}
use Rattle.replay_model.proofs.Moves.{in_range, each_thread}
use Rattle.replay_laws.proofs.Places.{place-contains, same_place}
use Rattle.replay_laws.proofs.Skip.{Told, Serves, IsFrom, IsLatest, Inv}
use Rattle.replay_laws.proofs.NextSteps.{still_latest, run_step}

-- one thread goes on by the next step of its run
pub advance : (initial : List ℕ) (keep : Event → Bool) (runs : List (List Step)) (order : List Event) (i j : ℕ) (world : World) →
    Inv initial keep runs order i world → (t k : ℕ) → k ≡ length (steps_of world.threads t) → k < length (steps_of runs t) →
    (step : Step) → step ≡ run_step runs t k →
    (memory : List Cell) → length memory ≡ length initial →
    ((word : ℕ) → word < length initial → IsLatest initial keep runs order j word (slice_index_or memory word no_cell)) →
    ((e : Event) → Contains order e → i ≤ place order e → place order e < j → (e.thread ≡ t) × (e.step ≤ k + 1)) →
    ((e : Event) → Contains order e → j ≤ place order e → (i ≤ place order e) × (e.thread ≡ t → k + 1 < e.step)) →
    Inv initial keep runs order j (record { memory = memory; threads = slice_set world.threads t (steps_of world.threads t ++ step ∷ []) })
advance initial keep runs order i j world inv t k kk l step is memory sized latest between after = record {
  sized = sized;
  counted = length-set world.threads t _ ∙ inv.counted;
  short = each_thread (λ u s. length s ≤ length (steps_of runs u)) world.threads t new t_in (omega (arith, len)) (λ u n. inv.short u);
  prefix = each_thread (λ u s. s ≡ take (length s) (steps_of runs u)) world.threads t new t_in (grown ∙ ap (λ n. take n (steps_of runs t)) (sym len)) (λ u n. inv.prefix u);
  done = λ e ev pl. done_at e ev pl;
  todo = λ e ev pl. todo_at e ev pl;
  memory = latest;
}
  where
    new : List Step
    new = steps_of world.threads t ++ step ∷ []

    t_in : t < length world.threads
    t_in = let r = in_range runs t k l in let c = inv.counted in omega arith

    len : length (steps_of world.threads t ++ step ∷ []) ≡ k + 1
    len = length_push (steps_of world.threads t) step ∙ ap (λ n. n + 1) (sym kk)

    grown : steps_of world.threads t ++ step ∷ [] ≡ take (k + 1) (steps_of runs t)
    grown =
        let p : steps_of world.threads t ≡ take k (steps_of runs t) = inv.prefix t ∙ ap (λ n. take n (steps_of runs t)) (sym kk) in
        ap (λ (s : List Step). s ++ step ∷ []) p ∙ ap (λ (x : Step). take k (steps_of runs t) ++ x ∷ []) is ∙ sym (take_more (steps_of runs t) k no_step l)

    done_here : (e : Event) → Contains order e → place order e < j → e.thread ≡ t → (place order e < i) ⊎ (i ≤ place order e) → e.step ≤ length (steps_of world.threads t ++ step ∷ [])
    done_here e ev pl et (inl x) =
        let d : e.step ≤ length (steps_of world.threads t) = subst (λ (u : ℕ). e.step ≤ length (steps_of world.threads u)) et (inv.done e ev x) in
        omega (arith, len)
    done_here e ev pl et (inr x) = let d = (between e ev x pl).1 in omega (arith, len)

    done_there : (e : Event) → Contains order e → place order e < j → (u : ℕ) → (u ≡ t → ⊥) → e.thread ≡ u → (place order e < i) ⊎ (i ≤ place order e) → e.step ≤ length (steps_of world.threads u)
    done_there e ev pl u n et (inl x) = subst (λ (u : ℕ). e.step ≤ length (steps_of world.threads u)) et (inv.done e ev x)
    done_there e ev pl u n et (inr x) = absurd (n (sym et ∙ (between e ev x pl).0))

    done_at : (e : Event) → Contains order e → place order e < j → e.step ≤ length (steps_of (slice_set world.threads t new) e.thread)
    done_at e ev pl = each_thread (λ u s. e.thread ≡ u → e.step ≤ length s) world.threads t new t_in
        (λ et. done_here e ev pl et (cases_lt (place order e) i))
        (λ u n et. done_there e ev pl u n et (cases_lt (place order e) i)) e.thread refl

    todo_at : (e : Event) → Contains order e → j ≤ place order e → length (steps_of (slice_set world.threads t new) e.thread) < e.step
    todo_at e ev pl = each_thread (λ u s. e.thread ≡ u → length s < e.step) world.threads t new t_in
        (λ et. let d = (after e ev pl).1 et in omega (arith, len))
        (λ u n et. subst (λ (u : ℕ). length (steps_of world.threads u) < e.step) et (inv.todo e ev (after e ev pl).0)) e.thread refl

-- the event after k steps is the step at k
pub step_at-next : (runs : List (List Step)) (t k : ℕ) → step_at runs (record { thread = t; step = k + 1 }) ≡ run_step runs t k
step_at-next runs t k = let e : (k + 1) - 1 ≡ k = omega arith in ap (λ n. run_step runs t n) e

-- each event of the log is a step of its run
pub event_inside : (initial : List ℕ) (log : Log) (runs : List (List Step)) → Told initial log runs → (e : Event) → IsEvent log e → (1 ≤ e.step) × (e.step ≤ length (steps_of runs e.thread))
event_inside initial log runs told e (inl (inl (t, b, c, q))) = let (v, w) = told.sources t b e c q in (w.low, w.high)
event_inside initial log runs told e (inl (inr c)) = let (word, v, l, q, w) = told.last_tags e c in (w.low, w.high)
event_inside initial log runs told e (inr (t, b, c, inl q)) =
    let (x, y, z) = told.inside t b c in
    let P : Event → Type 0 = λ v. (1 ≤ v.step) × (v.step ≤ length (steps_of runs v.thread)) in
    subst P (sym q) (omega arith, omega arith)
event_inside initial log runs told e (inr (t, b, c, inr q)) =
    let (x, y, z) = told.inside t b c in
    let P : Event → Type 0 = λ v. (1 ≤ v.step) × (v.step ≤ length (steps_of runs v.thread)) in
    subst P (sym q) (omega arith, omega arith)

-- the memory after the step that is the event at place i
pub event_memory : (initial : List ℕ) (keep : Event → Bool) (log : Log) (runs : List (List Step)) (order : List Event) (i : ℕ) (memory : List Cell) →
    Serves (length initial) keep log runs order →
    length memory ≡ length initial →
    ((word : ℕ) → word < length initial → IsLatest initial keep runs order i word (slice_index_or memory word no_cell)) →
    (t k : ℕ) → k < length (steps_of runs t) → place order (record { thread = t; step = k + 1 }) ≡ i →
    word_of (run_step runs t k).want < length initial →
    (here : Event) → here ≡ record { thread = t; step = k + 1 } →
    (written : Option ℕ) → wrote (run_step runs t k).want (run_step runs t k).found ≡ written →
    (kept : Bool) → keep here ≡ kept →
    (length (cond kept (put memory (word_of (run_step runs t k).want) here written) memory) ≡ length initial) ×
    ((word : ℕ) → word < length initial → IsLatest initial keep runs order (i + 1) word (slice_index_or (cond kept (put memory (word_of (run_step runs t k).want) here written) memory) word no_cell))
event_memory initial keep log runs order i memory serves sized latest t k l pl wl here hi written ww false kq = (
  sized,
  λ word w. still_latest initial keep runs order i word _ (λ e v kept hw pe.
      let same : e ≡ here = same_place order e (record { thread = t; step = k + 1 }) (pe ∙ sym pl) (place-contains order e (serves.made e _ v kept hw)) ∙ sym hi in
      let kf : keep e ≡ false = ap keep same ∙ kq in
      let no : true ≡ false = sym kept ∙ kf in cc no) (latest word w),
)
event_memory initial keep log runs order i memory serves sized latest t k l pl wl here hi None ww true kq = (
  sized,
  λ word w. still_latest initial keep runs order i word _ (λ e v kept hw pe.
      let same : e ≡ record { thread = t; step = k + 1 } = same_place order e (record { thread = t; step = k + 1 }) (pe ∙ sym pl) (place-contains order e (serves.made e _ v kept hw)) in
      let st : step_at runs e ≡ run_step runs t k = ap (step_at runs) same ∙ step_at-next runs t k in
      let x : wrote (run_step runs t k).want (run_step runs t k).found ≡ Some v = ap (λ (s : Step). wrote s.want s.found) (sym st) ∙ hw.wrote in
      let no : None ≡ Some v = sym ww ∙ x in cc no) (latest word w),
)
event_memory initial keep log runs order i memory serves sized latest t k l pl wl here hi (Some value) ww true kq =
    (length-set memory _ _ ∙ sized, λ word w. go word w (cases_eq word (word_of (run_step runs t k).want)))
  where
    st : step_at runs here ≡ run_step runs t k
    st = ap (step_at runs) hi ∙ step_at-next runs t k

    go : (word : ℕ) → word < length initial → (word ≡ word_of (run_step runs t k).want) ⊎ (word ≡ word_of (run_step runs t k).want → ⊥) →
        IsLatest initial keep runs order (i + 1) word (slice_index_or (slice_set memory (word_of (run_step runs t k).want) (record { value = value; tag = Some here })) word no_cell)
    go word w (inl e) =
        let h : slice_index_or (slice_set memory (word_of (run_step runs t k).want) (record { value = value; tag = Some here })) word no_cell ≡ record { value = value; tag = Some here } =
        ap (λ x. slice_index_or (slice_set memory (word_of (run_step runs t k).want) (record { value = value; tag = Some here })) x no_cell) e ∙
        get_or-set_same memory (word_of (run_step runs t k).want) (record { value = value; tag = Some here }) no_cell (omega arith) in
        let P : Cell → Type 0 = λ c. IsLatest initial keep runs order (i + 1) word c in
        let pp : place order here ≡ i = ap (place order) hi ∙ pl in
        let written_here : HasWritten runs here word value = record {
          low = (let q : here.step ≡ k + 1 = ap (λ (x : Event). x.step) hi in omega arith);
          high = (let Q : Event → Type 0 = λ x. x.step ≤ length (steps_of runs x.thread) in subst Q (sym hi) (omega arith));
          to = ap (λ (s : Step). word_of s.want) st ∙ sym e;
          wrote = ap (λ (s : Step). wrote s.want s.found) st ∙ ww;
        } in
        let f : IsFrom keep runs order (i + 1) word (record { value = value; tag = Some here }) = record {
          event = here;
          tag = refl;
          kept = kq;
          written = written_here;
          done = omega arith;
          latest = λ e v kept hw d. omega arith;
        } in
        subst P (sym h) (inr f)
    go word w (inr n) =
        let h : slice_index_or (slice_set memory (word_of (run_step runs t k).want) (record { value = value; tag = Some here })) word no_cell ≡ slice_index_or memory word no_cell =
        get_or-set_other memory (word_of (run_step runs t k).want) word (record { value = value; tag = Some here }) no_cell n in
        let P : Cell → Type 0 = λ c. IsLatest initial keep runs order (i + 1) word c in
        subst P (sym h) (still_latest initial keep runs order i word _ (λ e v kept hw pe.
        let same : e ≡ here = same_place order e (record { thread = t; step = k + 1 }) (pe ∙ sym pl) (place-contains order e (serves.made e _ v kept hw)) ∙ sym hi in
        n (sym hw.to ∙ ap (λ (x : Event). word_of (step_at runs x).want) same ∙ ap (λ (s : Step). word_of s.want) st)) (latest word w))
