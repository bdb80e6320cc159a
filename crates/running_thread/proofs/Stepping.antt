-- A thread at its start, and before and after a step.
use Rattle.std.proofs.Common.{◌≡◌, ℕ, ◌+◌, ◌<◌, ◌≤◌, Bool, true, false, leb, List, [], ◌∷◌, ◌++◌, length, refl, sym, ◌∙◌, ap, subst, arith, inl, inr, ◌⊎◌}
use Rattle.std.specs.Prelude.{All, slice_index_or, Option, Some, None, is_some, IsSome}
use Rattle.std.proofs.lemmas.Bool.{cases_lt, leb-false}
use Rattle.std.proofs.lemmas.List.{length_push, get_or_default}
use Rattle.replay_model.specs.declared.Want.TheVariants.{Load, Store, Swap, Cond, Ended}
use Rattle.replay_model.specs.declared.End.TheVariants as end
use Rattle.replay_model.specs.declared.Entry.{Entry}
use Rattle.replay_model.specs.declared.End.{End}
use Rattle.replay_model.specs.declared.Want.{Want}
use Rattle.replay_model.specs.Steps.{Event, Cell, Step, word_of, has_ended, reads}
use Rattle.replay_model.specs.ThreadLogs.{thread_log, is_full}
use Rattle.replay_model.proofs.MoreReads.{thread_log-push, thread_log-quiet}
use Rattle.replay_model.proofs.ThreadLogs.{thread_log-stands}
use Rattle.machine.specs.Programs.{ProgramValue, LimitsValue, IsProgram, AreLimits}
use Rattle.machine.specs.Cores.{State, first_state, settled, took, want_or, pending_want}
use Rattle.machine.specs.Turns.{IsUnderWay}
use Rattle.machine.proofs.Runs.{settled_pending, settled_stays}
use Rattle.machine.proofs.Took.{took_takes}
use Rattle.dep_log.specs.AccessLogs.{with_found}
use Rattle.dep_log.specs.DepLogs.{DepLogState, no_entries}
use Rattle.running_thread.specs.declared.thread.RunningThread.{RunningThread}
use Rattle.running_thread.specs.Running.{Asks, step_that}
use Rattle.running_thread.specs.Threads.{IsThread, state_with, threads_with}
use Rattle.running_thread.proofs.ThreadFacts.{obeys}
use Rattle.running_thread.proofs.Beginnings.{begun-none, begun-more, after-load}

-- a want that is no end
pub lives_from : (w : Want) → ((e : End) → w ≡ Ended e → ⊥) → has_ended w ≡ false
lives_from (Load word) n = refl
lives_from (Store word value) n = refl
lives_from (Swap word value) n = refl
lives_from (Cond word seen value) n = refl
lives_from (Ended e) n = absurd (n e refl)

-- before any step
pub fresh-thread : (p : ProgramValue) (limits : LimitsValue) (list : List ℕ) (t : ℕ) (core : State) (log : DepLogState) → IsProgram p → AreLimits limits → t < length p.threads → length list ≤ 65536 →
    core ≡ first_state t → log ≡ no_entries (length p.words) limits.entries → IsThread p limits list t [] (record { core = core; log = log })
unfolding thread_log
fresh-thread p limits list t core log rules bounds there short first empty = record {
  rules = rules;
  bounds = bounds;
  there = there;
  short = short;
  begun = begun-none (threads_with p limits list) t;
  core = ap (settled p limits list (is_full limits.entries [])) first;
  own = ap (λ (s : State). s.thread) first;
  counted = ap (λ (s : State). s.steps) first;
  words = ap (λ (l : DepLogState). l.words) empty;
  limit = ap (λ (l : DepLogState). l.limit) empty;
  logged = ap (λ (l : DepLogState). l.entries) empty;
}

-- the entries after one more step
entries-more : (steps : List Step) (step : Step) → thread_log (steps ++ step ∷ []) ≡ with_found (length steps + 1) (word_of step.want) step.found (thread_log steps)
entries-more steps step = by_found step.found refl
  where
    by_found : (found : Option Cell) → step.found ≡ found → thread_log (steps ++ step ∷ []) ≡ with_found (length steps + 1) (word_of step.want) found (thread_log steps)
    by_found None h = thread_log-quiet steps step h
    by_found (Some cell) h = thread_log-push steps step cell h

module _ (p : ProgramValue) (limits : LimitsValue) (list : List ℕ) (t : ℕ) (steps : List Step) (thread : RunningThread) (is : IsThread p limits list t steps thread)
    (full : Bool) (f : full ≡ leb thread.log.limit (length thread.log.entries)) where
  full-is : full ≡ is_full limits.entries steps
  full-is = f ∙ ap (λ (n : ℕ). leb n (length thread.log.entries)) is.limit ∙ ap (λ (es : List Entry). leb limits.entries (length es)) is.logged

  -- on the way to its next step
  pub under-way : (core : State) → IsUnderWay p limits list full thread.core core → IsThread p limits list t steps (record thread { core = core })
  under-way core u = record {
    rules = is.rules;
    bounds = is.bounds;
    there = is.there;
    short = is.short;
    begun = is.begun;
    core = ap (λ (b : Bool). settled p limits list b core) (sym full-is) ∙ u.leads ∙ ap (λ (b : Bool). settled p limits list b thread.core) full-is ∙ is.core;
    own = sym (ap (λ (s : State). s.thread) u.rest) ∙ is.own;
    counted = sym (ap (λ (s : State). s.steps) u.rest) ∙ is.counted;
    words = is.words;
    limit = is.limit;
    logged = is.logged;
  }

  module _ (core : State) (ran : core ≡ settled p limits list full thread.core) where
    pub ran-core : core ≡ state_with p limits list t steps
    ran-core = ran ∙ ap (λ (b : Bool). settled p limits list b thread.core) full-is ∙ is.core

    pub ran-own : core.thread ≡ t
    ran-own = ap (λ (s : State). s.thread) ran-core ∙ (obeys p limits list t steps).thread

    pub ran-counted : core.steps ≡ length steps
    ran-counted = ap (λ (s : State). s.steps) ran-core ∙ (obeys p limits list t steps).counted

    -- its local instructions are run, and all else is as it was
    pub ran-thread : IsThread p limits list t steps (record thread { core = core })
    ran-thread = record {
      rules = is.rules;
      bounds = is.bounds;
      there = is.there;
      short = is.short;
      begun = is.begun;
      core = settled_stays p limits list (is_full limits.entries steps) core (subst (λ (s : State). IsSome s.pending) (sym ran) (settled_pending p limits list full thread.core)) ∙ ran-core;
      own = ran-own;
      counted = ran-counted;
      words = is.words;
      limit = is.limit;
      logged = is.logged;
    }

    module _ (wanted : Want) (pending : core.pending ≡ Some wanted) where
      pub ran-want : threads_with p limits list t steps ≡ wanted
      ran-want = ap pending_want (sym ran-core) ∙ ap (want_or (Ended end.Halted)) pending

      module _ (lives : has_ended wanted ≡ false) where
        fewer : length steps < limits.steps
        fewer = go (cases_lt (length steps) limits.steps)
          where
            go : (length steps < limits.steps) ⊎ (limits.steps ≤ length steps) → length steps < limits.steps
            go (inl l) = l
            go (inr l) = absurd (let no : true ≡ false = sym ((obeys p limits list t steps).ends l) ∙ ap has_ended ran-want ∙ lives in cc no)

        pub inside : word_of wanted < length p.words
        inside =
            let P : Want → Type 0 = λ w. word_of w < length p.words in
            subst P ran-want ((obeys p limits list t steps).within (ap has_ended ran-want ∙ lives))

        pub few-steps : core.steps < 268435455
        few-steps = let l = fewer in let n = ran-counted in let most = is.bounds.steps in omega (arith, l, n, most)

        -- what it asks for
        pub asks : (event : Event) → event.thread ≡ core.thread → event.step ≡ core.steps + 1 → Asks (length p.words) event steps wanted
        asks event own number = record {
          number = let n = ran-counted in omega (arith, number, n);
          tagged = record {
            thread = (let o = ran-own in let h = is.there in let m = is.rules.most_threads in omega (arith, own, o, h, m));
            first = omega (arith, number);
            last = (let l = few-steps in omega (arith, number, l));
          };
          lives = lives;
          inside = inside;
          follows = λ word seen value e. after-load (threads_with p limits list) t steps word seen is.begun ((obeys p limits list t steps).compares word seen value (ran-want ∙ e));
        }

        -- its word is one of the log's
        pub log-word : word_of wanted < thread.log.words
        log-word = let w = inside in let n = is.words in omega (arith, w, n)

        -- the entries end with earlier steps
        pub log-later : (number : ℕ) → number ≡ core.steps + 1 → All (λ (entry : Entry). entry.last < number) thread.log.entries
        log-later number n =
            let c = ran-counted in
            subst (All (λ (entry : Entry). entry.last < number)) (sym is.logged)
            (λ k d l. let h = (thread_log-stands steps (slice_index_or (thread_log steps) k d) (k, l, get_or_default (thread_log steps) k _ d l)).high in omega (arith, h, n, c))

        -- a read finds room in the log
        pub log-room : reads wanted ≡ true → length thread.log.entries < thread.log.limit
        log-room h =
            let b : leb thread.log.limit (length thread.log.entries) ≡ false = sym f ∙ full-is ∙ (obeys p limits list t steps).room (ap reads ran-want ∙ h) in
            leb-false thread.log.limit (length thread.log.entries) b

        -- after the step it runs on
        pub stepped : (found : Option Cell) (last : State) (log : DepLogState) (number : ℕ) → is_some found ≡ reads wanted → number ≡ core.steps + 1 → last ≡ took core found →
            log.words ≡ thread.log.words → log.limit ≡ thread.log.limit → log.entries ≡ with_found number (word_of wanted) found thread.log.entries →
            IsThread p limits list t (steps ++ step_that wanted found ∷ []) (record { core = last; log = log })
        stepped found last log number fits is-number took-is words limit entries = record {
          rules = is.rules;
          bounds = is.bounds;
          there = is.there;
          short = is.short;
          begun = begun-more (threads_with p limits list) t steps step is.begun ran-want lives fits;
          core =
              ap (settled p limits list (is_full limits.entries (steps ++ step ∷ []))) (took-is ∙ ap (λ (s : State). took s found) ran-core) ∙
              sym ((obeys p limits list t steps).more step);
          own = ap (λ (s : State). s.thread) took-is ∙ (took_takes core found).thread ∙ ran-own;
          counted = ap (λ (s : State). s.steps) took-is ∙ (took_takes core found).steps ∙ ap (λ (n : ℕ). n + 1) ran-counted ∙ sym (length_push steps step);
          words = words ∙ is.words;
          limit = limit ∙ is.limit;
          logged =
              entries ∙ ap (λ (n : ℕ). with_found n (word_of wanted) found thread.log.entries) (is-number ∙ ap (λ (n : ℕ). n + 1) ran-counted) ∙
              ap (with_found (length steps + 1) (word_of wanted) found) is.logged ∙ sym (entries-more steps step);
        }
          where
            step : Step
            step = step_that wanted found
