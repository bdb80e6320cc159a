-- The logs of runs, thread by thread.
use Rattle.std.proofs.Common.{◌≡◌, ℕ, zero, suc, ◌+◌, ◌<◌, ◌≤◌, List, [], ◌∷◌, length, refl, sym, ◌∙◌, ap, subst, arith, inl, inr, ◌⊎◌}
use Rattle.std.specs.Prelude.{Contains, slice_index_or}
use Rattle.std.proofs.lemmas.List.{get_or_past}
use Rattle.std.proofs.lemmas.Bool.{cases_lt}
use Rattle.replay_model.specs.Steps.{Step}
use Rattle.replay_model.specs.declared.Entry.{Entry}
use Rattle.replay_model.specs.Threads.{Threads}
use Rattle.replay_model.specs.Histories.{steps_of}
use Rattle.replay_model.specs.ThreadLogs.{thread_log}
use Rattle.replay_model.specs.Logs.{ThreadLog, Log, no_thread, thread_of, HasEntry}
use Rattle.replay_model.specs.RunLogs.{Tallies, run_log, run_logs_from, run_logs}

-- one log for each run
pub run_logs_from-length : (threads : Threads) (tallies : Tallies) (m : ℕ) (runs : List (List Step)) → length (run_logs_from threads tallies m runs) ≡ length runs
run_logs_from-length threads tallies m [] = refl
run_logs_from-length threads tallies m (run ∷ runs) = ap suc (run_logs_from-length threads tallies (m + 1) runs)

-- each thread's log at its place
pub run_logs_from-at : (threads : Threads) (tallies : Tallies) (m : ℕ) (runs : List (List Step)) (t : ℕ) (d : ThreadLog) → t < length runs →
    slice_index_or (run_logs_from threads tallies m runs) t d ≡ run_log threads tallies (m + t) (steps_of runs t)
run_logs_from-at threads tallies m [] t d l = absurd (omega (arith, l))
run_logs_from-at threads tallies m (run ∷ runs) zero d l = let z : m ≡ m + 0 = omega arith in ap (λ n. run_log threads tallies n run) z
run_logs_from-at threads tallies m (run ∷ runs) (suc t) d l =
    let z : (m + 1) + t ≡ m + suc t = omega arith in
    run_logs_from-at threads tallies (m + 1) runs t d (omega arith) ∙ ap (λ n. run_log threads tallies n (steps_of runs t)) z

-- the log of thread t among those of all threads
pub run_logs-at : (threads : Threads) (tallies : Tallies) (runs : List (List Step)) (t : ℕ) (d : ThreadLog) → t < length runs →
    slice_index_or (run_logs threads tallies runs) t d ≡ run_log threads tallies t (steps_of runs t)
run_logs-at threads tallies runs t d l =
    let z : 0 + t ≡ t = omega arith in
    run_logs_from-at threads tallies 0 runs t d l ∙ ap (λ n. run_log threads tallies n (steps_of runs t)) z

module _ (threads : Threads) (tallies : Tallies) (log : Log) (runs : List (List Step)) (logs : log.threads ≡ run_logs threads tallies runs) where
  -- the log has as many threads as runs
  pub logged_threads : length log.threads ≡ length runs
  logged_threads = ap length logs ∙ run_logs_from-length threads tallies 0 runs

  -- what is logged of a thread is the log of its run
  pub logged_thread : (t : ℕ) → t < length runs → thread_of log t ≡ run_log threads tallies t (steps_of runs t)
  logged_thread t l = ap (λ (x : List ThreadLog). slice_index_or x t no_thread) logs ∙ run_logs-at threads tallies runs t no_thread l

  -- the entries of a thread are those of its run
  pub entry-logged : (t : ℕ) (entry : Entry) → HasEntry log t entry → (t < length runs) × Contains (thread_log (steps_of runs t)) entry
  entry-logged t entry (k, kl, h) = go (cases_lt t (length runs))
    where
      go : (t < length runs) ⊎ (length runs ≤ t) → (t < length runs) × Contains (thread_log (steps_of runs t)) entry
      go (inl l) = (l, subst (λ (x : ThreadLog). Contains x.entries entry) (logged_thread t l) (k, kl, h))
      go (inr p) =
          let n = logged_threads in
          let e = ap (λ (x : ThreadLog). length x.entries) (get_or_past log.threads t no_thread (omega arith)) in absurd (omega (arith, kl, e))

  -- and the other way round
  pub logged-entry : (t : ℕ) (entry : Entry) → t < length runs → Contains (thread_log (steps_of runs t)) entry → HasEntry log t entry
  logged-entry t entry l c = subst (λ (x : ThreadLog). Contains x.entries entry) (sym (logged_thread t l)) c
