-- Histories and placings of one log.
use Rattle.std.proofs.Common.{◌≡◌, ℕ, ◌<◌, ◌≤◌, true, List, [], length, refl, sym, ◌∙◌, ap, subst, arith, inl, inr, ◌⊎◌, replicate}
use Rattle.std.specs.Prelude.{◌↔◌, slice_index_or, filter}
use Rattle.std.proofs.lemmas.List.{length-replicate, get_or-replicate, get_or_past}
use Rattle.std.proofs.lemmas.Bool.{cases_lt}
use Rattle.replay_model.specs.Steps.{Event, Step, has_ended}
use Rattle.replay_model.specs.Threads.{Threads, StaysWithin, HasOnly, EndsWithin}
use Rattle.replay_model.specs.Histories.{World, steps_of, opening, keep_all, IsWhole}
use Rattle.replay_model.specs.Logs.{Log}
use Rattle.replay_model.specs.RunLogs.{Tallies, HasLog, run_logs}
use Rattle.replay_model.specs.Events.{is_event, events_of}
use Rattle.replay_model.specs.Orders.{Respects}
use Rattle.replay_model.specs.Fitting.{Fits}
use Rattle.replay_model.specs.SkipPlay.{skip_play}
use Rattle.replay_model.specs.WholeHistories.{IsWholeHistory, played, history_log}
use Rattle.replay_model.proofs.Moves.{opening_steps}
use Rattle.replay_model.proofs.RunLogs.{logged_threads}
use Rattle.replay_laws.proofs.Told.{told_by_fit}
use Rattle.replay_laws.proofs.Shown.{opening_inv, all_shown, fit_unique}
use Rattle.replay_laws.proofs.Verdict.{skipped_fit, verdict_exact}
use Rattle.replay_laws.proofs.HistoryLog.{history_fits}
use Rattle.replay_laws.proofs.Linear.{IsLinear, history_linear}
use Rattle.replay_laws.proofs.LinearOrder.{linear_respects}
use Rattle.audit_laws.specs.Placings.{Places, history_placing, placing_turns}
use Rattle.audit_laws.specs.PlacingLaws.{IsHistoryOf, IsLegalLog}
use Rattle.audit_laws.proofs.Placed.{linear_places}
use Rattle.audit_laws.proofs.Turning.{places_serve, turned, all_taken}

module _ (threads : Threads) (tallies : Tallies) (initial : List ℕ) (log : Log) (history : List ℕ)
    (within : StaysWithin threads (length initial)) (only : HasOnly threads (length log.threads)) (is : IsHistoryOf threads tallies initial log history) where
  abbrev runs : List (List Step)
  runs = (played threads initial (length log.threads) history).threads

  abbrev all : List Event
  all = events_of threads history (opening initial (length log.threads))

  -- the runs of a history fit its log
  pub fits : Fits threads tallies initial log runs
  fits = subst (λ (x : Log). Fits threads tallies initial x runs) is.logged
      (history_fits threads tallies log.digest log.limits initial (length log.threads) history within only is.whole)

  linear : IsLinear (length initial) runs all log.last_tags
  linear = subst (IsLinear (length initial) runs all) (ap (λ (x : Log). x.last_tags) is.logged)
      (history_linear threads initial (length log.threads) history within only is.whole.legal)

  -- its events and writes are a placing
  pub history_places : Places log runs (history_placing threads initial log history)
  history_places = linear_places threads tallies initial log runs all within fits linear

  -- its events alone respect the log
  pub history_respects : (order : List Event) × Respects log order
  history_respects = (filter (is_event log) all, linear_respects threads tallies initial log runs all fits linear)

  -- so its runs are those that fit the log
  pub history_runs : (others : List (List Step)) → EndsWithin threads log.limits.steps → Fits threads tallies initial log others → runs ≡ others
  history_runs others stops other = fit_unique threads tallies initial log runs others history_respects.0 within stops history_respects.1 fits other

-- no thread has taken a step
none_taken : (count t : ℕ) → slice_index_or (replicate count 0) t 0 ≡ length (steps_of (replicate count []) t)
none_taken count t = go (cases_lt t count) ∙ sym (ap length (opening_steps count t))
  where
    go : (t < count) ⊎ (count ≤ t) → slice_index_or {A = ℕ} (replicate count 0) t 0 ≡ 0
    go (inl l) = get_or-replicate count t 0 0 l
    go (inr l) = get_or_past (replicate count 0) t 0 (let q = length-replicate {A = ℕ} count 0 in omega arith)

-- the turns of a placing are a history of the log
pub placing_history : (threads : Threads) (tallies : Tallies) (initial : List ℕ) (log : Log) (runs : List (List Step)) (order : List Event) →
    StaysWithin threads (length initial) → Fits threads tallies initial log runs → Places log runs order →
    IsHistoryOf threads tallies initial log (placing_turns (length log.threads) order) ×
    ((played threads initial (length log.threads) (placing_turns (length log.threads) order)).threads ≡ runs)
placing_history threads tallies initial log runs order within fits places =
    let told = told_by_fit threads tallies initial log runs fits in
    let serves = places_serve threads tallies initial log runs order fits places in
    let (legal, inv) = turned threads initial log runs order told serves fits.run within order 0 (opening initial (length runs)) (replicate (length runs) 0) refl (omega arith)
    (opening_inv initial keep_all log runs order serves) (length-replicate (length runs) 0) (none_taken (length runs)) in
    let shows = all_shown initial keep_all log runs order serves (played threads initial (length runs) (placing_turns (length runs) order)) fits.words inv
    (all_taken threads initial log runs order told serves fits.run within (played threads initial (length runs) (placing_turns (length runs) order)) inv) in
    let end : World = played threads initial (length runs) (placing_turns (length runs) order) in
    let whole : IsWhole threads end = λ t l.
    subst (λ (x : List (List Step)). t < length x → has_ended (threads t (steps_of x t)) ≡ true) (sym shows.threads) (λ k. (fits.run t k).ends) l in
    let logs : run_logs threads tallies end.threads ≡ log.threads = ap (run_logs threads tallies) shows.threads ∙ sym fits.logs in
    let P : ℕ → Type 0 = λ count. IsWholeHistory threads initial count (placing_turns count order) ×
    (history_log threads tallies log.digest log.limits initial count (placing_turns count order) ≡ log) ×
    ((played threads initial count (placing_turns count order)).threads ≡ runs) in
    let (a, b, c) = subst P (sym (logged_threads threads tallies log runs fits.logs)) (
      record { legal = legal; whole = whole },
      λ j. record { digest = log.digest; limits = log.limits; threads = logs j; last_tags = shows.tags j },
      shows.threads,
    ) in
    (record { whole = a; logged = b }, c)

-- a history of the log, or a placing
pub legal_placing : (threads : Threads) (tallies : Tallies) (initial : List ℕ) (log : Log) (runs : List (List Step)) →
    StaysWithin threads (length initial) → HasOnly threads (length log.threads) → EndsWithin threads log.limits.steps → Fits threads tallies initial log runs →
    IsLegalLog threads tallies initial log ↔ ((order : List Event) × Places log runs order)
legal_placing threads tallies initial log runs within only stops fits = (
  λ legal. (
    history_placing threads initial log legal.0,
    subst (λ (x : List (List Step)). Places log x (history_placing threads initial log legal.0))
        (history_runs threads tallies initial log legal.0 within only legal.1 runs stops fits)
        (history_places threads tallies initial log legal.0 within only legal.1),
  ),
  λ some. (placing_turns (length log.threads) some.0, (placing_history threads tallies initial log runs some.0 within fits some.1).0),
)

-- some order respects the log of a history
pub legal_respected : (threads : Threads) (tallies : Tallies) (initial : List ℕ) (log : Log) →
    StaysWithin threads (length initial) → HasOnly threads (length log.threads) → IsLegalLog threads tallies initial log → (order : List Event) × Respects log order
legal_respected threads tallies initial log within only legal = history_respects threads tallies initial log legal.0 within only legal.1

-- a history of the log, as a replay by an order that respects it can tell
pub legal_judged : (threads : Threads) (tallies : Tallies) (initial : List ℕ) (log : Log) (order : List Event) →
    StaysWithin threads (length initial) → HasOnly threads (length log.threads) → EndsWithin threads log.limits.steps → Respects log order →
    IsLegalLog threads tallies initial log ↔
    (HasLog threads tallies log (skip_play threads initial log order) × ((placing : List Event) × Places log (skip_play threads initial log order).threads placing))
legal_judged threads tallies initial log order within only stops respects = (
  λ legal.
      let has = exact.1 ((played threads initial (length log.threads) legal.0).threads, fits threads tallies initial log legal.0 within only legal.1) in
      (has, (placed has).0 legal),
  λ both. (placed both.0).1 both.1,
)
  where
    exact : HasLog threads tallies log (skip_play threads initial log order) ↔ ((runs : List (List Step)) × Fits threads tallies initial log runs)
    exact = verdict_exact threads tallies initial log order within only stops respects

    placed : HasLog threads tallies log (skip_play threads initial log order) →
        IsLegalLog threads tallies initial log ↔ ((placing : List Event) × Places log (skip_play threads initial log order).threads placing)
    placed has = legal_placing threads tallies initial log (skip_play threads initial log order).threads within only stops
        (skipped_fit threads tallies initial log order within only stops has)
