-- What a legal log has, and what makes a log legal.
use Rattle.std.proofs.Common.{◌≡◌, ℕ, List, [], length, refl, sym, ◌∙◌, subst}
use Rattle.std.proofs.lemmas.List.{length-replicate}
use Rattle.light_base.specs.declared.tag.Event.{Event}
use Rattle.replay_model.specs.Steps.{Step}
use Rattle.replay_model.specs.Threads.{HasOnly}
use Rattle.replay_model.specs.Histories.{opening}
use Rattle.replay_model.specs.Logs.{Log}
use Rattle.replay_model.specs.Orders.{Respects}
use Rattle.replay_model.specs.WholeHistories.{IsWholeHistory, played, history_log}
use Rattle.replay_model.proofs.Plays.{play_count}
use Rattle.replay_model.proofs.RunLogs.{logged_threads}
use Rattle.replay_laws.proofs.Shown.{fit_unique}
use Rattle.replay_laws.proofs.HistoryLog.{history_fits}
use Rattle.machine.specs.Programs.{ProgramValue, LimitsValue}
use Rattle.machine.specs.Inputs.{InputsValue}
use Rattle.machine.specs.Laws.{StayWithinWords, HaveOnlyItsThreads, EndWithinSteps, FitOnTaken, taken_in}
use Rattle.machine.specs.Runs.{threads_of, tallies_of}
use Rattle.history.specs.Histories.{IsHistory}
use Rattle.history.specs.HistoryLogs.{log_of_history, FitsProgram}
use Rattle.audit_laws.specs.Placings.{Places, history_placing, placing_turns}
use Rattle.audit_laws.specs.PlacingLaws.{IsHistoryOf}
use Rattle.audit_laws.proofs.Audit.{fits, history_places, history_respects, placing_history}
use Rattle.audit.specs.Judging.{HasThisLog}
use Rattle.audit.specs.LegalLaws.{LegalHasOrder, LegalHasRuns, LegalHasPlacing, PlacingIsLegal}

-- an order that respects the log, runs that fit it, and a placing of them
record HasAll (p : ProgramValue) (log : Log) : Type 0 where
  pub order : List Event
  pub respects : Respects log order
  pub runs : List (List Step)
  pub fit : FitsProgram p log runs
  pub placing : List Event
  pub places : Places log runs placing

module _ (within : StayWithinWords) (only : HaveOnlyItsThreads) (ends : EndWithinSteps) (taken : FitOnTaken) where
  module _ (p : ProgramValue) (limits : LimitsValue) (inputs : InputsValue) (digest history : List ℕ) (whole : IsHistory p limits inputs history) where
    abbrev log : Log
    log = log_of_history p limits inputs digest history

    counted : length log.threads ≡ length p.threads
    counted =
        logged_threads (threads_of p limits inputs) (tallies_of p limits inputs) log (played (threads_of p limits inputs) p.words (length p.threads) history).threads
        (history_fits (threads_of p limits inputs) (tallies_of p limits inputs) digest limits p.words (length p.threads) history (within p limits inputs) (only p limits inputs) whole).logs ∙
        play_count (threads_of p limits inputs) history (opening p.words (length p.threads)) ∙ length-replicate (length p.threads) []

    is : HasOnly (threads_of p limits inputs) (length log.threads) × IsHistoryOf (threads_of p limits inputs) (tallies_of p limits inputs) p.words log history
    is =
        let P : ℕ → Type 0 = λ n. HasOnly (threads_of p limits inputs) n × IsWholeHistory (threads_of p limits inputs) p.words n history ×
        (history_log (threads_of p limits inputs) (tallies_of p limits inputs) digest limits p.words n history ≡ log) in
        let (a, b, c) = subst P (sym counted) (only p limits inputs, whole, refl) in
        (a, record { whole = b; logged = c })

    -- the log of a history has all three
    history_has : HasAll p log
    history_has =
        let here = history_respects (threads_of p limits inputs) (tallies_of p limits inputs) p.words log history (within p limits inputs) is.0 is.1 in
        let runs : List (List Step) = (played (threads_of p limits inputs) p.words (length log.threads) history).threads in
        record {
          order = here.0;
          respects = here.1;
          runs = runs;
          fit = taken p limits inputs p.words log runs (fits (threads_of p limits inputs) (tallies_of p limits inputs) p.words log history (within p limits inputs) is.0 is.1);
          placing = history_placing (threads_of p limits inputs) p.words log history;
          places = history_places (threads_of p limits inputs) (tallies_of p limits inputs) p.words log history (within p limits inputs) is.0 is.1;
        }

  -- so a legal log has them
  legal_has : (p : ProgramValue) (limits : LimitsValue) (inputs : InputsValue) (log : Log) (history : List ℕ) → HasThisLog p limits inputs log history → HasAll p log
  legal_has p limits inputs log history has = subst (HasAll p) has.logged (history_has p limits inputs log.digest history has.whole)

  pub order_law : LegalHasOrder
  order_law p log none limits inputs history has = let all = legal_has p limits inputs log history has in none all.order all.respects

  pub runs_law : LegalHasRuns
  runs_law p log none limits inputs history has = let all = legal_has p limits inputs log history has in none all.runs all.fit

  pub placing_law : LegalHasPlacing
  placing_law p log runs order respects fit none limits inputs history has =
      let all = legal_has p limits inputs log history has in
      let same = fit_unique (threads_of p log.limits (taken_in log)) (tallies_of p log.limits (taken_in log)) p.words log all.runs runs order
      (within p log.limits (taken_in log)) (ends p log.limits (taken_in log)) respects all.fit fit in
      none all.placing (subst (λ (x : List (List Step)). Places log x all.placing) same all.places)

  pub history_law : PlacingIsLegal
  history_law p log runs placing counted fit places =
      let (is, ran) = placing_history (threads_of p log.limits (taken_in log)) (tallies_of p log.limits (taken_in log)) p.words log runs placing (within p log.limits (taken_in log)) fit places in
      let P : ℕ → Type 0 = λ n. IsWholeHistory (threads_of p log.limits (taken_in log)) p.words n (placing_turns (length log.threads) placing) ×
      (history_log (threads_of p log.limits (taken_in log)) (tallies_of p log.limits (taken_in log)) log.digest log.limits p.words n (placing_turns (length log.threads) placing) ≡ log) in
      let (whole, logged) = subst P (sym counted) (is.whole, is.logged) in
      record { whole = whole; logged = logged }
