-- Cuts of logs that runs fit, and the cut play.
use Rattle.std.proofs.Common.{◌≡◌, ℕ, ◌-◌, ◌<◌, ◌≤◌, List, [], length, take, map, refl, sym, ◌∙◌, ap, subst, arith, inl, inr, ◌⊎◌}
use Rattle.std.specs.Prelude.{Contains, Some, slice_index_or}
use Rattle.std.specs.List.{AllZip}
use Rattle.std.proofs.Math.ListN.{get_or-map}
use Rattle.std.proofs.lemmas.List.{append-nil, length-map, length-replicate, length-take-le, take_all, get_or_past}
use Rattle.std.proofs.lemmas.Bool.{cases_lt}
use Rattle.std.proofs.lemmas.Grind.{same_number_lists}
use Rattle.replay_model.specs.declared.Entry.{Entry}
use Rattle.replay_model.specs.Steps.{Event, Cell, Step}
use Rattle.replay_model.specs.Threads.{Threads, StaysWithin, EndsWithin, no_step}
use Rattle.replay_model.specs.Histories.{World, steps_of, opening}
use Rattle.replay_model.specs.ThreadLogs.{thread_log}
use Rattle.replay_model.specs.Logs.{ThreadLog, Log, no_thread, thread_of}
use Rattle.replay_model.specs.RunLogs.{Tallies}
use Rattle.replay_model.specs.WellFormed.{IsTagOf, IsWellFormed}
use Rattle.replay_model.specs.Events.{keeps}
use Rattle.replay_model.specs.Orders.{Respects}
use Rattle.replay_model.specs.Fitting.{Fits}
use Rattle.replay_model.specs.SkipPlay.{turns, finish, skip_play}
use Rattle.replay_model.specs.WholeHistories.{played, history_log}
use Rattle.replay_model.proofs.Moves.{in_range, opening_steps}
use Rattle.replay_model.proofs.Plays.{play_count}
use Rattle.replay_model.proofs.RunLogs.{logged_threads, logged_thread}
use Rattle.replay_laws.proofs.Places.{entry_thread}
use Rattle.replay_laws.proofs.Advance.{event_inside}
use Rattle.replay_laws.proofs.Told.{told_by_fit, run_short}
use Rattle.replay_laws.proofs.Shown.{fit_shown}
use Rattle.replay_laws.proofs.HistoryLog.{history_fits}
use Rattle.cut_laws.specs.Cuts.{number_of, IsWithin, IsClosed, IsCut, logged_steps, cut_off, cut_play, ShowsCut, begun, IsSeenOf, IsOnTrack}
use Rattle.cut_laws.specs.PlayLaws.{HistoriesStopAtTheirSteps}
use Rattle.cut_laws.proofs.Following.{IsFollowed, IsOnTheWay, turns_both, turns_count, earlier_finish, finish_both}
use Rattle.cut_laws.proofs.Seen.{seen_by}
use Rattle.cut_laws.proofs.Fronts.{own_step}

-- how many steps the log says that a thread took
logged_at : (log : Log) (t : ℕ) → number_of (logged_steps log) t ≡ (thread_of log t).steps
logged_at log t = get_or-map (λ (thread : ThreadLog). thread.steps) log.threads t no_thread

-- in a well-formed log these are closed
pub logged_closed : (log : Log) (thread step : ℕ) → IsWellFormed log → step ≤ (thread_of log thread).steps → IsClosed log thread step (logged_steps log)
logged_closed log thread step well l = record {
  counted = length-map log.threads (λ (thread : ThreadLog). thread.steps);
  reaches = let e = logged_at log thread in omega (arith, l, e);
  sources = λ t entry source h w q.
      let each = (well.threads t (entry_thread log t entry h)).each entry h in
      let taken = subst (IsTagOf log) q each.source in
      let m = taken.last in
      let e = logged_at log source.thread in omega (arith, m, e);
}

-- so no cut goes beyond them
pub cut_stays : (log : Log) (thread step : ℕ) (cut : List ℕ) → IsWellFormed log → step ≤ (thread_of log thread).steps → IsCut log thread step cut →
    (t : ℕ) → number_of cut t ≤ (thread_of log t).steps
cut_stays log thread step cut well l is t =
    let m = is.least (logged_steps log) (logged_closed log thread step well l) t in
    let e = logged_at log t in omega (arith, m, e)

-- a step has one cut
pub cut_unique : (log : Log) (thread step : ℕ) (one two : List ℕ) → IsCut log thread step one → IsCut log thread step two → one ≡ two
cut_unique log thread step one two a b = same_number_lists one two (a.closed.counted ∙ sym b.closed.counted) (λ k l.
    let x = a.least two b.closed k in
    let y = b.least one a.closed k in omega (arith, x, y))

-- no thread goes further than its step where some order respects a well-formed log
pub cut_own : (log : Log) (order : List Event) (thread step : ℕ) (cut : List ℕ) → IsWellFormed log → Respects log order →
    thread < length log.threads → IsCut log thread step cut → number_of cut thread ≡ step
cut_own log order thread step cut well respects inside is =
    own_step log order thread step cut (λ t entry h. ((well.threads t (entry_thread log t entry h)).each entry h).low) respects inside is

module _ (threads : Threads) (tallies : Tallies) (initial : List ℕ) (log : Log) (runs : List (List Step)) (fits : Fits threads tallies initial log runs) where
  -- the log says how many steps a run has
  steps_logged : (t : ℕ) → (thread_of log t).steps ≡ length (steps_of runs t)
  steps_logged t = go (cases_lt t (length runs))
    where
      go : (t < length runs) ⊎ (length runs ≤ t) → (thread_of log t).steps ≡ length (steps_of runs t)
      go (inl l) = ap (λ (x : ThreadLog). x.steps) (logged_thread threads tallies log runs fits.logs t l)
      go (inr p) =
          let n = logged_threads threads tallies log runs fits.logs in
          ap (λ (x : ThreadLog). x.steps) (get_or_past log.threads t no_thread (omega (arith, n, p))) ∙ sym (ap length (get_or_past runs t [] p))

  -- so these are closed
  runs_closed : (thread step : ℕ) → step ≤ (thread_of log thread).steps → IsClosed log thread step (logged_steps log)
  runs_closed thread step l = record {
    counted = length-map log.threads (λ (thread : ThreadLog). thread.steps);
    reaches = let e = logged_at log thread in omega (arith, l, e);
    sources = λ t entry source h w q.
        let (v, hw) = (told_by_fit threads tallies initial log runs fits).sources t entry source h q in
        let m = hw.high in
        let e = logged_at log source.thread in
        let s = steps_logged source.thread in omega (arith, m, e, s);
  }

  -- no cut goes beyond the runs
  cut_short : (thread step : ℕ) (cut : List ℕ) → step ≤ (thread_of log thread).steps → IsCut log thread step cut → (t : ℕ) → number_of cut t ≤ length (steps_of runs t)
  cut_short thread step cut l is t =
      let m = is.least (logged_steps log) (runs_closed thread step l) t in
      let e = logged_at log t in
      let s = steps_logged t in omega (arith, m, e, s)

  -- what a step within a closed list found was written within it
  pub reads_within : (thread step : ℕ) (cut : List ℕ) → IsClosed log thread step cut →
      (t k : ℕ) (cell : Cell) (event : Event) → k < length (steps_of runs t) → k < number_of cut t →
      (slice_index_or (steps_of runs t) k no_step).found ≡ Some cell → cell.tag ≡ Some event → IsWithin cut event
  reads_within thread step cut closed t k cell event l m q tag =
      let (entry, c, ew, es, lo, hi) = (told_by_fit threads tallies initial log runs fits).covered t k cell l q in
      closed.sources t entry event c (omega (arith, lo, m)) (es ∙ tag)

  module _ (order : List Event) (thread step : ℕ) (cut : List ℕ)
      (within : StaysWithin threads (length initial)) (stops : EndsWithin threads log.limits.steps) (respects : Respects log order)
      (inside : step ≤ (thread_of log thread).steps) (is : IsCut log thread step cut) where
    start : World
    start = opening initial (length log.threads)

    -- the cut play follows the skip play
    followed : IsFollowed initial cut (skip_play threads initial log order) (cut_play threads initial log order cut)
    unfolding start
    followed =
        let counted : length (opening initial (length log.threads)).threads ≡ length log.threads = length-replicate (length log.threads) [] in
        let shown = fit_shown threads tallies initial log runs order within stops fits respects in
        let way : IsOnTheWay runs (skip_play threads initial log order) = λ t. ([], ap (λ (x : List (List Step)). steps_of x t) (sym shown.threads) ∙ sym (append-nil _)) in
        let P : ℕ → Type 0 = λ n. IsOnTheWay runs (finish threads (keeps log) log.limits.steps n (turns threads (keeps log) order (opening initial (length log.threads)))) in
        let way2 = subst P counted way in
        let sees = reads_within thread step cut is.closed in
        let range : (e : Event) → Contains order e → e.thread < length (opening initial (length log.threads)).threads = λ e c.
        let (lo, hi) = event_inside initial log runs (told_by_fit threads tallies initial log runs fits) e (respects.only e c) in
        let r = in_range runs e.thread (e.step - 1) (omega (arith, lo, hi)) in
        let n = logged_threads threads tallies log runs fits.logs in omega (arith, r, n, counted) in
        let c = turns_count threads (keeps log) initial cut within runs sees order (opening initial (length log.threads)) in
        let way1 = earlier_finish threads (keeps log) initial cut within runs sees log.limits.steps (length log.threads) (turns threads (keeps log) order (opening initial (length log.threads))) (omega (arith, c, counted)) way2 in
        let both = turns_both threads (keeps log) initial cut within runs sees order (opening initial (length log.threads)) (opening initial (length log.threads)) range open_both way1 in
        let long : (t : ℕ) → number_of cut t ≤ log.limits.steps = λ t.
        let a = cut_short thread step cut inside is t in
        let b = run_short threads runs log.limits.steps stops fits.run t in omega (arith, a, b) in
        let end = finish_both threads (keeps log) initial cut within runs sees log.limits.steps long (length log.threads) (turns threads (keeps log) order (opening initial (length log.threads)))
        (turns threads (keeps log) (map (cut_off cut) order) (opening initial (length log.threads))) (omega (arith, c, counted)) both way2 in
        let Q : ℕ → Type 0 = λ n. IsFollowed initial cut (finish threads (keeps log) log.limits.steps n (turns threads (keeps log) order (opening initial (length log.threads)))) (cut_play threads initial log order cut) in
        subst Q (sym counted) end
      where
        open_both : IsFollowed initial cut (opening initial (length log.threads)) (opening initial (length log.threads))
        open_both = record {
          counted = refl;
          sized = length-map initial _;
          sized_too = length-map initial _;
          steps = λ t.
              let e = opening_steps (length log.threads) t in
              e ∙ sym (take_all (number_of cut t) [] (omega arith)) ∙ ap (take (number_of cut t)) (sym e);
          memory = λ word. inl refl;
        }

    -- so it shows the runs up to the cut
    pub cut_shown : ShowsCut runs cut (cut_play threads initial log order cut)
    cut_shown = record { counted = f.counted ∙ ap length same; steps = steps; taken = λ t. ap length (steps t) ∙ length-take-le (number_of cut t) (steps_of runs t) (cut_short thread step cut inside is t) }
      where
        f : IsFollowed initial cut (skip_play threads initial log order) (cut_play threads initial log order cut)
        f = followed

        same : (skip_play threads initial log order).threads ≡ runs
        same = (fit_shown threads tallies initial log runs order within stops fits respects).threads

        steps : (t : ℕ) → steps_of (cut_play threads initial log order cut).threads t ≡ take (number_of cut t) (steps_of runs t)
        steps t = f.steps t ∙ ap (λ (x : List (List Step)). take (number_of cut t) (steps_of x t)) same

    -- and does not stray
    pub cut_on_track : IsOnTrack log cut (cut_play threads initial log order cut)
    cut_on_track = record { taken = λ t l. (let e = cut_shown.taken t in omega (arith, e)); entries = λ t l. entries t l }
      where
        entries : (t : ℕ) → t < length log.threads →
            AllZip (IsSeenOf (number_of cut t)) (begun (number_of cut t) (thread_of log t).entries) (thread_log (steps_of (cut_play threads initial log order cut).threads t))
        entries t l =
            let n = logged_threads threads tallies log runs fits.logs in
            let k : ℕ = number_of cut t in
            let e : thread_log (steps_of runs t) ≡ (thread_of log t).entries = sym (ap (λ (x : ThreadLog). x.entries) (logged_thread threads tallies log runs fits.logs t (omega (arith, l, n)))) in
            let P : List Entry → Type 0 = λ x. AllZip (IsSeenOf (number_of cut t)) (begun (number_of cut t) x) (thread_log (steps_of (cut_play threads initial log order cut).threads t)) in
            let Q : List Step → Type 0 = λ x. AllZip (IsSeenOf (number_of cut t)) (begun (number_of cut t) (thread_log (steps_of runs t))) (thread_log x) in
            subst P e (subst Q (sym (cut_shown.steps t)) (seen_by (number_of cut t) (steps_of runs t) (cut_short thread step cut inside is t)))

    -- the thread asked for stands right after its step
    pub cut_comes : thread < length log.threads → steps_of (cut_play threads initial log order cut).threads thread ≡ take step (steps_of runs thread)
    cut_comes l =
        cut_shown.steps thread ∙ ap (λ (k : ℕ). take k (steps_of runs thread))
        (own_step log order thread step cut (λ t entry h. ((told_by_fit threads tallies initial log runs fits).inside t entry h).0) respects l is)

-- the log of a whole history stops at each of its steps
pub history_stops : HistoriesStopAtTheirSteps
history_stops threads tallies digest limits initial count history order thread step cut within only stops whole respects l inside is =
    let log : Log = history_log threads tallies digest limits initial count history in
    let fits : Fits threads tallies initial log (played threads initial count history).threads = history_fits threads tallies digest limits initial count history within only whole in
    let n : length log.threads ≡ length (played threads initial count history).threads = logged_threads threads tallies log (played threads initial count history).threads fits.logs in
    let m : length (played threads initial count history).threads ≡ count = play_count threads history (opening initial count) ∙ length-replicate count [] in
    let e = steps_logged threads tallies initial log (played threads initial count history).threads fits thread in
    let has : step ≤ (thread_of log thread).steps = omega (arith, e, inside) in
    record {
      on_track = cut_on_track threads tallies initial log (played threads initial count history).threads fits order thread step cut within stops respects has is;
      comes = cut_comes threads tallies initial log (played threads initial count history).threads fits order thread step cut within stops respects has is (omega (arith, l, m, n));
    }
