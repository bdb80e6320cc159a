-- What the threads at the end of a cut play tell of this play.
use Rattle.std.proofs.Common.{◌≡◌, ℕ, zero, suc, ◌<◌, ◌≤◌, List, [], ◌∷◌, length, take, replicate, refl, sym, ◌∙◌, ap, subst, arith, inl, inr, ◌⊎◌}
use Rattle.std.specs.Prelude.{Option, Some, None, slice_get, slice_index_or}
use Rattle.std.specs.List.{AllZip}
use Rattle.replay_model.specs.declared.Entry.{Entry}
use Rattle.replay_model.specs.Steps.{Event, Step}
use Rattle.replay_model.specs.Histories.{World, steps_of}
use Rattle.replay_model.specs.ThreadLogs.{thread_log}
use Rattle.replay_model.specs.Logs.{Log, thread_of}
use Rattle.replay_model.specs.Orders.{Respects}
use Rattle.replay_model.specs.Fitting.{Fits}
use Rattle.machine.specs.Programs.{ProgramValue}
use Rattle.machine.specs.Cores.{State}
use Rattle.machine.specs.Laws.{taken_in}
use Rattle.machine.specs.Runs.{threads_of, tallies_of}
use Rattle.machine.proofs.Runs.{stays_within, ends_within}
use Rattle.running_thread.specs.declared.thread.RunningThread.{RunningThread}
use Rattle.replayer.specs.declared.words.ReplayWords.{ReplayWords}
use Rattle.replayer.specs.Seats.{IsSeat, IsShown}
use Rattle.cut_laws.specs.Cuts.{number_of, IsCut, IsSeenOf, IsOnTrack}
use Rattle.cut_laws.proofs.Cuts.{cut_on_track}
use Rattle.stopper.specs.declared.stop.Stopped.{Stopped}
use Rattle.stopper.specs.declared.stop.Stopped.TheVariants.{At, Strays}
use Rattle.stopper.specs.declared.stray.Stray.{Stray}
use Rattle.stopper.specs.declared.stray.Stray.TheVariants as stray
use Rattle.stopper.specs.Snaps.{SnapValue}
use Rattle.stopper.specs.Stops.{stopped_after}
use Rattle.stopper.specs.Strays.{AreSeenAt, AreUnlike, AllFrom, IsThreadOnTrack, IsStrayOf, logged_in, steps_in, IsOnTrackAt, IsFirstStray, IsSeatOnTrack, IsStrayOfSeat, SeatsCompared}
use Rattle.stopper.specs.Plays.{StandsBy, HaveCome}
use Rattle.stopper.specs.Stopping.{TellsUnlike, cut_by, stopped_in, shown_of, IsStopped, IsStopAt, IsOfRuns, IsAsItRan, HavePlayed, IsShownOf, IsAnswer}
use Rattle.stopper.proofs.Stops.{stops_ran}

-- where two lists agree they agree at each place
from-all : (number : ℕ) (logged seen : List Entry) → AllFrom number logged seen → (k : ℕ) → AreSeenAt number (slice_get logged k) (slice_get seen k)
from-all number [] [] h k = tt
from-all number [] (y ∷ ys) h k = absurd h
from-all number (x ∷ xs) [] h k = absurd h
from-all number (x ∷ xs) (y ∷ ys) h zero = h.0
from-all number (x ∷ xs) (y ∷ ys) h (suc k) = from-all number xs ys h.1 k

-- a thread that strays is not on track
not-both : (t number : ℕ) (logged seen : List Entry) (taken : ℕ) (s : Stray) → IsStrayOf t number logged seen taken s → IsThreadOnTrack number logged seen taken → ⊥
not-both t number logged seen taken (stray.Ended thread wanted got) (a, b, g, same, less) on = let c = on.comes in absurd (omega (arith, less, c))
not-both t number logged seen taken (stray.Entry thread place there here) (a, h, g, before, other) on =
    other (subst (λ o. AreSeenAt number o here) (sym h) (subst (λ o. AreSeenAt number (slice_get logged place) o) (sym g) (from-all number logged seen on.entries place)))

no-steps : (steps : List Step) → length steps ≡ 0 → steps ≡ []
no-steps [] h = refl
no-steps (s ∷ steps) h = absurd (omega (arith, h))

-- the same is logged and seen where both are the same
seen-itself : (number : ℕ) (o : Option Entry) → AreSeenAt number o o
seen-itself number None = tt
seen-itself number (Some entry) = record { word = refl; source = refl; first = refl; last = inl refl }

-- what a stray tells are two values that differ
unlike : (t number : ℕ) (logged seen : List Entry) (taken : ℕ) (s : Stray) → IsStrayOf t number logged seen taken s → AreUnlike s
unlike t number logged seen taken (stray.Ended thread wanted got) (a, b, g, same, less) = omega (arith, b, g, less)
unlike t number logged seen taken (stray.Entry thread place there here) (a, h, g, before, other) =
    λ same. other (subst (λ (o : Option Entry). AreSeenAt number there o) same (seen-itself number there))

module _ (p : ProgramValue) (log : Log) (cut : List ℕ) (world : World) (words : ReplayWords) (seats : List RunningThread) (come : HaveCome p log cut world words seats)
    (counted : length p.threads ≡ length log.threads) where
  in-seats : (t : ℕ) → t < length log.threads → t < length seats
  in-seats t l = let n = come.shown.seated in omega (arith, n, counted, l)

  module _ (t : ℕ) (l : t < length seats) (d : RunningThread) where
    abbrev pub seat : RunningThread
    seat = slice_index_or seats t d

    seated : IsSeat p log t (steps_of world.threads t) seat
    seated = come.shown.each t d l

    -- what is told of its log and its steps is told of the world
    as-seen : (P : List Entry → ℕ → Type 0) → P seat.log.entries seat.core.steps → P (thread_log (steps_of world.threads t)) (steps_in world t)
    as-seen P h = subst (P (thread_log (steps_of world.threads t))) seated.counted (subst (λ (es : List Entry). P es seat.core.steps) seated.logged h)

    track-at : IsSeatOnTrack log cut t seat → IsOnTrackAt log cut world t
    track-at = as-seen (λ es n. IsThreadOnTrack (number_of cut t) (logged_in log cut t) es n)

    stray-at : (s : Stray) → IsStrayOfSeat log cut t seat s → IsStrayOf t (number_of cut t) (logged_in log cut t) (thread_log (steps_of world.threads t)) (steps_in world t) s
    stray-at s = as-seen (λ es n. IsStrayOf t (number_of cut t) (logged_in log cut t) es n s)

    -- on track it stands right after its steps
    shown-there : (snap : SnapValue) → IsOnTrackAt log cut world t → IsShownOf seat cut snap → snap ≡ shown_of (stopped_in p log world t) cut
    shown-there snap on is = by (come.stand t d l) (cases_zero seat.core.steps)
      where
        cases_zero : (n : ℕ) → (n ≡ 0) ⊎ (0 < n)
        cases_zero zero = inl refl
        cases_zero (suc n) = inr (omega arith)

        none : length (steps_of world.threads t) ≡ 0 → snap ≡ shown_of (stopped_in p log world t) cut
        none z =
            let c = seated.counted in
            is.first (omega (arith, c, z)) ∙ ap (λ (steps : List Step). shown_of (stopped_after p log.limits (taken_in log) t steps) cut) (sym (no-steps (steps_of world.threads t) z))

        by : StandsBy p log (number_of cut t) world t seat → (seat.core.steps ≡ 0) ⊎ (0 < seat.core.steps) → snap ≡ shown_of (stopped_in p log world t) cut
        by (inl there) (inl z) = none (let c = seated.counted in omega (arith, c, z))
        by (inl there) (inr some) = is.later some ∙ ap (λ (s : State). shown_of s cut) there
        by (inr (inl z)) k = none z
        by (inr (inr (less, over))) k = absurd (let c = on.comes in omega (arith, less, c))

  -- all are on track
  track-all : (d : RunningThread) → SeatsCompared log cut seats None → IsOnTrack log cut world
  track-all d h = record {
    taken = λ t l. (track-at t (in-seats t l) d (h t d (in-seats t l))).comes;
    entries = λ t l. (track-at t (in-seats t l) d (h t d (in-seats t l))).entries;
  }

  -- one is not
  stray-first : (d : RunningThread) (s : Stray) → SeatsCompared log cut seats (Some s) → IsFirstStray log cut world s
  stray-first d s (t, l, before, here) = record {
    thread = t;
    there = (let n = come.shown.seated in omega (arith, n, counted, l));
    before = λ u ul. track-at u (omega (arith, ul, l)) d (before u d ul);
    here = stray-at t l d s (here d);
  }

  off-track : (s : Stray) → IsFirstStray log cut world s → IsOnTrack log cut world → ⊥
  off-track s first on = not-both first.thread _ _ _ _ s first.here (record { entries = on.entries first.thread first.there; comes = on.taken first.thread first.there })

-- what is answered by the threads is so of the cut play
pub stopped-by : (p : ProgramValue) (log : Log) (order : List Event) (thread step : ℕ) (cut : List ℕ) (seats : List RunningThread) (d : RunningThread) (stopped : Stopped) →
    length p.threads ≡ length log.threads → thread < length log.threads → HavePlayed p log order cut seats → IsAnswer log thread cut seats stopped → IsStopped p log order thread cut stopped
stopped-by p log order thread step cut seats d (At snap) counted l (words, come) (same, shown) =
    let on : IsOnTrack log cut (cut_by p log order cut) = track-all p log cut (cut_by p log order cut) words seats come counted d same in
    let here : thread < length seats = (let n = come.shown.seated in omega (arith, n, counted, l)) in
    (on, shown-there p log cut (cut_by p log order cut) words seats come counted thread here d snap (record { entries = on.entries thread l; comes = on.taken thread l }) (shown d))
stopped-by p log order thread step cut seats d (Strays s) counted l (words, come) h =
    let first = stray-first p log cut (cut_by p log order cut) words seats come counted d s h in
    (off-track p log cut (cut_by p log order cut) words seats come counted s first, first)

some-seat : (seats : List RunningThread) → 0 < length seats → RunningThread
some-seat [] l = absurd (omega (arith, l))
some-seat (seat ∷ seats) l = seat

-- the same as the calls say it
pub stops-by : (p : ProgramValue) (log : Log) (order : List Event) (thread step : ℕ) (cut numbers : List ℕ) (seats given : List RunningThread) (stopped : Stopped) →
    length p.threads ≡ length log.threads → thread < length log.threads → numbers ≡ cut → given ≡ seats → HavePlayed p log order numbers seats → IsAnswer log thread cut given stopped →
    IsStopped p log order thread cut stopped
stops-by p log order thread step cut numbers seats given stopped counted l n g played answered =
    let there : HavePlayed p log order cut seats = subst (λ (k : List ℕ). HavePlayed p log order k seats) n played in
    let some : 0 < length seats = (let m = there.1.shown.seated in omega (arith, m, counted, l)) in
    stopped-by p log order thread step cut seats (some-seat seats some) stopped counted l there (subst (λ (s : List RunningThread). IsAnswer log thread cut s stopped) g answered)

-- where runs fit the log it is as it was in these
pub as-it-ran : (p : ProgramValue) (log : Log) (order : List Event) (thread step : ℕ) (cut : List ℕ) (stopped : Stopped) → Respects log order → thread < length log.threads → step ≤ (thread_of log thread).steps →
    IsCut log thread step cut → IsStopped p log order thread cut stopped → IsAsItRan p log thread step stopped
as-it-ran p log order thread step cut (At snap) respects l inside is (on, shown) runs fits =
    let same = stops_ran p log runs order thread step cut fits respects l inside is in
    (ap (λ (s : SnapValue). s.instr) shown ∙ ap (λ (s : State). s.instr) same, ap (λ (s : SnapValue). s.registers) shown ∙ ap (λ (s : State). s.registers) same)
as-it-ran p log order thread step cut (Strays s) respects l inside is (off, first) runs fits =
    off (cut_on_track (threads_of p log.limits (taken_in log)) (tallies_of p log.limits (taken_in log)) p.words log runs fits order thread step cut
    (stays_within p log.limits (taken_in log)) (ends_within p log.limits (taken_in log)) respects inside is)

-- a stray that is answered tells two values that differ
pub tells-unlike : (p : ProgramValue) (log : Log) (order : List Event) (thread : ℕ) (cut : List ℕ) (stopped : Stopped) → IsStopped p log order thread cut stopped → TellsUnlike stopped
tells-unlike p log order thread cut (At snap) is = tt
tells-unlike p log order thread cut (Strays s) (off, first) = unlike first.thread _ _ _ _ s first.here
