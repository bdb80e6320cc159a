-- The log of a whole history is well formed.
use Rattle.std.proofs.Common.{◌≡◌, ℕ, ◌-◌, ◌<◌, List, length, refl, sym, ◌∙◌, ap, subst, arith, inl, inr, ◌⊎◌}
use Rattle.std.specs.Prelude.{◌≢◌, Some, None, slice_index_or}
use Rattle.std.proofs.lemmas.List.{get_or_default}
use Rattle.std.proofs.lemmas.List.Elements.{Contains-get_or}
use Rattle.std.proofs.lemmas.Bool.{cases_order}
use Rattle.replay_model.specs.Steps.{Event, Tag, Cell, Step, word_of}
use Rattle.replay_model.specs.declared.Want.{Want}
use Rattle.replay_model.specs.declared.Want.TheVariants.{Load, Store, Swap, Cond, Ended}
use Rattle.replay_model.specs.declared.End.TheVariants.{Halted, InstrSpent, BadAddress, StepsSpent, EntriesFull, OutputFull, InputEmpty}
use Rattle.replay_model.specs.declared.Entry.{Entry}
use Rattle.replay_model.specs.Threads.{Threads, StaysWithin, HasOnly, EndsWithin}
use Rattle.replay_model.specs.Histories.{steps_of, opening}
use Rattle.replay_model.specs.ThreadLogs.{thread_log}
use Rattle.replay_model.specs.Logs.{Limits, ThreadLog, Log, thread_of, last_tag, HasEntry, first_event, last_event}
use Rattle.replay_model.specs.RunLogs.{Tallies, run_log, end_of}
use Rattle.replay_model.specs.WellFormed.{IsInRange, IsPossibleEnd, IsTaken, IsTagOf, IsThreadOf, IsWellFormed}
use Rattle.replay_model.specs.KeptLimits.{KeepsLimits}
use Rattle.replay_model.specs.Events.{events_of}
use Rattle.replay_model.specs.Fitting.{HasWritten, Fits}
use Rattle.replay_model.specs.WholeHistories.{IsWholeHistory, played, history_log}
use Rattle.replay_model.proofs.Moves.{in_range}
use Rattle.replay_model.proofs.ThreadLogs.{nth, saw-found}
use Rattle.replay_model.proofs.EntryOrder.{thread_log-rising, thread_log-once, run_room}
use Rattle.replay_model.proofs.RunLogs.{logged_threads, logged_thread, logged-entry}
use Rattle.replay_laws.proofs.Told.{run_short}
use Rattle.replay_laws.proofs.Linear.{IsLinear, going, history_linear}
use Rattle.replay_laws.proofs.LinearReads.{told, entry_stands, first_read, not_between}
use Rattle.replay_laws.proofs.HistoryLog.{history_fits}

module _ (threads : Threads) (tallies : Tallies) (initial : List ℕ) (log : Log) (runs : List (List Step)) (all : List Event)
    (fits : Fits threads tallies initial log runs) (linear : IsLinear (length initial) runs all log.last_tags) where
  -- a step that wrote is one that its thread took
  written_taken : (e : Event) (word v : ℕ) → HasWritten runs e word v → IsTaken log e
  written_taken e word v hw =
      let low = hw.low in let high = hw.high in
      let r : e.thread < length runs = in_range runs e.thread (e.step - 1) (omega arith) in
      let n = logged_threads threads tallies log runs fits.logs in
      let s : (thread_of log e.thread).steps ≡ length (steps_of runs e.thread) = ap (λ (x : ThreadLog). x.steps) (logged_thread threads tallies log runs fits.logs e.thread r) in
      record { thread = omega arith; first = low; last = omega arith }

  source_taken : (t : ℕ) (a : Entry) → HasEntry log t a → IsTagOf log a.source
  source_taken t a c = go a.source refl
    where
      go : (tag : Tag) → a.source ≡ tag → IsTagOf log tag
      go None q = tt
      go (Some e) q = let (v, hw) = (told threads tallies initial log runs all fits linear).sources t a e c q in written_taken e a.word v hw

  last_taken : (word : ℕ) → word < length log.last_tags → IsTagOf log (last_tag log word)
  last_taken word l = go (last_tag log word) refl
    where
      go : (tag : Tag) → last_tag log word ≡ tag → IsTagOf log tag
      go None q = tt
      go (Some e) q =
          let (x, v, w, is, hw) = (told threads tallies initial log runs all fits linear).last_tags e (word, l, get_or_default log.last_tags word (Some e) None l ∙ q) in
          written_taken e x v hw

  -- the entries of one word in one thread do not overlap
  no_overlap : (t : ℕ) → t < length runs → (i j : ℕ) (d : Entry) → i < j → j < length (thread_log (steps_of runs t)) →
      (slice_index_or (thread_log (steps_of runs t)) i d).word ≡ (slice_index_or (thread_log (steps_of runs t)) j d).word →
      (slice_index_or (thread_log (steps_of runs t)) i d).last < (slice_index_or (thread_log (steps_of runs t)) j d).first
  no_overlap t tl i j d ij jl w = go (cases_order a.last b.first)
    where
      a : Entry
      a = slice_index_or (thread_log (steps_of runs t)) i d

      b : Entry
      b = slice_index_or (thread_log (steps_of runs t)) j d

      ca : HasEntry log t a
      ca = logged-entry threads tallies log runs fits.logs t a tl (Contains-get_or (thread_log (steps_of runs t)) i d (omega arith))

      cb : HasEntry log t b
      cb = logged-entry threads tallies log runs fits.logs t b tl (Contains-get_or (thread_log (steps_of runs t)) j d jl)

      rising : a.first < b.first
      rising = thread_log-rising (steps_of runs t) i j d ij jl

      differ : a.source ≢ b.source
      differ = thread_log-once (steps_of runs t) i j d ij jl w

      go : (a.last ≡ b.first) ⊎ ((a.last < b.first) ⊎ (b.first < a.last)) → a.last < b.first
      go (inr (inl l)) = l
      go (inl e) =
          let sa = entry_stands threads tallies initial log runs all fits linear t a ca in
          let sb = entry_stands threads tallies initial log runs all fits linear t b cb in
          let (x, xf, xw, xt) = saw-found a.word a.source (word_of (nth (steps_of runs t) (a.last - 1)).want) (nth (steps_of runs t) (a.last - 1)).found sa.last in
          let (y, yf, yw, yt) = saw-found b.word b.source (word_of (nth (steps_of runs t) (b.first - 1)).want) (nth (steps_of runs t) (b.first - 1)).found sb.first in
          let f : Some x ≡ Some y = sym xf ∙ ap (λ n. (nth (steps_of runs t) (n - 1)).found) e ∙ yf in
          let z : x ≡ y = cc f in
          absurd (differ (sym xt ∙ ap (λ (c : Cell). c.tag) z ∙ yt))
      go (inr (inr m)) =
          let sa = entry_stands threads tallies initial log runs all fits linear t a ca in
          let sb = entry_stands threads tallies initial log runs all fits linear t b cb in
          let la = sa.low in let ha = sa.high in let lb = sb.low in let r = rising in
          let p = linear.rising (first_event t a) (first_event t b) la (let bt = sb.between in let hb = sb.high in omega arith) refl r in
          let q = linear.rising (first_event t b) (last_event t a) lb ha refl m in
          absurd (not_between threads tallies initial log runs all fits linear t t a b ca cb w differ p q)

  module _ (stops : EndsWithin threads log.limits.steps) (keeps : KeepsLimits threads tallies (length initial) log.limits) where
    possible : (t : ℕ) (steps : List Step) (w : Want) → threads t steps ≡ w → IsPossibleEnd (length initial) (end_of w)
    possible t steps (Load word) q = tt
    possible t steps (Store word value) q = tt
    possible t steps (Swap word value) q = tt
    possible t steps (Cond word seen value) q = tt
    possible t steps (Ended Halted) q = tt
    possible t steps (Ended InstrSpent) q = tt
    possible t steps (Ended (BadAddress address)) q = keeps.addresses t steps address q
    possible t steps (Ended StepsSpent) q = tt
    possible t steps (Ended EntriesFull) q = tt
    possible t steps (Ended OutputFull) q = tt
    possible t steps (Ended InputEmpty) q = tt

    run_formed : (t : ℕ) → t < length runs → IsThreadOf log (run_log threads tallies t (steps_of runs t))
    run_formed t l = record {
      steps = run_short threads runs log.limits.steps stops fits.run t;
      instr = keeps.counts t (steps_of runs t) (fits.run t l);
      taken = keeps.taken t (steps_of runs t) (fits.run t l);
      entries = run_room threads t log.limits.entries (keeps.room t) (steps_of runs t) (fits.run t l);
      end = subst (λ (n : ℕ). IsPossibleEnd n (end_of (threads t (steps_of runs t)))) (sym fits.words) (possible t (steps_of runs t) (threads t (steps_of runs t)) refl);
      each = λ entry c.
          let h : HasEntry log t entry = logged-entry threads tallies log runs fits.logs t entry l c in
          let s = entry_stands threads tallies initial log runs all fits linear t entry h in
          record {
            low = s.low;
            between = s.between;
            high = s.high;
            source = source_taken t entry h;
            word = (let w = (first_read threads tallies initial log runs all fits linear t entry h).0 in let n = fits.words in omega arith);
          };
      rising = thread_log-rising (steps_of runs t);
      once = thread_log-once (steps_of runs t);
      apart = no_overlap t l;
    }

    thread_formed : (t : ℕ) → t < length log.threads → IsThreadOf log (thread_of log t)
    thread_formed t l =
        let n = logged_threads threads tallies log runs fits.logs in
        let tl : t < length runs = omega arith in
        subst (IsThreadOf log) (sym (logged_thread threads tallies log runs fits.logs t tl)) (run_formed t tl)

    pub linear_formed : (count : ℕ) → length log.threads ≡ count → IsInRange count (length initial) log.limits → IsWellFormed log
    linear_formed count cq range = record {
      range = subst (λ (n : ℕ). IsInRange n (length log.last_tags) log.limits) (sym cq) (subst (λ (n : ℕ). IsInRange count n log.limits) (sym fits.words) range);
      threads = thread_formed;
      last_tags = last_taken;
    }

-- the log of a whole history is well formed
pub history_formed : (threads : Threads) (tallies : Tallies) (digest : List ℕ) (limits : Limits) (initial : List ℕ) (count : ℕ) (history : List ℕ) →
    StaysWithin threads (length initial) → HasOnly threads count → EndsWithin threads limits.steps → KeepsLimits threads tallies (length initial) limits →
    IsInRange count (length initial) limits → IsWholeHistory threads initial count history →
    IsWellFormed (history_log threads tallies digest limits initial count history)
history_formed threads tallies digest limits initial count history within only stops keeps range whole =
    let fits = history_fits threads tallies digest limits initial count history within only whole in
    linear_formed threads tallies initial (history_log threads tallies digest limits initial count history) (played threads initial count history).threads
    (events_of threads history (opening initial count)) fits (history_linear threads initial count history within only whole.legal) stops keeps count
    (logged_threads threads tallies (history_log threads tallies digest limits initial count history) (played threads initial count history).threads fits.logs ∙
    (going threads initial count history within only whole.legal).counted) range
