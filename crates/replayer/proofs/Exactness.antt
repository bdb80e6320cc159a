-- What a verdict tells of the runs that fit a log, and of a history.
use Rattle.std.proofs.Common.{◌≡◌, ℕ, zero, suc, ◌+◌, ◌<◌, ◌≤◌, List, [], ◌∷◌, ◌++◌, length, take, map, refl, sym, ◌∙◌, ap, subst, arith}
use Rattle.std.specs.Prelude.{Result, Ok, Err, IfOk}
use Rattle.std.specs.List.{range_with_len}
use Rattle.std.proofs.Math.Seq.{take-length}
use Rattle.std.proofs.lemmas.List.{get_or-map, length-replicate}
use Rattle.replay_model.specs.Steps.{Event, Step}
use Rattle.replay_model.specs.Threads.{HasOnly}
use Rattle.replay_model.specs.Histories.{World, steps_of, opening}
use Rattle.replay_model.specs.Events.{keeps}
use Rattle.replay_model.proofs.Plays.{turns-push}
use Rattle.replay_laws.proofs.Endings.{moves_ended}
use Rattle.replay_model.specs.Logs.{Log, ThreadLog}
use Rattle.replay_model.specs.RunLogs.{run_log}
use Rattle.replay_model.specs.Orders.{Respects}
use Rattle.replay_model.proofs.RunLogs.{run_logs_from-length, run_logs-at}
use Rattle.replay_laws.proofs.Shown.{fit_shown}
use Rattle.replay_laws.proofs.Verdict.{skipped_fit, fit_logged}
use Rattle.machine.specs.Programs.{ProgramValue, LimitsValue}
use Rattle.machine.specs.Inputs.{InputsValue, inputs_of}
use Rattle.machine.specs.Cores.{report_of}
use Rattle.machine.specs.Laws.{taken_in}
use Rattle.machine.specs.Runs.{state_after, threads_of, tallies_of, reports_of, values_of, world_after}
use Rattle.machine.proofs.Runs.{stays_within, has_only, ends_within}
use Rattle.machine.proofs.Taking.{runs_on_taken}
use Rattle.history.specs.HistoryLogs.{log_of_history, FitsProgram}
use Rattle.history.proofs.Playing.{threads_count}
use Rattle.replayer.specs.declared.replay.Replayed.{Replayed}
use Rattle.replayer.specs.declared.replay.Replayed.TheVariants.{Same, Differs}
use Rattle.replayer.specs.Replays.{Replaying, after_turn, threads_by, world_by, world_of, replay_by, ended, IsBy}
use Rattle.replayer.specs.Seats.{turned, run_out}
use Rattle.replayer.proofs.Running.{turned-is}
use Rattle.replayer.proofs.Ending.{world-turned}
use Rattle.replayer.specs.Verdicts.{tallies_by, IsExact, IsVerdict, IsHistoryAgain, VerdictsAreExact}

-- the program has no more threads than the log
only-by : (p : ProgramValue) (log : Log) → length p.threads ≡ length log.threads → HasOnly (threads_by p log) (length log.threads)
only-by p log counted = subst (HasOnly (threads_by p log)) counted (has_only p log.limits (taken_in log))

pub exactly : VerdictsAreExact
exactly p log order (Same reports values) counted respects (shows, r, v) =
    let fits = skipped_fit (threads_by p log) (tallies_by p log) p.words log order (stays_within p log.limits (taken_in log)) (only-by p log counted) (ends_within p log.limits (taken_in log)) shows in
    let shown = fit_shown (threads_by p log) (tallies_by p log) p.words log (replay_by p log order).threads order (stays_within p log.limits (taken_in log)) (ends_within p log.limits (taken_in log)) fits respects in
    ((replay_by p log order).threads, fits, r, v ∙ shown.values)
exactly p log order (Differs d) counted respects (differs, first) =
    λ runs fits. differs (fit_logged (threads_by p log) (tallies_by p log) p.words log order (stays_within p log.limits (taken_in log)) (only-by p log counted) (ends_within p log.limits (taken_in log)) respects runs fits)

-- functions that agree on some numbers
map-same : {X : Type 0} (f g : ℕ → X) (a n : ℕ) → ((t : ℕ) → a ≤ t → t < a + n → f t ≡ g t) → map f (range_with_len a n) ≡ map g (range_with_len a n)
map-same f g a zero h = refl
map-same {X} f g a (suc n) h =
    ap (λ (x : X). x ∷ map f (range_with_len (a + 1) n)) (h a (omega arith) (omega arith)) ∙
    ap (λ (l : List X). g a ∷ l) (map-same f g (a + 1) n (λ t l m. h t (omega arith) (omega arith)))

-- ---- a history

module _ (p : ProgramValue) (limits : LimitsValue) (inputs : InputsValue) (digest history : List ℕ) where
  abbrev log : Log
  log = log_of_history p limits inputs digest history

  abbrev world : World
  world = world_after p limits inputs history

  threads-of-world : length world.threads ≡ length p.threads
  threads-of-world = threads_count (record { program = p; limits = limits; inputs = inputs; taken = history })

  -- the log holds just the numbers that a thread took
  taken-is : (t : ℕ) → t < length p.threads → inputs_of (taken_in log) t ≡ (tallies_of p limits inputs t (steps_of world.threads t)).taken
  taken-is t l =
      let n : t < length world.threads = (let k = threads-of-world in omega (arith, k, l)) in
      let at = run_logs-at (threads_of p limits inputs) (tallies_of p limits inputs) world.threads t (run_log (threads_of p limits inputs) (tallies_of p limits inputs) t (steps_of world.threads t)) n in
      get_or-map (λ (thread : ThreadLog). thread.taken) log.threads t (run_log (threads_of p limits inputs) (tallies_of p limits inputs) t (steps_of world.threads t)) [] (let k = run_logs_from-length (threads_of p limits inputs) (tallies_of p limits inputs) 0 world.threads in omega (arith, k, n)) ∙
      ap (λ (thread : ThreadLog). thread.taken) at

  -- so each thread comes to the same state
  state-is : (t : ℕ) → t < length p.threads → state_after p limits (taken_in log) t (steps_of world.threads t) ≡ state_after p limits inputs t (steps_of world.threads t)
  state-is t l =
      let steps = steps_of world.threads t in
      let e : take (length steps) steps ≡ steps = take-length steps in
      let P : List Step → Type 0 = λ list. state_after p limits (taken_in log) t list ≡ state_after p limits inputs t list in
      subst P e (runs_on_taken p limits inputs (taken_in log) t steps (taken-is t l) (length steps))

  -- and reports the same
  reports-same : reports_of p limits (taken_in log) world ≡ reports_of p limits inputs world
  reports-same =
      map-same (λ (t : ℕ). report_of (state_after p limits (taken_in log) t (steps_of world.threads t))) (λ (t : ℕ). report_of (state_after p limits inputs t (steps_of world.threads t)))
      0 (length p.threads) (λ t l m. ap report_of (state-is t (omega (arith, m))))

  -- the history comes again
  pub again : (order : List Event) (replayed : Replayed) → FitsProgram p log world.threads → replay_by p log order ≡ world → length p.threads ≡ length log.threads →
      Respects log order → IsVerdict p log (replay_by p log order) replayed → IsHistoryAgain p limits inputs history replayed
  again order (Same reports values) fits same counted respects (shows, r, v) =
      (r ∙ ap (reports_of p limits (taken_in log)) same ∙ reports-same, v ∙ ap values_of same)
  again order (Differs d) fits same counted respects verdict = exactly p log order (Differs d) counted respects verdict world.threads fits

-- ---- a replay that was finished, and one by a whole order

-- what holds of each value of a result
pub if-ok : {A E : Type 0} (P Q : A → Type 0) (r : Result A E) → ((x : A) → P x → Q x) → IfOk r P → IfOk r Q
if-ok P Q (Ok x) f h = f x h
if-ok P Q (Err e) f h = tt

-- the end after the turns of an order is that of its skip play
pub end-of-order : (r : Replaying) (order : List Event) → world_of r ≡ world_by r.program r.log order → ended r ≡ replay_by r.program r.log order
end-of-order r order e =
    ap (run_out r.program r.log (length r.log.threads)) e ∙
    ap (λ (n : ℕ). run_out r.program r.log n (world_by r.program r.log order)) (sym (length-replicate {A = List Step} (length r.log.threads) []))

pub verdict-by-order : (r : Replaying) (order : List Event) (replayed : Replayed) → world_of r ≡ world_by r.program r.log order → IsVerdict r.program r.log (ended r) replayed →
    IsVerdict r.program r.log (replay_by r.program r.log order) replayed
verdict-by-order r order replayed e h = subst (λ (w : World). IsVerdict r.program r.log w replayed) (end-of-order r order e) h

pub exact-by-order : (r : Replaying) (replayed : Replayed) → length r.program.threads ≡ length r.log.threads → IsVerdict r.program r.log (ended r) replayed →
    (order : List Event) → Respects r.log order → world_of r ≡ world_by r.program r.log order → IsExact r.program r.log replayed
exact-by-order r replayed counted h order respects e = exactly r.program r.log order replayed counted respects (verdict-by-order r order replayed e h)

-- no turn was taken
pub by-none : (p : ProgramValue) (r : Replaying) → r.program ≡ p → r.turns ≡ [] → IsBy p r.log [] r
by-none p r e n = record { of_program = e; by_log = refl; world = ap (λ (q : ProgramValue). world_by q r.log r.turns) e ∙ ap (world_by p r.log) n }

-- one more turn
pub by-more : (p : ProgramValue) (log : Log) (order : List Event) (event : Event) (r new : Replaying) → IsBy p log order r → new ≡ after_turn r event → IsBy p log (order ++ event ∷ []) new
by-more p log order event r new is e = subst (IsBy p log (order ++ event ∷ [])) (sym e) (record {
  of_program = is.of_program;
  by_log = is.by_log;
  world =
      world-turned r event.thread event.step ∙ ap (λ (q : ProgramValue). turned q r.log event.thread event.step (world_of r)) is.of_program ∙
      ap (λ (l : Log). turned p l event.thread event.step (world_of r)) is.by_log ∙ ap (turned p log event.thread event.step) is.world ∙
      sym (turns-push (threads_by p log) (keeps log) order event (opening p.words (length log.threads)));
})

-- a turn of a thread that is not there
pub by-nothing : (p : ProgramValue) (log : Log) (order : List Event) (event : Event) (r : Replaying) → IsBy p log order r → length p.threads ≤ event.thread → IsBy p log (order ++ event ∷ []) r
by-nothing p log order event r is far = record {
  of_program = is.of_program;
  by_log = is.by_log;
  world =
      is.world ∙
      sym (
      turns-push (threads_by p log) (keeps log) order event (opening p.words (length log.threads)) ∙ turned-is p log event.thread event.step _ (world_by p log order) refl ∙
      moves_ended (threads_by p log) (keeps log) _ event.thread (world_by p log order) (has_only p log.limits (taken_in log) event.thread (steps_of (world_by p log order).threads event.thread) far)
      );
}

-- the end after all of them is that of the replay by the order
pub end-by : (p : ProgramValue) (log : Log) (order : List Event) (r : Replaying) → IsBy p log order r → ended r ≡ replay_by p log order
end-by p log order r is =
    end-of-order r order (is.world ∙ ap (λ (q : ProgramValue). world_by q log order) (sym is.of_program) ∙ ap (λ (l : Log). world_by r.program l order) (sym is.by_log)) ∙
    ap (λ (l : Log). replay_by r.program l order) is.by_log ∙ ap (λ (q : ProgramValue). replay_by q log order) is.of_program

-- all turns of an order were taken
pub by-all : (p : ProgramValue) (log : Log) (order : List Event) (r : Replaying) (replayed : Replayed) → IsBy p log order r → IsVerdict r.program r.log (ended r) replayed → IsVerdict p log (replay_by p log order) replayed
by-all p log order r replayed is h =
    let P : ProgramValue → Type 0 = λ q. IsVerdict q r.log (replay_by q r.log order) replayed in
    let Q : Log → Type 0 = λ l. IsVerdict p l (replay_by p l order) replayed in
    subst Q is.by_log (subst P is.of_program (verdict-by-order r order replayed (is.world ∙ ap (λ (q : ProgramValue). world_by q log order) (sym is.of_program) ∙ ap (λ (l : Log). world_by r.program l order) (sym is.by_log)) h))
