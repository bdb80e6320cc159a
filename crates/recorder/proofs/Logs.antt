-- The logs of threads by their reports are those of their steps, and the log of a history is well formed.
use Rattle.std.proofs.Common.{◌≡◌, ℕ, zero, suc, ◌+◌, ◌<◌, List, ◌∷◌, length, take, refl, sym, ◌∙◌, ap, arith}
use Rattle.std.specs.Prelude.{map, slice_index_or}
use Rattle.std.specs.List.{range_with_len}
use Rattle.std.specs.Global.{Vec}
use Rattle.std.proofs.lemmas.List.{ext_get_or, length-map}
use Rattle.std.proofs.lemmas.List.FromFn.{length-map-range_with_len, get_or-map-range_with_len}
use Rattle.replay_model.specs.declared.Entry.{Entry}
use Rattle.replay_model.specs.declared.Want.{Want}
use Rattle.replay_model.specs.declared.Want.TheVariants.{Load, Store, Swap, Cond, Ended}
use Rattle.replay_model.specs.declared.End.{End}
use Rattle.replay_model.specs.Steps.{Step}
use Rattle.replay_model.specs.Histories.{steps_of}
use Rattle.replay_model.specs.ThreadLogs.{thread_log}
use Rattle.replay_model.specs.Logs.{ThreadLog, no_thread}
use Rattle.replay_model.specs.RunLogs.{run_log, run_logs, log_of}
use Rattle.replay_model.specs.RunLogs as logs
use Rattle.replay_model.specs.WellFormed.{IsWellFormed}
use Rattle.replay_model.proofs.RunLogs.{run_logs_from-length, run_logs-at}
use Rattle.replay_laws.proofs.WellFormedLog.{history_formed}
use Rattle.machine.specs.Programs.{ProgramValue, LimitsValue, IsProgram, AreLimits}
use Rattle.machine.specs.Cores.{State, Report, pending_want, end_of, end_or_halted, report_of}
use Rattle.machine.specs.Inputs.{InputsValue, inputs_of, AreShort}
use Rattle.machine.specs.Runs.{state_after, threads_of, tallies_of, world_after, reports_of}
use Rattle.machine.proofs.Runs.{stays_within, has_only, ends_within, counts_steps}
use Rattle.machine.proofs.Keeping.{keeps_limits}
use Rattle.history.specs.Played.{Played, threads_in, thread_steps, world_of}
use Rattle.history.specs.Histories.{IsHistory}
use Rattle.history.proofs.Playing.{threads_count}
use Rattle.recorder.specs.ThreadLogs.{entry_lists, entries_by, log_by, logs_by}

-- the end that is reported is the one that is logged
ends-alike : (wanted : Want) → end_or_halted (end_of wanted) ≡ logs.end_of wanted
ends-alike (Load word) = refl
ends-alike (Store word value) = refl
ends-alike (Swap word value) = refl
ends-alike (Cond word seen value) = refl
ends-alike (Ended end) = refl

-- the log by a thread's report is that of its steps
log_by-report : (p : ProgramValue) (limits : LimitsValue) (inputs : InputsValue) (t : ℕ) (steps : List Step) →
    log_by (inputs_of inputs t) (thread_log steps) (report_of (state_after p limits inputs t steps)) ≡ run_log (threads_of p limits inputs) (tallies_of p limits inputs) t steps
log_by-report p limits inputs t steps =
    let s : State = state_after p limits inputs t steps in
    let log : ℕ → End → ThreadLog = λ n e. record { entries = thread_log steps; steps = n; instr = s.instr; end = e; taken = take s.taken (inputs_of inputs t) } in
    ap (λ (n : ℕ). log n (end_or_halted (end_of (pending_want s)))) (counts_steps p limits inputs t steps) ∙ ap (log (length steps)) (ends-alike (pending_want s))

-- entries and reports that are made for each thread from number t on
logs_by-map : (inputs : InputsValue) (f : ℕ → List Entry) (g : ℕ → Report) (t count : ℕ) →
    logs_by inputs t (map f (range_with_len t count)) (map g (range_with_len t count)) ≡ map (λ (u : ℕ). log_by (inputs_of inputs u) (f u) (g u)) (range_with_len t count)
logs_by-map inputs f g t zero = refl
logs_by-map inputs f g t (suc count) = ap (λ (logs : List ThreadLog). log_by (inputs_of inputs t) (f t) (g t) ∷ logs) (logs_by-map inputs f g (t + 1) count)

-- the logs of runs, made for each thread
runs-logged : (p : ProgramValue) (limits : LimitsValue) (inputs : InputsValue) (runs : List (List Step)) →
    map (λ (t : ℕ). log_by (inputs_of inputs t) (thread_log (steps_of runs t)) (report_of (state_after p limits inputs t (steps_of runs t)))) (range_with_len 0 (length runs)) ≡ run_logs (threads_of p limits inputs) (tallies_of p limits inputs) runs
runs-logged p limits inputs runs = ext_get_or no_thread made (run_logs (threads_of p limits inputs) (tallies_of p limits inputs) runs) (count ∙ sym counted) each
  where
    by : ℕ → ThreadLog
    by t = log_by (inputs_of inputs t) (thread_log (steps_of runs t)) (report_of (state_after p limits inputs t (steps_of runs t)))

    made : List ThreadLog
    made = map by (range_with_len 0 (length runs))

    count : length made ≡ length runs
    count = length-map-range_with_len by 0 (length runs)

    counted : length (run_logs (threads_of p limits inputs) (tallies_of p limits inputs) runs) ≡ length runs
    counted = run_logs_from-length (threads_of p limits inputs) (tallies_of p limits inputs) 0 runs

    each : (i : ℕ) → i < length made → slice_index_or made i no_thread ≡ slice_index_or (run_logs (threads_of p limits inputs) (tallies_of p limits inputs) runs) i no_thread
    each i l =
        let here : i < length runs = let n = count in omega (arith, n, l) in
        get_or-map-range_with_len by 0 (length runs) i i no_thread here (omega arith) ∙ log_by-report p limits inputs i (steps_of runs i) ∙
        sym (run_logs-at (threads_of p limits inputs) (tallies_of p limits inputs) runs i no_thread here)

-- the logs of the threads of a machine
pub played-logged : (played : Played) →
    logs_by played.inputs 0 (entries_by played (range_with_len 0 (length played.program.threads))) (reports_of played.program played.limits played.inputs (world_of played)) ≡
    run_logs (threads_in played) (tallies_of played.program played.limits played.inputs) (world_of played).threads
played-logged played =
    logs_by-map played.inputs (λ (t : ℕ). thread_log (thread_steps played t)) (λ (t : ℕ). report_of (state_after played.program played.limits played.inputs t (thread_steps played t))) 0 (length played.program.threads) ∙
    ap (λ (n : ℕ). map (λ (t : ℕ). log_by (inputs_of played.inputs t) (thread_log (thread_steps played t)) (report_of (state_after played.program played.limits played.inputs t (thread_steps played t)))) (range_with_len 0 n)) (sym (threads_count played)) ∙
    runs-logged played.program played.limits played.inputs (world_of played).threads

-- the log of a history is well formed
pub history-formed : (p : ProgramValue) (limits : LimitsValue) (inputs : InputsValue) (digest history : List ℕ) → IsProgram p → AreLimits limits → AreShort inputs → IsHistory p limits inputs history →
    IsWellFormed (log_of (threads_of p limits inputs) (tallies_of p limits inputs) digest limits (world_after p limits inputs history))
history-formed p limits inputs digest history rules bounds short whole =
    history_formed (threads_of p limits inputs) (tallies_of p limits inputs) digest limits p.words (length p.threads) history (stays_within p limits inputs) (has_only p limits inputs) (ends_within p limits inputs) (keeps_limits p limits inputs short)
    (record {
      some_thread = rules.some_threads;
      threads = rules.most_threads;
      some_word = rules.some_words;
      words = rules.most_words;
      steps = let most = bounds.steps in omega (arith, most);
      instr = let most = bounds.instr in omega (arith, most);
      entries = bounds.entries;
    }) whole

-- there are as many lists of entries, and as many reports, as threads
pub entries-counted : (played : Played) (all : List (Vec Entry)) → entry_lists all ≡ entries_by played (range_with_len 0 (length played.program.threads)) → length all ≡ length played.program.threads
entries-counted played all are =
    sym (length-map all (λ (entries : Vec Entry). entries.items)) ∙ ap length are ∙ length-map-range_with_len (λ (t : ℕ). thread_log (thread_steps played t)) 0 (length played.program.threads)

pub reports-counted : (played : Played) (reports : List Report) → reports ≡ reports_of played.program played.limits played.inputs (world_of played) → length reports ≡ length played.program.threads
reports-counted played reports are =
    ap length are ∙ length-map-range_with_len (λ (t : ℕ). report_of (state_after played.program played.limits played.inputs t (thread_steps played t))) 0 (length played.program.threads)
