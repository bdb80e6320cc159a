-- What comes of a thread that has ended.
use Rattle.std.proofs.Common.{◌≡◌, ℕ, ◌<◌, ◌≤◌, true, List, [], length, take, refl, sym, ◌∙◌, ap, subst, arith}
use Rattle.std.specs.Prelude.{Option, Some, None, IsSome, option_and_then, slice_index_or, Contains}
use Rattle.std.proofs.lemmas.List.Elements.{Contains-get_or}
use Rattle.replay_model.specs.declared.Entry.{Entry}
use Rattle.replay_model.specs.declared.Want.{Want}
use Rattle.replay_model.specs.declared.Want.TheVariants.{Load, Store, Swap, Cond, Ended}
use Rattle.replay_model.specs.declared.End.{End}
use Rattle.replay_model.specs.declared.End.TheVariants as end
use Rattle.replay_model.specs.Steps.{Step, has_ended}
use Rattle.replay_model.specs.Threads.{IsRun}
use Rattle.replay_model.specs.ThreadLogs.{thread_log, is_full}
use Rattle.replay_model.specs.Logs.{ThreadLog}
use Rattle.replay_model.specs.RunLogs as logs
use Rattle.replay_model.proofs.ThreadLogs.{thread_log-stands}
use Rattle.machine.specs.Programs.{ProgramValue, LimitsValue}
use Rattle.machine.specs.Inputs.{inputs_of}
use Rattle.machine.specs.Cores.{State, Report, first_state, pending_want, want_or, end_of, end_or_halted, report_of}
use Rattle.machine.specs.Runs.{state_from}
use Rattle.machine.proofs.Runs.{settled_stays}
use Rattle.running_thread.specs.declared.thread.RunningThread.{RunningThread}
use Rattle.running_thread.specs.Threads.{state_with, threads_with}
use Rattle.running_thread.proofs.Ends.{same-end}
use Rattle.running_thread.proofs.ThreadFacts.{obeys}
use Rattle.recorder.specs.declared.hand_words.HandWords.{HandWords}
use Rattle.recorder.specs.Running.{HasRun, IsRunning}

-- what is pending is an end
pending-end : (o : Option Want) → IsSome (option_and_then end_of o) → IsSome o × (has_ended (want_or (Ended end.Halted) o) ≡ true)
pending-end None h = cc
pending-end (Some (Load word)) h = cc
pending-end (Some (Store word value)) h = cc
pending-end (Some (Swap word value)) h = cc
pending-end (Some (Cond word seen value)) h = cc
pending-end (Some (Ended e)) h = (refl, refl)

-- the run of a thread with this input list, and its log
record RunsWith (p : ProgramValue) (limits : LimitsValue) (list : List ℕ) (t : ℕ) (steps : List Step) (log : ThreadLog) (report : Report) : Type 0 where
  pub run : IsRun (threads_with p limits list) t steps
  pub logged : log ≡ record {
    entries = thread_log steps;
    steps = length steps;
    instr = (state_from p limits list [] (first_state t) steps).instr;
    end = logs.end_of (threads_with p limits list t steps);
    taken = take (state_from p limits list [] (first_state t) steps).taken list;
  }
  pub reported : report ≡ report_of (state_from p limits list [] (first_state t) steps)

-- whatever the lists of the others are
with_inputs : (p : ProgramValue) (limits : LimitsValue) (list : List ℕ) (t : ℕ) (steps : List Step) (log : ThreadLog) (report : Report) → RunsWith p limits list t steps log report → HasRun p limits list t steps log report
with_inputs p limits list t steps log report runs inputs same =
    let here : RunsWith p limits (inputs_of inputs t) t steps log report = subst (λ (l : List ℕ). RunsWith p limits l t steps log report) (sym same) runs in
    let run = here.run in
    record {
      run = record { wants = run.wants; lives = run.lives; found = run.found; ends = run.ends };
      logged = here.logged;
      reported = here.reported;
    }

module _ (p : ProgramValue) (limits : LimitsValue) (list : List ℕ) (thread : RunningThread) (at : HandWords) (taken : List ℕ) (is : IsRunning p limits list thread at taken) (ended : IsSome (option_and_then end_of thread.core.pending)) where
  abbrev state : State
  state = state_with p limits list at.hand.thread at.hand.steps

  end-core : thread.core ≡ state
  end-core = sym (settled_stays p limits list (is_full limits.entries at.hand.steps) thread.core (pending-end thread.core.pending ended).0) ∙ is.is.core

  -- each entry ends at one of its steps
  pub within-steps : (k : ℕ) (d : Entry) → k < length thread.log.entries → (slice_index_or thread.log.entries k d).last ≤ thread.core.steps
  within-steps k d l =
      let logged = is.is.logged in
      let c : Contains (thread_log at.hand.steps) (slice_index_or thread.log.entries k d) = subst (λ (x : List Entry). Contains x (slice_index_or thread.log.entries k d)) logged (Contains-get_or thread.log.entries k d l) in
      let h = (thread_log-stands at.hand.steps (slice_index_or thread.log.entries k d) c).high in
      let n = is.is.counted in
      omega (arith, h, n)

  pub finished : (kept : List ℕ) (made : ThreadLog) (report : Report) → kept ≡ take thread.core.taken taken → report ≡ report_of thread.core →
      made ≡ record { entries = thread.log.entries; steps = report.steps; instr = report.instr; end = report.end; taken = kept } → HasRun p limits list at.hand.thread at.hand.steps made report
  finished kept made report k e m =
      let of : List Entry → Report → List ℕ → ThreadLog = λ entries x numbers. record { entries = entries; steps = x.steps; instr = x.instr; end = x.end; taken = numbers } in
      let numbers : kept ≡ take state.taken list = k ∙ ap (λ (x : State). take x.taken taken) end-core ∙ ap (take state.taken) is.room in
      let log_of : ℕ → End → ThreadLog = λ n x. record { entries = thread_log at.hand.steps; steps = n; instr = state.instr; end = x; taken = take state.taken list } in
      with_inputs p limits list at.hand.thread at.hand.steps made report (record {
        run = record {
          wants = is.is.begun.wants;
          lives = is.is.begun.lives;
          found = is.is.begun.found;
          ends = ap (λ (x : State). has_ended (pending_want x)) (sym end-core) ∙ (pending-end thread.core.pending ended).1;
        };
        logged =
            m ∙ ap (λ (entries : List Entry). of entries report kept) is.is.logged ∙ ap (λ (x : Report). of (thread_log at.hand.steps) x kept) (e ∙ ap report_of end-core) ∙
            ap (of (thread_log at.hand.steps) (report_of state)) numbers ∙
            ap (λ (n : ℕ). log_of n (end_or_halted (end_of (pending_want state)))) (obeys p limits list at.hand.thread at.hand.steps).counted ∙
            ap (log_of (length at.hand.steps)) (sym (same-end (Some (pending_want state))));
        reported = e ∙ ap report_of end-core;
      })
