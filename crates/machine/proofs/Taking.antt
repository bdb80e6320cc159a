-- A thread runs on the numbers that it takes as on its whole list.
use Rattle.std.proofs.Common.{◌≡◌, ℕ, zero, suc, ◌+◌, ◌<◌, ◌≤◌, Bool, true, false, cond, ◌&&◌, leb, List, [], ◌∷◌, ◌++◌, length, take, refl, sym, ◌∙◌, ap, subst, arith}
use Rattle.std.specs.Prelude.{slice_get, slice_index, Option, Some, None}
use Rattle.std.proofs.Math.Seq.{take-length}
use Rattle.std.proofs.lemmas.Bool.{leb-true, leb-false, le-leb, lt-leb}
use Rattle.std.proofs.lemmas.List.{get_or-take, get_or-map, length-take, take-take}
use Rattle.replay_model.specs.Steps.{Step, has_ended}
use Rattle.replay_model.specs.Threads.{IsRun}
use Rattle.replay_model.specs.Histories.{steps_of}
use Rattle.replay_model.specs.ThreadLogs.{is_full, thread_log}
use Rattle.replay_model.specs.Logs.{Log, ThreadLog, no_thread}
use Rattle.replay_model.specs.RunLogs.{Tally, end_of, run_log, run_logs, run_logs_from}
use Rattle.replay_model.specs.Fitting.{Fits}
use Rattle.replay_model.proofs.RunLogs.{logged_threads, logged_thread}
use Rattle.replay_model.specs.declared.Want.{Want}
use Rattle.replay_model.specs.declared.End.{End}
use Rattle.replay_model.specs.declared.End.TheVariants as end
use Rattle.machine.specs.declared.cores.Expected.{Expected}
use Rattle.machine.specs.declared.program.Instr.{Instr}
use Rattle.machine.specs.declared.program.Op.{Op}
use Rattle.machine.specs.declared.program.Op.TheVariants as op
use Rattle.machine.specs.Programs.{ProgramValue, LimitsValue, code_of}
use Rattle.machine.specs.Inputs.{InputsValue, inputs_of}
use Rattle.machine.specs.Cores.{State, first_state, address_of, is_halt, is_memory, is_reading, is_out, is_input, most_outputs, end_before, step_wanted, ended_or, comes_to, computed, taken_after, registers_with, ran, instr_or_halt, waiting_or, run_local, run_on, resumed, settled, took, pending_want}
use Rattle.machine.specs.Runs.{state_from, state_after, threads_of, tallies_of}
use Rattle.machine.specs.Laws.{taken_in}
use Rattle.machine.proofs.Local.{no_end, lives, run_local-follows, run_on-follows}
use Rattle.machine.proofs.Rests.{settled-some, settled-none}
use Rattle.machine.proofs.Took.{took_takes}

-- ---- nothing that was taken is given back

resumed_taken : (p : ProgramValue) (limits : LimitsValue) (list : List ℕ) (full : Bool) (s : State) (e : Option Expected) → s.taken ≤ (resumed p limits list full s e).taken
resumed_taken p limits list full s None = (run_on-follows (code_of p s.thread) (length p.words) limits list full s).taken
resumed_taken p limits list full s (Some e) = omega arith

settled_taken : (p : ProgramValue) (limits : LimitsValue) (list : List ℕ) (full : Bool) (s : State) → s.taken ≤ (settled p limits list full s).taken
settled_taken p limits list full s = by_pending s.pending refl
  where
    P : State → Type 0
    P n = s.taken ≤ n.taken

    by_pending : (o : Option Want) → s.pending ≡ o → s.taken ≤ (settled p limits list full s).taken
    by_pending None h = subst P (sym (settled-none p limits list full s s.expected h refl)) (resumed_taken p limits list full s s.expected)
    by_pending (Some w) h = subst P (sym (settled-some p limits list full s w h)) (omega arith)

state_from_taken : (p : ProgramValue) (limits : LimitsValue) (list : List ℕ) (earlier : List Step) (s : State) (steps : List Step) → s.taken ≤ (state_from p limits list earlier s steps).taken
state_from_taken p limits list earlier s [] = settled_taken p limits list (is_full limits.entries earlier) s
state_from_taken p limits list earlier s (step ∷ steps) =
    let here = settled p limits list (is_full limits.entries earlier) s in
    let a = settled_taken p limits list (is_full limits.entries earlier) s in
    let b = (took_takes here step.found).taken in
    let c = state_from_taken p limits list (earlier ++ step ∷ []) (took here step.found) steps in
    omega (arith, a, b, c)

-- the first steps take no more than all of them
prefix_taken : (p : ProgramValue) (limits : LimitsValue) (list : List ℕ) (earlier : List Step) (s : State) (steps : List Step) (k : ℕ) →
    (state_from p limits list earlier s (take k steps)).taken ≤ (state_from p limits list earlier s steps).taken
prefix_taken p limits list earlier s [] zero = omega arith
prefix_taken p limits list earlier s [] (suc k) = omega arith
prefix_taken p limits list earlier s (step ∷ steps) zero =
    let here = settled p limits list (is_full limits.entries earlier) s in
    let b = (took_takes here step.found).taken in
    let c = state_from_taken p limits list (earlier ++ step ∷ []) (took here step.found) steps in
    omega (arith, b, c)
prefix_taken p limits list earlier s (step ∷ steps) (suc k) = prefix_taken p limits list (earlier ++ step ∷ []) (took (settled p limits list (is_full limits.entries earlier) s) step.found) steps k

-- ---- under the first numbers of a list

-- the ends in their order, by the tests that they come from
abbrev first_end : ℕ → Bool → Bool → Bool → Bool → Bool → Bool → Bool → Option End
first_end address halts spent bad steps entries outputs empty =
    cond halts (Some end.Halted) (cond spent (Some end.InstrSpent) (cond bad (Some (end.BadAddress address)) (cond steps (Some end.StepsSpent) (cond entries (Some end.EntriesFull) (cond outputs (Some end.OutputFull) (cond empty (Some end.InputEmpty) None))))))

-- the last test may be answered otherwise where nothing is wanted then
last_test : (address : ℕ) (halts spent bad steps entries outputs a b : Bool) (w : Option Want) (wanted : Want) → ended_or (first_end address halts spent bad steps entries outputs a) w ≡ Some wanted → (a ≡ true → b ≡ true) → (b ≡ true → w ≡ None) →
    ended_or (first_end address halts spent bad steps entries outputs b) w ≡ Some wanted
last_test address true spent bad steps entries outputs a b w wanted h f g = h
last_test address false true bad steps entries outputs a b w wanted h f g = h
last_test address false false true steps entries outputs a b w wanted h f g = h
last_test address false false false true entries outputs a b w wanted h f g = h
last_test address false false false false true outputs a b w wanted h f g = h
last_test address false false false false false true a b w wanted h f g = h
last_test address false false false false false false true true w wanted h f g = h
last_test address false false false false false false true false w wanted h f g = let e = f refl in cc
last_test address false false false false false false false true w wanted h f g = let e = g refl in cc
last_test address false false false false false false false false w wanted h f g = h

-- an operation that takes an input number wants no memory step
no_step_wanted : (o : Op) (b : Bool) (s : State) (i : Instr) → (is_input o && b) ≡ true → step_wanted o s i ≡ None
no_step_wanted op.Input b s i h = refl
no_step_wanted _ b s i h = absurd cc

-- what a test that holds with another one says of a weaker one
and_then : (a b c : Bool) → (b ≡ true → c ≡ true) → (a && b) ≡ true → (a && c) ≡ true
and_then true b c f h = f h
and_then false b c f h = cc

module _ (whole first : List ℕ) (most : ℕ) (same : first ≡ take most whole) where
  -- both have the numbers that are taken
  first_number : (n : ℕ) → n < most → slice_index first n ≡ slice_index whole n
  first_number n lt = rw same (get_or-take most whole n 0 lt)

  first_length : (n : ℕ) → n < most → n < length whole → n < length first
  first_length n lt there = let l = length-take most whole in let e = ap length same in omega (arith, l, e)

  -- where the whole list is empty the first numbers are
  empty_first : (n : ℕ) → leb (length whole) n ≡ true → leb (length first) n ≡ true
  empty_first n h = let l = length-take most whole in let e = ap length same in let k = leb-true (length whole) n h in le-leb (length first) n (omega (arith, l, e, k))

  -- where a number is left to the whole list and taken, one is left to the first numbers
  not_empty_first : (o : Op) (s : State) → taken_after o s ≤ most → (is_input o && leb (length whole) s.taken) ≡ false → (is_input o && leb (length first) s.taken) ≡ false
  not_empty_first op.Input s le h = lt-leb (length first) s.taken (first_length s.taken (omega arith) (leb-false (length whole) s.taken h))
  not_empty_first _ s le h = refl

  comes_first : (words : ℕ) (limits : LimitsValue) (full : Bool) (s : State) (i : Instr) (wanted : Want) → comes_to words limits whole full s (Some i) ≡ Some wanted → comes_to words limits first full s (Some i) ≡ Some wanted
  comes_first words limits full s i wanted h =
      last_test (address_of s i) (is_halt i.op) (leb limits.instr s.instr) (is_memory i.op && leb words (address_of s i)) (is_memory i.op && leb limits.steps s.steps) (is_reading i.op && full)
      (is_out i.op && leb most_outputs (length s.output)) (is_input i.op && leb (length whole) s.taken) (is_input i.op && leb (length first) s.taken) (step_wanted i.op s i) wanted h
      (and_then (is_input i.op) _ _ (empty_first s.taken)) (no_step_wanted i.op (leb (length first) s.taken) s i)

  goes_first : (words : ℕ) (limits : LimitsValue) (full : Bool) (s : State) (i : Instr) → taken_after i.op s ≤ most → comes_to words limits whole full s (Some i) ≡ None → comes_to words limits first full s (Some i) ≡ None
  goes_first words limits full s i le h =
      let a = (lives words limits whole full s i (no_end (end_before words limits whole full s i) (step_wanted i.op s i) h).0).numbers in
      let b = not_empty_first i.op s le a in
      ap (λ (x : Bool). ended_or (first_end (address_of s i) (is_halt i.op) (leb limits.instr s.instr) (is_memory i.op && leb words (address_of s i)) (is_memory i.op && leb limits.steps s.steps) (is_reading i.op && full)
      (is_out i.op && leb most_outputs (length s.output)) x) (step_wanted i.op s i)) (b ∙ sym a) ∙ h

  computed_first : (o : Op) (s : State) (i : Instr) → taken_after o s ≤ most → computed first o s i ≡ computed whole o s i
  computed_first op.Input s i le = ap Some (first_number s.taken (omega arith))
  computed_first _ s i le = refl

  ran_first : (o : Op) (s : State) (i : Instr) → taken_after o s ≤ most → ran first o s i ≡ ran whole o s i
  ran_first o s i le = let new = ran whole o s i in ap (λ (v : Option ℕ). record new { registers = registers_with s.registers i.a v }) (computed_first o s i le)

  -- at one instruction
  waiting_first : (words : ℕ) (limits : LimitsValue) (full : Bool) (s : State) (o : Option Instr) (t : Option Want) (next_first next : State) → comes_to words limits whole full s o ≡ t →
      taken_after (instr_or_halt o).op s ≤ next.taken → (waiting_or s o t next).taken ≤ most → (taken_after (instr_or_halt o).op s ≤ most → next.taken ≤ most → next_first ≡ next) →
      waiting_or s o (comes_to words limits first full s o) next_first ≡ waiting_or s o t next
  waiting_first words limits full s None None next_first next h more le f = absurd cc
  waiting_first words limits full s None (Some wanted) next_first next h more le f = ap (λ (t : Option Want). waiting_or s None t next_first) h
  waiting_first words limits full s (Some i) None next_first next h more le f =
      let room : taken_after i.op s ≤ most = omega (arith, more, le) in
      ap (λ (t : Option Want). waiting_or s (Some i) t next_first) (goes_first words limits full s i room h) ∙ f room le
  waiting_first words limits full s (Some i) (Some wanted) next_first next h more le f = ap (λ (t : Option Want). waiting_or s (Some i) t next_first) (comes_first words limits full s i wanted h)

  run_local-first : (n : ℕ) (code : List Instr) (words : ℕ) (limits : LimitsValue) (full : Bool) (s : State) → (run_local n code words limits whole full s).taken ≤ most → run_local n code words limits first full s ≡ run_local n code words limits whole full s
  unfolding run_local
  run_local-first zero code words limits full s le = refl
  run_local-first (suc n) code words limits full s le =
      let o = slice_get code s.place in
      let i = instr_or_halt o in
      waiting_first words limits full s o (comes_to words limits whole full s o) (run_local n code words limits first full (ran first i.op s i)) (run_local n code words limits whole full (ran whole i.op s i)) refl
      (run_local-follows n code words limits whole full (ran whole i.op s i)).taken le
      (λ room left. ap (run_local n code words limits first full) (ran_first i.op s i room) ∙ run_local-first n code words limits full (ran whole i.op s i) left)

  run_on-first : (code : List Instr) (words : ℕ) (limits : LimitsValue) (full : Bool) (s : State) → (run_on code words limits whole full s).taken ≤ most → run_on code words limits first full s ≡ run_on code words limits whole full s
  unfolding run_on
  run_on-first code words limits full s le = run_local-first _ code words limits full s le

  resumed_first : (p : ProgramValue) (limits : LimitsValue) (full : Bool) (s : State) (e : Option Expected) → (resumed p limits whole full s e).taken ≤ most → resumed p limits first full s e ≡ resumed p limits whole full s e
  resumed_first p limits full s None le = run_on-first (code_of p s.thread) (length p.words) limits full s le
  resumed_first p limits full s (Some e) le = refl

  settled_first : (p : ProgramValue) (limits : LimitsValue) (full : Bool) (s : State) → (settled p limits whole full s).taken ≤ most → settled p limits first full s ≡ settled p limits whole full s
  settled_first p limits full s le = by_pending s.pending refl
    where
      by_pending : (o : Option Want) → s.pending ≡ o → settled p limits first full s ≡ settled p limits whole full s
      by_pending None h =
          let e = settled-none p limits whole full s s.expected h refl in
          let n = ap (λ (x : State). x.taken) e in
          settled-none p limits first full s s.expected h refl ∙ resumed_first p limits full s s.expected (omega (arith, n, le)) ∙ sym e
      by_pending (Some w) h = settled-some p limits first full s w h ∙ sym (settled-some p limits whole full s w h)

  state_from_first : (p : ProgramValue) (limits : LimitsValue) (earlier : List Step) (s : State) (steps : List Step) → (state_from p limits whole earlier s steps).taken ≤ most →
      state_from p limits first earlier s steps ≡ state_from p limits whole earlier s steps
  state_from_first p limits earlier s [] le = settled_first p limits (is_full limits.entries earlier) s le
  state_from_first p limits earlier s (step ∷ steps) le =
      let here = settled p limits whole (is_full limits.entries earlier) s in
      let next = took here step.found in
      let a = (took_takes here step.found).taken in
      let b = state_from_taken p limits whole (earlier ++ step ∷ []) next steps in
      ap (λ (n : State). state_from p limits first (earlier ++ step ∷ []) (took n step.found) steps) (settled_first p limits (is_full limits.entries earlier) s (omega (arith, a, b, le))) ∙
      state_from_first p limits (earlier ++ step ∷ []) next steps le

-- ---- threads, runs and logs

pub runs_on_taken : (p : ProgramValue) (limits : LimitsValue) (inputs others : InputsValue) (t : ℕ) (steps : List Step) → inputs_of others t ≡ (tallies_of p limits inputs t steps).taken →
    (k : ℕ) → state_after p limits others t (take k steps) ≡ state_after p limits inputs t (take k steps)
runs_on_taken p limits inputs others t steps held k =
    state_from_first (inputs_of inputs t) (inputs_of others t) (state_after p limits inputs t steps).taken held p limits [] (first_state t) (take k steps) (prefix_taken p limits (inputs_of inputs t) [] (first_state t) steps k)

ends_on_taken : (p : ProgramValue) (limits : LimitsValue) (inputs others : InputsValue) (t : ℕ) (steps : List Step) → inputs_of others t ≡ (tallies_of p limits inputs t steps).taken → state_after p limits others t steps ≡ state_after p limits inputs t steps
ends_on_taken p limits inputs others t steps held =
    let P : List Step → Type 0 = λ l. state_after p limits others t l ≡ state_after p limits inputs t l in
    subst P (take-length steps) (runs_on_taken p limits inputs others t steps held (length steps))

pub tallies_on_taken : (p : ProgramValue) (limits : LimitsValue) (inputs others : InputsValue) (t : ℕ) (steps : List Step) → inputs_of others t ≡ (tallies_of p limits inputs t steps).taken →
    tallies_of p limits others t steps ≡ tallies_of p limits inputs t steps
tallies_on_taken p limits inputs others t steps held =
    let s = state_after p limits inputs t steps in
    let again : take s.taken (inputs_of others t) ≡ take s.taken (inputs_of inputs t) = ap (take s.taken) held ∙ take-take s.taken s.taken (inputs_of inputs t) (omega arith) in
    let made : State → Tally = λ n. record { instr = n.instr; taken = take n.taken (inputs_of others t) } in
    ap made (ends_on_taken p limits inputs others t steps held) ∙ ap (λ (list : List ℕ). record { instr = s.instr; taken = list }) again

pub run_on_taken : (p : ProgramValue) (limits : LimitsValue) (inputs others : InputsValue) (t : ℕ) (steps : List Step) → inputs_of others t ≡ (tallies_of p limits inputs t steps).taken →
    IsRun (threads_of p limits inputs) t steps → IsRun (threads_of p limits others) t steps
run_on_taken p limits inputs others t steps held run = record {
  wants = λ k l. ap pending_want (runs_on_taken p limits inputs others t steps held k) ∙ run.wants k l;
  lives = run.lives;
  found = run.found;
  ends = ap (λ (s : State). has_ended (pending_want s)) (ends_on_taken p limits inputs others t steps held) ∙ run.ends;
}

-- the log of a thread's run
log_on_taken : (p : ProgramValue) (limits : LimitsValue) (inputs others : InputsValue) (t : ℕ) (steps : List Step) → inputs_of others t ≡ (tallies_of p limits inputs t steps).taken →
    run_log (threads_of p limits inputs) (tallies_of p limits inputs) t steps ≡ run_log (threads_of p limits others) (tallies_of p limits others) t steps
log_on_taken p limits inputs others t steps held =
    let made : Want → Tally → ThreadLog = λ w n. record { entries = thread_log steps; steps = length steps; instr = n.instr; end = end_of w; taken = n.taken } in
    sym (
    ap (λ (s : State). made (pending_want s) (tallies_of p limits others t steps)) (ends_on_taken p limits inputs others t steps held) ∙
    ap (made (threads_of p limits inputs t steps)) (tallies_on_taken p limits inputs others t steps held)
    )

logs_on_taken : (p : ProgramValue) (limits : LimitsValue) (inputs others : InputsValue) (m : ℕ) (runs : List (List Step)) →
    ((t : ℕ) → t < length runs → inputs_of others (m + t) ≡ (tallies_of p limits inputs (m + t) (steps_of runs t)).taken) →
    run_logs_from (threads_of p limits inputs) (tallies_of p limits inputs) m runs ≡ run_logs_from (threads_of p limits others) (tallies_of p limits others) m runs
logs_on_taken p limits inputs others m [] held = refl
logs_on_taken p limits inputs others m (run ∷ runs) held =
    let z : m + 0 ≡ m = omega arith in
    let P : ℕ → Type 0 = λ n. inputs_of others n ≡ (tallies_of p limits inputs n run).taken in
    let here = log_on_taken p limits inputs others m run (subst P z (held 0 (omega arith))) in
    let rest = logs_on_taken p limits inputs others (m + 1) runs (λ t l.
    let y : m + suc t ≡ m + 1 + t = omega arith in
    let Q : ℕ → Type 0 = λ n. inputs_of others n ≡ (tallies_of p limits inputs n (steps_of runs t)).taken in
    subst Q y (held (suc t) (omega arith))) in
    ap (λ (log : ThreadLog). log ∷ run_logs_from (threads_of p limits inputs) (tallies_of p limits inputs) (m + 1) runs) here ∙
    ap (λ (logs : List ThreadLog). run_log (threads_of p limits others) (tallies_of p limits others) m run ∷ logs) rest

-- a log of runs holds the numbers that they take
held_in : (p : ProgramValue) (limits : LimitsValue) (inputs : InputsValue) (log : Log) (runs : List (List Step)) → log.threads ≡ run_logs (threads_of p limits inputs) (tallies_of p limits inputs) runs →
    (t : ℕ) → t < length runs → inputs_of (taken_in log) t ≡ (tallies_of p limits inputs t (steps_of runs t)).taken
held_in p limits inputs log runs logs t l =
    let n = logged_threads (threads_of p limits inputs) (tallies_of p limits inputs) log runs logs in
    get_or-map (λ (thread : ThreadLog). thread.taken) log.threads t no_thread [] (omega (arith, n, l)) ∙
    ap (λ (thread : ThreadLog). thread.taken) (logged_thread (threads_of p limits inputs) (tallies_of p limits inputs) log runs logs t l)

pub fits_on_taken : (p : ProgramValue) (limits : LimitsValue) (inputs : InputsValue) (initial : List ℕ) (log : Log) (runs : List (List Step)) →
    Fits (threads_of p limits inputs) (tallies_of p limits inputs) initial log runs → Fits (threads_of p limits (taken_in log)) (tallies_of p limits (taken_in log)) initial log runs
fits_on_taken p limits inputs initial log runs fits =
    let held = held_in p limits inputs log runs fits.logs in
    let P : List Step → ℕ → Type 0 = λ run n. inputs_of (taken_in log) n ≡ (tallies_of p limits inputs n run).taken in
    let from_0 : (t : ℕ) → t < length runs → P (steps_of runs t) (0 + t) = λ t l. (let z : t ≡ 0 + t = omega arith in subst (P (steps_of runs t)) z (held t l)) in
    record {
      run = λ t l. run_on_taken p limits inputs (taken_in log) t (steps_of runs t) (held t l) (fits.run t l);
      grounded = fits.grounded;
      logs = fits.logs ∙ logs_on_taken p limits inputs (taken_in log) 0 runs from_0;
      words = fits.words;
      last_tags = fits.last_tags;
    }
