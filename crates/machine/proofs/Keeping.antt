-- Threads keep to their limits.
use Rattle.std.proofs.Common.{◌≡◌, ℕ, zero, suc, ◌<◌, ◌≤◌, Bool, false, List, [], ◌∷◌, ◌++◌, length, take, refl, sym, ◌∙◌, ap, subst, arith}
use Rattle.std.specs.Prelude.{slice_get, slice_index_or, Option, Some, None}
use Rattle.std.proofs.Math.Seq.{take-length, take-suc}
use Rattle.std.proofs.lemmas.List.{length-take}
use Rattle.replay_model.specs.Steps.{Step, has_ended}
use Rattle.replay_model.specs.Threads.{IsRun, no_step}
use Rattle.replay_model.specs.ThreadLogs.{is_full}
use Rattle.replay_model.specs.KeptLimits.{KeepsLimits}
use Rattle.replay_model.specs.declared.Want.{Want}
use Rattle.machine.specs.declared.cores.Expected.{Expected}
use Rattle.machine.specs.declared.program.Instr.{Instr}
use Rattle.machine.specs.Programs.{ProgramValue, LimitsValue, code_of}
use Rattle.machine.specs.Inputs.{InputsValue, AreShort, inputs_of, most_inputs}
use Rattle.machine.specs.Cores.{State, first_state, comes_to, instr_or_halt, waiting_or, run_local, run_on, resumed, settled, took}
use Rattle.machine.specs.Runs.{state_after, threads_of, tallies_of}
use Rattle.machine.proofs.InputLists.{short_list}
use Rattle.machine.proofs.Local.{GoesOn, going_instr}
use Rattle.machine.proofs.Rests.{IsAsked, settled-none}
use Rattle.machine.proofs.Took.{took_takes}
use Rattle.machine.proofs.Runs.{after_step, state_after-stands, wanted_of}

-- ---- no more instructions come than the limit says

waiting_or_most : (words : ℕ) (limits : LimitsValue) (list : List ℕ) (full : Bool) (s : State) (o : Option Instr) (t : Option Want) → comes_to words limits list full s o ≡ t → s.instr ≤ limits.instr →
    (next : State) → (GoesOn limits list s (instr_or_halt o) → next.instr ≤ limits.instr) → (waiting_or s o t next).instr ≤ limits.instr
waiting_or_most words limits list full s o None h most next f = f (going_instr words limits list full s o h)
waiting_or_most words limits list full s o (Some wanted) h most next f = most

run_local_most : (n : ℕ) (code : List Instr) (words : ℕ) (limits : LimitsValue) (list : List ℕ) (full : Bool) (s : State) → s.instr ≤ limits.instr → (run_local n code words limits list full s).instr ≤ limits.instr
unfolding run_local
run_local_most zero code words limits list full s most = most
run_local_most (suc n) code words limits list full s most =
    waiting_or_most words limits list full s (slice_get code s.place) (comes_to words limits list full s (slice_get code s.place)) refl most _
    (λ g. let room = g.room in let counts = g.counts in run_local_most n code words limits list full _ (omega arith))

run_on_most : (code : List Instr) (words : ℕ) (limits : LimitsValue) (list : List ℕ) (full : Bool) (s : State) → s.instr ≤ limits.instr → (run_on code words limits list full s).instr ≤ limits.instr
unfolding run_on
run_on_most code words limits list full s most = run_local_most _ code words limits list full s most

resumed_most : (p : ProgramValue) (limits : LimitsValue) (list : List ℕ) (full : Bool) (s : State) (e : Option Expected) → s.instr ≤ limits.instr → (resumed p limits list full s e).instr ≤ limits.instr
resumed_most p limits list full s None most = run_on_most (code_of p s.thread) (length p.words) limits list full s most
resumed_most p limits list full s (Some e) most = most

settled_most : (p : ProgramValue) (limits : LimitsValue) (list : List ℕ) (full : Bool) (s : State) → s.pending ≡ None → s.instr ≤ limits.instr → (settled p limits list full s).instr ≤ limits.instr
settled_most p limits list full s none most =
    let P : State → Type 0 = λ n. n.instr ≤ limits.instr in
    subst P (sym (settled-none p limits list full s s.expected none refl)) (resumed_most p limits list full s s.expected most)

-- along a run
prefix_most : (p : ProgramValue) (limits : LimitsValue) (inputs : InputsValue) (t : ℕ) (steps : List Step) → IsRun (threads_of p limits inputs) t steps → (k : ℕ) → k ≤ length steps → (state_after p limits inputs t (take k steps)).instr ≤ limits.instr
prefix_most p limits inputs t steps run zero l = settled_most p limits (inputs_of inputs t) (is_full limits.entries []) (first_state t) refl (omega arith)
prefix_most p limits inputs t steps run (suc k) l =
    let so_far = take k steps in
    let step = slice_index_or steps k no_step in
    let before = state_after p limits inputs t so_far in
    let stands = state_after-stands p limits inputs t so_far in
    let lives : has_ended stands.wanted ≡ false = ap has_ended (sym (wanted_of p limits inputs t so_far) ∙ run.wants k l) ∙ run.lives k l in
    let room : before.instr < limits.instr = (stands.step lives).instr in
    let takes = took_takes before step.found in
    let counts = takes.instr in
    let longer : take (suc k) steps ≡ so_far ++ step ∷ [] = take-suc steps k no_step l in
    let P : List Step → Type 0 = λ list. (state_after p limits inputs t list).instr ≤ limits.instr in
    let Q : State → Type 0 = λ n. n.instr ≤ limits.instr in
    subst P (sym longer) (subst Q (sym (after_step p limits inputs t so_far step))
    (settled_most p limits (inputs_of inputs t) (is_full limits.entries (so_far ++ step ∷ [])) (took before step.found) takes.pending (omega (arith, counts, room))))

run_instructions : (p : ProgramValue) (limits : LimitsValue) (inputs : InputsValue) (t : ℕ) (steps : List Step) → IsRun (threads_of p limits inputs) t steps → (tallies_of p limits inputs t steps).instr ≤ limits.instr
run_instructions p limits inputs t steps run =
    let all : take (length steps) steps ≡ steps = take-length steps in
    let P : List Step → Type 0 = λ list. (tallies_of p limits inputs t list).instr ≤ limits.instr in
    subst P all (prefix_most p limits inputs t steps run (length steps) (omega arith))

-- ---- what is asked for is within the limits

threads_asked : (p : ProgramValue) (limits : LimitsValue) (inputs : InputsValue) (t : ℕ) (steps : List Step) → IsAsked (length p.words) (is_full limits.entries steps) (threads_of p limits inputs t steps)
threads_asked p limits inputs t steps = subst (IsAsked (length p.words) (is_full limits.entries steps)) (sym (wanted_of p limits inputs t steps)) (state_after-stands p limits inputs t steps).asked

-- the numbers that a thread has taken are no more than its list has
tallies_short : (p : ProgramValue) (limits : LimitsValue) (inputs : InputsValue) → AreShort inputs → (t : ℕ) (steps : List Step) → length (tallies_of p limits inputs t steps).taken ≤ most_inputs
tallies_short p limits inputs short t steps =
    let first = length-take (state_after p limits inputs t steps).taken (inputs_of inputs t) in
    let whole = short_list inputs short t in
    omega (arith, first, whole)

pub keeps_limits : (p : ProgramValue) (limits : LimitsValue) (inputs : InputsValue) → AreShort inputs → KeepsLimits (threads_of p limits inputs) (tallies_of p limits inputs) (length p.words) limits
keeps_limits p limits inputs short = record {
  counts = run_instructions p limits inputs;
  taken = λ t steps run. tallies_short p limits inputs short t steps;
  room = λ t steps. (threads_asked p limits inputs t steps).room;
  addresses = λ t steps address e. (threads_asked p limits inputs t steps).address address e;
}
