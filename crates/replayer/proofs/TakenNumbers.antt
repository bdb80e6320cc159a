-- No thread takes more numbers than its list has.
use Rattle.std.proofs.Common.{◌≡◌, ℕ, zero, suc, ◌≤◌, Bool, false, ◌&&◌, leb, List, [], ◌∷◌, ◌++◌, length, refl, sym, subst, arith}
use Rattle.std.specs.Prelude.{slice_get, Option, Some, None}
use Rattle.std.proofs.lemmas.Bool.{leb-false}
use Rattle.replay_model.specs.Steps.{Step}
use Rattle.replay_model.specs.ThreadLogs.{is_full}
use Rattle.replay_model.specs.declared.Want.{Want}
use Rattle.machine.specs.declared.cores.Expected.{Expected}
use Rattle.machine.specs.declared.program.Instr.{Instr}
use Rattle.machine.specs.declared.program.Op.{Op}
use Rattle.machine.specs.declared.program.Op.TheVariants as op
use Rattle.machine.specs.Programs.{ProgramValue, LimitsValue, code_of}
use Rattle.machine.specs.Inputs.{InputsValue, inputs_of}
use Rattle.machine.specs.Cores.{State, first_state, is_input, end_before, step_wanted, comes_to, taken_after, ran, instr_or_halt, waiting_or, run_local, run_on, resumed, settled, took}
use Rattle.machine.specs.Runs.{state_from, state_after}
use Rattle.machine.proofs.Local.{no_end, lives}
use Rattle.machine.proofs.Rests.{settled-some, settled-none}
use Rattle.machine.proofs.Took.{took_takes}

op_within : (o : Op) (s : State) (list : List ℕ) → (is_input o && leb (length list) s.taken) ≡ false → s.taken ≤ length list → taken_after o s ≤ length list
op_within op.Input s list h within = let l = leb-false (length list) s.taken h in omega arith
op_within _ s list h within = within

ran_within : (words : ℕ) (limits : LimitsValue) (list : List ℕ) (full : Bool) (s : State) (o : Option Instr) → comes_to words limits list full s o ≡ None → s.taken ≤ length list →
    (ran list (instr_or_halt o).op s (instr_or_halt o)).taken ≤ length list
ran_within words limits list full s None h within = cc
ran_within words limits list full s (Some i) h within =
    op_within i.op s list (lives words limits list full s i (no_end (end_before words limits list full s i) (step_wanted i.op s i) h).0).numbers within

waiting_or_within : (words : ℕ) (limits : LimitsValue) (list : List ℕ) (full : Bool) (s : State) (o : Option Instr) (t : Option Want) → comes_to words limits list full s o ≡ t → s.taken ≤ length list →
    (next : State) → ((ran list (instr_or_halt o).op s (instr_or_halt o)).taken ≤ length list → next.taken ≤ length list) → (waiting_or s o t next).taken ≤ length list
waiting_or_within words limits list full s o None h within next f = f (ran_within words limits list full s o h within)
waiting_or_within words limits list full s o (Some wanted) h within next f = within

run_local_within : (n : ℕ) (code : List Instr) (words : ℕ) (limits : LimitsValue) (list : List ℕ) (full : Bool) (s : State) → s.taken ≤ length list → (run_local n code words limits list full s).taken ≤ length list
unfolding run_local
run_local_within zero code words limits list full s within = within
run_local_within (suc n) code words limits list full s within =
    waiting_or_within words limits list full s (slice_get code s.place) (comes_to words limits list full s (slice_get code s.place)) refl within _
    (λ h. run_local_within n code words limits list full _ h)

run_on_within : (code : List Instr) (words : ℕ) (limits : LimitsValue) (list : List ℕ) (full : Bool) (s : State) → s.taken ≤ length list → (run_on code words limits list full s).taken ≤ length list
unfolding run_on
run_on_within code words limits list full s within = run_local_within _ code words limits list full s within

resumed_within : (p : ProgramValue) (limits : LimitsValue) (list : List ℕ) (full : Bool) (s : State) (e : Option Expected) → s.taken ≤ length list → (resumed p limits list full s e).taken ≤ length list
resumed_within p limits list full s None within = run_on_within (code_of p s.thread) (length p.words) limits list full s within
resumed_within p limits list full s (Some e) within = within

settled_within : (p : ProgramValue) (limits : LimitsValue) (list : List ℕ) (full : Bool) (s : State) → s.taken ≤ length list → (settled p limits list full s).taken ≤ length list
settled_within p limits list full s within = by_pending s.pending refl
  where
    P : State → Type 0
    P n = n.taken ≤ length list

    by_pending : (o : Option Want) → s.pending ≡ o → (settled p limits list full s).taken ≤ length list
    by_pending None h = subst P (sym (settled-none p limits list full s s.expected h refl)) (resumed_within p limits list full s s.expected within)
    by_pending (Some w) h = subst P (sym (settled-some p limits list full s w h)) within

state_from_within : (p : ProgramValue) (limits : LimitsValue) (list : List ℕ) (earlier : List Step) (s : State) (steps : List Step) → s.taken ≤ length list → (state_from p limits list earlier s steps).taken ≤ length list
state_from_within p limits list earlier s [] within = settled_within p limits list (is_full limits.entries earlier) s within
state_from_within p limits list earlier s (step ∷ steps) within =
    let here = settled p limits list (is_full limits.entries earlier) s in
    let a = settled_within p limits list (is_full limits.entries earlier) s within in
    let b = (took_takes here step.found).taken in
    state_from_within p limits list (earlier ++ step ∷ []) (took here step.found) steps (omega (arith, a, b))

-- no more numbers are taken than there are
pub taken_within : (p : ProgramValue) (limits : LimitsValue) (inputs : InputsValue) (t : ℕ) (steps : List Step) → (state_after p limits inputs t steps).taken ≤ length (inputs_of inputs t)
taken_within p limits inputs t steps = state_from_within p limits (inputs_of inputs t) [] (first_state t) steps (omega arith)
