-- A thread that has run instructions that only compute or jump, and then goes on or stops at a memory step.
use Rattle.std.proofs.Common.{◌≡◌, ℕ, Bool, List, [], length, sym, ◌∙◌, ap, subst, arith}
use Rattle.std.specs.Prelude.{slice_get, Option, Some, None, IfSome}
use Rattle.replay_model.specs.declared.Want.{Want}
use Rattle.machine.specs.declared.courses.Course.{Course}
use Rattle.machine.specs.declared.cores.Expected.{Expected}
use Rattle.machine.specs.declared.program.Instr.{Instr}
use Rattle.machine.specs.Programs.{ProgramValue, LimitsValue, code_of}
use Rattle.machine.specs.Cores.{State, IsState, HasRoom, HasRest, first_state, run_of, run_on}
use Rattle.machine.specs.Turns.{bounds_of, moved, comes_along, run_along, IsCourse}
use Rattle.machine.proofs.Local.{run_on-stop, run_on-entries}

-- the run of a course is that of its program
pub course_runs : (p : ProgramValue) (limits : LimitsValue) (inputs : List ℕ) (full : Bool) (s : State) (c : Course) → IsCourse p limits inputs full s c → (t : State) →
    run_along c t ≡ run_on (code_of p s.thread) (length p.words) limits inputs full t
course_runs p limits inputs full s c is t =
    ap (λ (k : List Instr). run_on k c.words (bounds_of c) c.inputs.now c.full t) is.code ∙
    ap (λ (k : ℕ). run_on (code_of p s.thread) k (bounds_of c) c.inputs.now c.full t) is.words ∙
    ap (λ (k : List ℕ). run_on (code_of p s.thread) (length p.words) (bounds_of c) k c.full t) is.inputs ∙
    ap (λ (k : Bool). run_on (code_of p s.thread) (length p.words) (bounds_of c) inputs k t) is.full ∙
    ap (λ (k : ℕ). run_on (code_of p s.thread) (length p.words) (record { steps = k; instr = c.most_instr; entries = 0 }) inputs full t) is.most_steps ∙
    ap (λ (k : ℕ). run_on (code_of p s.thread) (length p.words) (record { steps = limits.steps; instr = k; entries = 0 }) inputs full t) is.most_instr ∙
    run_on-entries (code_of p s.thread) (length p.words) limits inputs 0 full t

-- what a course leads to, with the number of steps that it was given
pub settles : (p : ProgramValue) (limits : LimitsValue) (inputs : List ℕ) (full : Bool) (s : State) (c : Course) → IsCourse p limits inputs full s c → (final : ℕ → State) →
    run_along c (moved s s.registers s.place s.output c.steps s.instr s.taken) ≡ final c.steps →
    run_along c s ≡ final s.steps
settles p limits inputs full s c is final h = ap (λ (n : ℕ). run_along c (record s { steps = n })) (sym is.steps) ∙ h ∙ ap final is.steps

-- what holds of the value that is there
pub holds_there : {A : Type 0} (o : Option A) (P : A → Type 0) (x : A) → o ≡ Some x → IfSome o P → P x
holds_there {A} o P x e h = subst (λ (q : Option A). IfSome q P) e h

-- with nothing pending, and no compare-exchange left, there is nothing to leave room for
no_room : (o : Option Want) (s : State) → o ≡ None → HasRoom o s
no_room None s h = tt
no_room (Some w) s h = cc

no_rest : (o : Option Expected) (s : State) → o ≡ None → HasRest o s
no_rest None s h = tt
no_rest (Some e) s h = cc

-- what holds of a state where a thread begins to walk
pub walks_from : (s : State) → IsState s → IsState (moved (first_state 0) s.registers s.place [] 0 s.instr 0)
walks_from s state = record {
  thread = omega arith;
  registers = state.registers;
  place = state.place;
  output = omega arith;
  steps = omega arith;
  instr = state.instr;
  taken = omega arith;
  room = tt;
  rest = tt;
}

-- and where it has walked to
pub walks_to : (s : State) (registers : List ℕ) (place instr : ℕ) → s.pending ≡ None → s.expected ≡ None → IsState s → IsState (moved (first_state 0) registers place [] 0 instr 0) → IsState (record s { registers = registers; place = place; instr = instr })
walks_to s registers place instr none fresh state there = record {
  thread = state.thread;
  registers = there.registers;
  place = there.place;
  output = state.output;
  steps = state.steps;
  instr = there.instr;
  taken = state.taken;
  room = no_room s.pending _ none;
  rest = no_rest s.expected _ fresh;
}

module _ (p : ProgramValue) (limits : LimitsValue) (inputs : List ℕ) (full : Bool) (c : Course) (registers : List ℕ) (place instr : ℕ) where
  -- where a course goes along to
  abbrev pub GoesTo : State → Type 0
  GoesTo s = (t : State) (output : List ℕ) (taken : ℕ) → run_along c (moved t s.registers s.place output c.steps s.instr taken) ≡
      run_along c (moved t registers place output c.steps instr taken)

  abbrev run : State → State
  run t = run_along c t

  along : (s : State) → IsCourse p limits inputs full s c → GoesTo s → run s ≡ run (record s { registers = registers; place = place; instr = instr })
  along s is goes =
      ap (λ (n : ℕ). run (record s { steps = n })) (sym is.steps) ∙ goes s s.output s.taken ∙ ap (λ (n : ℕ). run (record s { registers = registers; place = place; instr = instr; steps = n })) is.steps

  -- the run goes on from there
  pub walked : (s now : State) → s ≡ now → IsCourse p limits inputs full s c → GoesTo s →
      run_of p limits inputs full now ≡ run_on (code_of p s.thread) (length p.words) limits inputs full (record s { registers = registers; place = place; instr = instr })
  walked s now same is goes =
      let P : State → Type 0 = λ n. run_of p limits inputs full n ≡ run_on (code_of p s.thread) (length p.words) limits inputs full (record s { registers = registers; place = place; instr = instr }) in
      subst P same (sym (course_runs p limits inputs full s c is s) ∙ along s is goes ∙ course_runs p limits inputs full s c is (record s { registers = registers; place = place; instr = instr }))

-- the run of a course stops at a memory step
pub stops : (p : ProgramValue) (limits : LimitsValue) (inputs : List ℕ) (full : Bool) (s : State) (c : Course) → IsCourse p limits inputs full s c → (i : Instr) (wanted : Want) → slice_get c.code.now s.place ≡ Some i →
    comes_along c (record s { steps = c.steps }) (Some i) ≡ Some wanted → run_along c s ≡ record s { doing = i; pending = Some wanted }
stops p limits inputs full s c is i wanted at comes =
    let P : ℕ → Type 0 = λ n. comes_along c (record s { steps = n }) (Some i) ≡ Some wanted in
    run_on-stop c.code.now c.words (bounds_of c) c.inputs.now c.full s (Some i) wanted at (subst P is.steps comes)

-- so does that of its program
pub stopped : (p : ProgramValue) (limits : LimitsValue) (inputs : List ℕ) (full : Bool) (s : State) (c : Course) → IsCourse p limits inputs full s c → (i : Instr) (wanted : Want) → slice_get c.code.now s.place ≡ Some i →
    comes_along c (record s { steps = c.steps }) (Some i) ≡ Some wanted → run_on (code_of p s.thread) (length p.words) limits inputs full s ≡ record s { doing = i; pending = Some wanted }
stopped p limits inputs full s c is i wanted at comes = sym (course_runs p limits inputs full s c is s) ∙ stops p limits inputs full s c is i wanted at comes

-- the instruction at a place of one course of a thread is that of another
pub same_code : (p : ProgramValue) (limits : LimitsValue) (inputs : List ℕ) (full : Bool) (s t : State) (c d : Course) → IsCourse p limits inputs full s c → IsCourse p limits inputs full t d → s.thread ≡ t.thread → (place : ℕ) (i : Option Instr) →
    slice_get c.code.now place ≡ i → slice_get d.code.now place ≡ i
same_code p limits inputs full s t c d is too e place i at = ap (λ (k : List Instr). slice_get k place) (too.code ∙ ap (code_of p) (sym e) ∙ sym is.code) ∙ at
