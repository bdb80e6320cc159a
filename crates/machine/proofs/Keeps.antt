-- What holds of every state that a thread comes to.
use Rattle.std.proofs.Common.{◌≡◌, ℕ, zero, suc, ◌+◌, ◌<◌, ◌≤◌, Bool, true, false, cond, ◌&&◌, ◌||◌, not, leb, ltb, List, length, refl, ◌∙◌, subst, arith}
use Rattle.std.specs.Prelude.{slice_get, slice_index, Option, Some, None}
use Rattle.std.proofs.lemmas.Bool.{leb-false, ltb-true, ltb-false, eqb-true}
use Rattle.std.proofs.lemmas.List.{length_push, length-set}
use Rattle.std.proofs.lemmas.List.Elements.{All-get_or}
use Rattle.std.proofs.lemmas.Option.{slice_get_within, get_or_from_slice_get}
use Rattle.replay_model.specs.declared.Want.{Want}
use Rattle.machine.specs.declared.cores.Expected.{Expected}
use Rattle.machine.specs.declared.program.Instr.{Instr}
use Rattle.machine.specs.declared.program.Op.{Op}
use Rattle.machine.specs.declared.program.Op.TheVariants as op
use Rattle.machine.specs.Programs.{LimitsValue, AreLimits, IsInstr, IsCode, is_register, is_idle, uses_a, uses_b, uses_c, jumps}
use Rattle.machine.specs.Cores.{State, IsState, HasRoom, HasRest, most_outputs, is_out, is_input, end_before, step_wanted, comes_to, computed, is_taken, output_after, taken_after, registers_with, ran, instr_or_halt, waiting, waiting_or, run_local, run_on}
use Rattle.machine.specs.Inputs.{most_inputs}
use Rattle.machine.specs.Turns.{NamesRegisters}
use Rattle.machine.proofs.Local.{no_end, lives}
use Rattle.machine.proofs.Rests.{comes-taken, comes-past}

-- each instruction of a code keeps the rules
pub instr_at : (code : List Instr) (place : ℕ) (i : Instr) → IsCode code → slice_get code place ≡ Some i → IsInstr (length code) i
instr_at code place i rules at =
    let P : Instr → Type 0 = λ j. IsInstr (length code) j in
    subst P (get_or_from_slice_get code place i i at) (All-get_or (IsInstr (length code)) code place i (slice_get_within code place i at) rules.each)

-- what holds with more holds
and_first : (a b : Bool) → (a && b) ≡ true → a ≡ true
and_first true b h = refl
and_first false b h = h

-- a field that is used is a register's number, and one that is not is 0
field_below : (used : Bool) (r : ℕ) → is_register used r ≡ true → is_idle used r ≡ true → r < 16
field_below true r h i = ltb-true r 16 h
field_below false r h i = let e = eqb-true r 0 i in omega (arith, e)

and_second : (a b : Bool) → (a && b) ≡ true → b ≡ true
and_second true b h = h
and_second false b h = cc

-- so each field is the number of a register
pub names_registers : (len : ℕ) (i : Instr) → IsInstr len i → NamesRegisters i
names_registers len i rules =
    let r = rules.registers in
    let n = rules.idle in
    let ab = and_first _ _ r in
    let abc = and_first _ _ n in
    let two = and_first _ _ abc in
    record {
      a = field_below (uses_a i.op) i.a (and_first _ _ ab) (and_first _ _ two);
      b = field_below (uses_b i.op) i.b (and_second (is_register (uses_a i.op) i.a) _ ab) (and_second (is_idle (uses_a i.op) i.a) _ two);
      c = field_below (uses_c i.op) i.c (and_second (is_register (uses_a i.op) i.a && is_register (uses_b i.op) i.b) _ r) (and_second (is_idle (uses_a i.op) i.a && is_idle (uses_b i.op) i.b) _ abc);
    }

-- with nothing pending there is nothing to leave room for
no_room : (o : Option Want) (s : State) → o ≡ None → HasRoom o s
no_room None s h = tt
no_room (Some w) s h = cc

-- a jump stays within the code
target_within : (len imm : ℕ) (b : Bool) → ltb len imm ≡ b → not b ≡ true → imm ≤ len
target_within len imm true e h = cc
target_within len imm false e h = ltb-false len imm e

-- nor is there where no compare-exchange is left
no_rest : (o : Option Expected) (s : State) → o ≡ None → HasRest o s
no_rest None s h = tt
no_rest (Some e) s h = cc

-- a taken jump leads into the code
taken_within : (o : Op) (s : State) (i : Instr) (len : ℕ) → (not (jumps o) || not (ltb len i.imm)) ≡ true → is_taken o s i ≡ true → i.imm ≤ len
taken_within op.Jmp s i len target taken = target_within len i.imm (ltb len i.imm) refl target
taken_within op.Jeq s i len target taken = target_within len i.imm (ltb len i.imm) refl target
taken_within op.Jne s i len target taken = target_within len i.imm (ltb len i.imm) refl target
taken_within op.Jlt s i len target taken = target_within len i.imm (ltb len i.imm) refl target
taken_within _ s i len target taken = absurd cc

-- one of two numbers that are small enough is
chosen_within : (b : Bool) (x y most : ℕ) → (b ≡ true → x ≤ most) → y ≤ most → cond b x y ≤ most
chosen_within true x y most p q = p refl
chosen_within false x y most p q = q

-- a value for a register leaves sixteen of them
with_length : (registers : List ℕ) (r : ℕ) (value : Option ℕ) → length (registers_with registers r value) ≡ length registers
with_length registers r None = refl
with_length registers r (Some value) = length-set registers r value

-- what is put out has room
output_within : (o : Op) (s : State) (i : Instr) → (is_out o && leb most_outputs (length s.output)) ≡ false → length s.output ≤ most_outputs → length (output_after o s i) ≤ most_outputs
output_within op.Out s i room most =
    let more = length_push s.output (slice_index s.registers i.a) in
    let left = leb-false most_outputs (length s.output) room in
    omega arith
output_within _ s i room most = most

-- what is taken is one of the numbers of a short list
taken_within_list : (o : Op) (s : State) (inputs : List ℕ) → (is_input o && leb (length inputs) s.taken) ≡ false → length inputs ≤ most_inputs → s.taken ≤ most_inputs → taken_after o s ≤ most_inputs
taken_within_list op.Input s inputs room short most = let left = leb-false (length inputs) s.taken room in omega arith
taken_within_list _ s inputs room short most = most

-- a local instruction that the code has keeps what holds of a state
ran_state : (inputs : List ℕ) (o : Op) (s : State) (i : Instr) (len : ℕ) → length inputs ≤ most_inputs → s.place < len → len ≤ 4096 → s.instr < 1073741824 → s.pending ≡ None → s.expected ≡ None →
    (not (jumps o) || not (ltb len i.imm)) ≡ true → (is_out o && leb most_outputs (length s.output)) ≡ false → (is_input o && leb (length inputs) s.taken) ≡ false → IsState s → IsState (ran inputs o s i)
ran_state inputs o s i len list place short instr none fresh target room numbers state = record {
  thread = state.thread;
  registers = with_length s.registers i.a (computed inputs o s i) ∙ state.registers;
  place = chosen_within (is_taken o s i) i.imm (s.place + 1) 4096 (λ taken. let l = taken_within o s i len target taken in omega arith) (omega arith);
  output = output_within o s i room state.output;
  steps = state.steps;
  instr = omega arith;
  taken = taken_within_list o s inputs numbers list state.taken;
  room = no_room s.pending _ none;
  rest = no_rest s.expected _ fresh;
}

-- a local instruction at the place of a state keeps what holds of it
pub ran-is_state : (code : List Instr) (words : ℕ) (limits : LimitsValue) (inputs : List ℕ) (full : Bool) (s : State) (o : Option Instr) → IsCode code → AreLimits limits → length inputs ≤ most_inputs → slice_get code s.place ≡ o → comes_to words limits inputs full s o ≡ None →
    s.pending ≡ None → s.expected ≡ None → IsState s → IsState (ran inputs (instr_or_halt o).op s (instr_or_halt o))
ran-is_state code words limits inputs full s None rules bounds list at h none fresh state = cc
ran-is_state code words limits inputs full s (Some i) rules bounds list at h none fresh state =
    let l = lives words limits inputs full s i (no_end (end_before words limits inputs full s i) (step_wanted i.op s i) h).0 in
    let g = l.room in
    let b = bounds.instr in
    ran_state inputs i.op s i (length code) list (slice_get_within code s.place i at) rules.short (omega arith) none fresh (instr_at code s.place i rules at).target l.output l.numbers state

-- so does stopping at an instruction
pub waiting-is_state : (code : List Instr) (words : ℕ) (limits : LimitsValue) (inputs : List ℕ) (full : Bool) (s : State) (o : Option Instr) (wanted : Want) → IsCode code → AreLimits limits → slice_get code s.place ≡ o →
    comes_to words limits inputs full s o ≡ Some wanted → s.expected ≡ None → IsState s → IsState (waiting s o wanted)
waiting-is_state code words limits inputs full s None wanted rules bounds at h fresh state = record {
  thread = state.thread;
  registers = state.registers;
  place = state.place;
  output = state.output;
  steps = state.steps;
  instr = state.instr;
  taken = state.taken;
  room = λ lives. let e = comes-past words limits inputs full s wanted h in cc;
  rest = no_rest s.expected _ fresh;
}
waiting-is_state code words limits inputs full s (Some i) wanted rules bounds at h fresh state = record {
  thread = state.thread;
  registers = state.registers;
  place = state.place;
  output = state.output;
  steps = state.steps;
  instr = state.instr;
  taken = state.taken;
  room = λ lives.
      let t = comes-taken words limits inputs full s i wanted h lives in
      let r = t.steps in let n = t.instr in let b = bounds.steps in let m = bounds.instr in
      let l = slice_get_within code s.place i at in let k = rules.short in
      let f = names_registers (length code) i (instr_at code s.place i rules at) in
      (omega arith, omega arith, omega arith, f.a, f.c);
  rest = no_rest s.expected _ fresh;
}

-- either of the two does
waiting_or-is_state : (code : List Instr) (words : ℕ) (limits : LimitsValue) (inputs : List ℕ) (full : Bool) (s : State) (o : Option Instr) (t : Option Want) → IsCode code → AreLimits limits → slice_get code s.place ≡ o →
    comes_to words limits inputs full s o ≡ t → s.expected ≡ None → IsState s → (next : State) → (comes_to words limits inputs full s o ≡ None → IsState next) → IsState (waiting_or s o t next)
waiting_or-is_state code words limits inputs full s o None rules bounds at h fresh state next f = f h
waiting_or-is_state code words limits inputs full s o (Some wanted) rules bounds at h fresh state next f = waiting-is_state code words limits inputs full s o wanted rules bounds at h fresh state

-- so do many local instructions
run_local-is_state : (n : ℕ) (code : List Instr) (words : ℕ) (limits : LimitsValue) (inputs : List ℕ) (full : Bool) (s : State) → IsCode code → AreLimits limits → length inputs ≤ most_inputs → s.pending ≡ None → s.expected ≡ None → IsState s →
    IsState (run_local n code words limits inputs full s)
unfolding run_local
run_local-is_state zero code words limits inputs full s rules bounds list none fresh state = state
run_local-is_state (suc n) code words limits inputs full s rules bounds list none fresh state =
    let o = slice_get code s.place in
    let i = instr_or_halt o in
    waiting_or-is_state code words limits inputs full s o (comes_to words limits inputs full s o) rules bounds refl refl fresh state _
    (λ h. run_local-is_state n code words limits inputs full (ran inputs i.op s i) rules bounds list none fresh (ran-is_state code words limits inputs full s o rules bounds list refl h none fresh state))

-- a run from a state with nothing pending keeps what holds of a state
pub run_on-is_state : (code : List Instr) (words : ℕ) (limits : LimitsValue) (inputs : List ℕ) (full : Bool) (s : State) → IsCode code → AreLimits limits → length inputs ≤ most_inputs → s.pending ≡ None → s.expected ≡ None → IsState s →
    IsState (run_on code words limits inputs full s)
unfolding run_on
run_on-is_state code words limits inputs full s rules bounds list none fresh state = run_local-is_state _ code words limits inputs full s rules bounds list none fresh state
