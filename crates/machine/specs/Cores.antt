-- One thread: its state, its local instructions, its ends, and what a memory step does to it.
use Rattle.std.specs.Prelude.{◌≡◌, ℕ, zero, suc, ◌+◌, ◌-◌, ◌*◌, ◌/◌, ◌%◌, ◌^◌, ◌<◌, ◌≤◌, Bool, true, false, not, ◌&&◌, ◌==◌, nat_lt, nat_le, bit_and, bit_or, bit_xor, if◌then◌else◌, Option, None, Some, List, [], ◌∷◌, ◌++◌, length, slice_get, slice_index, slice_set, replicate}
use Rattle.light_base.specs.declared.tag.Cell.{Cell}
use Rattle.light_base.specs.declared.tag.Tag.{Tag}
use Rattle.replay_model.specs.declared.Want.{Want}
use Rattle.replay_model.specs.declared.End.{End}
use Rattle.replay_model.specs.Steps.{has_ended, same_tag}
use Rattle.replay_model.specs.declared.Want.TheVariants as want
use Rattle.replay_model.specs.declared.End.TheVariants as end
use Rattle.machine.specs.declared.cores.Expected.{Expected}
use Rattle.machine.specs.declared.program.Instr.{Instr}
use Rattle.machine.specs.declared.program.Op.{Op}
use Rattle.machine.specs.Programs.{ProgramValue, LimitsValue, code_of, most_steps, most_instr}
use Rattle.machine.specs.Inputs.{most_inputs}
use Rattle.machine.specs.declared.program.Op.TheVariants as op

-- what a thread is and has done: taken is how many numbers of its input list it has taken, pending is the memory step or end that it has come to,
-- doing the instruction that wants it, and expected, between the two steps of a compare-exchange, the word and the tag that its load saw
pub record State : Type 0 where
  pub thread : ℕ
  pub registers : List ℕ
  pub place : ℕ
  pub output : List ℕ
  pub steps : ℕ
  pub instr : ℕ
  pub taken : ℕ
  pub doing : Instr
  pub expected : Option Expected
  pub pending : Option Want

-- how a thread ended, and what it did; taken is how many input numbers it took
pub record Report : Type 0 where
  pub end : End
  pub steps : ℕ
  pub instr : ℕ
  pub output : List ℕ
  pub taken : ℕ

-- the most values that a thread puts out
abbrev pub most_outputs : ℕ
most_outputs = 65536

abbrev pub halt : Instr
halt = record { op = op.Halt; a = 0; b = 0; c = 0; imm = 0 }

-- the start of a thread
abbrev pub first_state : ℕ → State
first_state t = record {
  thread = t;
  registers = replicate 16 0;
  place = 0;
  output = [];
  steps = 0;
  instr = 0;
  taken = 0;
  doing = halt;
  expected = None;
  pending = None;
}

abbrev pub register : State → ℕ → ℕ
register s r = slice_index s.registers r

-- where a memory instruction goes
abbrev pub address_of : State → Instr → ℕ
address_of s i = (register s i.b + i.imm) % 2 ^ 32

-- the operations that take memory steps
abbrev pub is_memory : Op → Bool
is_memory op.Load = true
is_memory op.Store = true
is_memory op.Xchg = true
is_memory op.Cas = true
is_memory _ = false

-- those that only compute, or jump
abbrev pub computes : Op → Bool
computes op.Halt = false
computes op.Out = false
computes op.Load = false
computes op.Store = false
computes op.Xchg = false
computes op.Cas = false
computes op.Input = false
computes _ = true

-- those whose first memory step reads
abbrev pub is_reading : Op → Bool
is_reading op.Load = true
is_reading op.Xchg = true
is_reading op.Cas = true
is_reading _ = false

abbrev pub is_halt : Op → Bool
is_halt op.Halt = true
is_halt _ = false

abbrev pub is_out : Op → Bool
is_out op.Out = true
is_out _ = false

abbrev pub is_input : Op → Bool
is_input op.Input = true
is_input _ = false

abbrev pub is_cas : Op → Bool
is_cas op.Cas = true
is_cas _ = false

-- the end that comes before this instruction, if one does: the ends are looked at in this order; inputs is the thread's input list, and full says
-- that its log has as many entries as it may have
abbrev pub end_before : ℕ → LimitsValue → List ℕ → Bool → State → Instr → Option End
end_before words limits inputs full s i =
    if is_halt i.op then Some end.Halted
    else if nat_le limits.instr s.instr then Some end.InstrSpent
    else if is_memory i.op && nat_le words (address_of s i) then Some (end.BadAddress (address_of s i))
    else if is_memory i.op && nat_le limits.steps s.steps then Some end.StepsSpent
    else if is_reading i.op && full then Some end.EntriesFull
    else if is_out i.op && nat_le most_outputs (length s.output) then Some end.OutputFull
    else if is_input i.op && nat_le (length inputs) s.taken then Some end.InputEmpty
    else None

-- the first memory step that an instruction wants; a local one wants none
abbrev pub step_wanted : Op → State → Instr → Option Want
step_wanted op.Load s i = Some (want.Load (address_of s i))
step_wanted op.Store s i = Some (want.Store (address_of s i) (register s i.a))
step_wanted op.Xchg s i = Some (want.Swap (address_of s i) (register s i.a))
step_wanted op.Cas s i = Some (want.Load (address_of s i))
step_wanted _ s i = None

abbrev pub ended_or : Option End → Option Want → Option Want
ended_or None wanted = wanted
ended_or (Some e) wanted = Some (want.Ended e)

-- what the thread comes to at this instruction: an end, a memory step, or nothing where the instruction is local; past its code it halts
abbrev pub comes_to : ℕ → LimitsValue → List ℕ → Bool → State → Option Instr → Option Want
comes_to words limits inputs full s None = Some (want.Ended end.Halted)
comes_to words limits inputs full s (Some i) = ended_or (end_before words limits inputs full s i) (step_wanted i.op s i)

-- the value that register a becomes, where an operation gives it one: `in` gives the next number of the input list
abbrev pub computed : List ℕ → Op → State → Instr → Option ℕ
computed inputs op.Const s i = Some i.imm
computed inputs op.Mov s i = Some (register s i.b)
computed inputs op.Add s i = Some ((register s i.b + register s i.c) % 2 ^ 32)
computed inputs op.Sub s i = Some ((register s i.b + (2 ^ 32 - register s i.c)) % 2 ^ 32)
computed inputs op.Mul s i = Some ((register s i.b * register s i.c) % 2 ^ 32)
computed inputs op.And s i = Some (bit_and (register s i.b) (register s i.c))
computed inputs op.Or s i = Some (bit_or (register s i.b) (register s i.c))
computed inputs op.Xor s i = Some (bit_xor (register s i.b) (register s i.c))
computed inputs op.Shl s i = Some ((register s i.b * 2 ^ (register s i.c % 32)) % 2 ^ 32)
computed inputs op.Shr s i = Some (register s i.b / 2 ^ (register s i.c % 32))
computed inputs op.Addi s i = Some ((register s i.b + i.imm) % 2 ^ 32)
computed inputs op.Input s i = Some (slice_index inputs s.taken)
computed inputs _ s i = None

-- whether the operation is a jump that is taken
abbrev pub is_taken : Op → State → Instr → Bool
is_taken op.Jmp s i = true
is_taken op.Jeq s i = register s i.a == register s i.b
is_taken op.Jne s i = not (register s i.a == register s i.b)
is_taken op.Jlt s i = nat_lt (register s i.a) (register s i.b)
is_taken _ s i = false

-- the output with what the operation puts out
abbrev pub output_after : Op → State → Instr → List ℕ
output_after op.Out s i = s.output ++ register s i.a ∷ []
output_after _ s i = s.output

-- how many input numbers have been taken after the operation
abbrev pub taken_after : Op → State → ℕ
taken_after op.Input s = s.taken + 1
taken_after _ s = s.taken

-- the registers with a value for register r, if there is one
abbrev pub registers_with : List ℕ → ℕ → Option ℕ → List ℕ
registers_with registers r None = registers
registers_with registers r (Some value) = slice_set registers r value

-- what a local instruction does
abbrev pub ran : List ℕ → Op → State → Instr → State
ran inputs o s i = record s {
  registers = registers_with s.registers i.a (computed inputs o s i);
  place = if is_taken o s i then i.imm else s.place + 1;
  output = output_after o s i;
  instr = s.instr + 1;
  taken = taken_after o s;
}

abbrev pub instr_or_halt : Option Instr → Instr
instr_or_halt None = halt
instr_or_halt (Some i) = i

-- the thread stands at this instruction, where it has come to this
abbrev pub waiting : State → Option Instr → Want → State
waiting s i wanted = record s { doing = instr_or_halt i; pending = Some wanted }

-- what the thread has come to is pending, or the state follows that its local instruction leads to
abbrev pub waiting_or : State → Option Instr → Option Want → State → State
waiting_or s i (Some wanted) next = waiting s i wanted
waiting_or s i None next = next

-- local instructions are run until a memory step or an end is pending, at most so many of them
unfoldable pub run_local : ℕ → List Instr → ℕ → LimitsValue → List ℕ → Bool → State → State
run_local zero code words limits inputs full s = s
run_local (suc n) code words limits inputs full s =
    let i = slice_get code s.place in
    waiting_or s i (comes_to words limits inputs full s i) (run_local n code words limits inputs full (ran inputs (instr_or_halt i).op s (instr_or_halt i)))

-- each local instruction counts, so no more of them come than the limit leaves
unfoldable pub run_on : List Instr → ℕ → LimitsValue → List ℕ → Bool → State → State
run_on code words limits inputs full s = run_local ((limits.instr - s.instr) + 1) code words limits inputs full s

-- the local instructions of a thread of a program
abbrev pub run_of : ProgramValue → LimitsValue → List ℕ → Bool → State → State
run_of p limits inputs full s = run_on (code_of p s.thread) (length p.words) limits inputs full s

-- the state itself where something is pending, and else the next one
abbrev pub if_none : Option Want → State → State → State
if_none None s next = next
if_none (Some wanted) s next = s

-- what the second step of a compare-exchange is: the conditional write, or the end that comes before it
abbrev pub second_wanted : LimitsValue → Bool → State → Expected → Want
second_wanted limits full s e =
    if nat_le limits.steps s.steps then want.Ended end.StepsSpent
    else if full then want.Ended end.EntriesFull
    else want.Cond e.word e.tag (register s s.doing.c)

-- the thread goes on: within a compare-exchange to its second step, and else by its local instructions
abbrev pub resumed : ProgramValue → LimitsValue → List ℕ → Bool → State → Option Expected → State
resumed p limits inputs full s (Some e) = record s { pending = Some (second_wanted limits full s e) }
resumed p limits inputs full s None = run_of p limits inputs full s

-- the next memory step or end of the thread is pending
unfoldable pub settled : ProgramValue → LimitsValue → List ℕ → Bool → State → State
settled p limits inputs full s = if_none s.pending s (resumed p limits inputs full s s.expected)

-- what is pending
abbrev pub want_or : Want → Option Want → Want
want_or w None = w
want_or w (Some wanted) = wanted

abbrev pub pending_want : State → Want
pending_want s = want_or (want.Ended end.Halted) s.pending

-- the pending memory step was taken, and with it its instruction is done
abbrev pub step_done : State → State
step_done s = record s { place = s.place + 1; steps = s.steps + 1; instr = s.instr + 1; expected = None; pending = None }

-- register r becomes this value
abbrev pub with_register : State → ℕ → ℕ → State
with_register s r value = record s { registers = slice_set s.registers r value }

-- register 15 tells how a compare-exchange went
abbrev pub told : State → ℕ → State
told s how = with_register s 15 how

-- register a becomes the value found
abbrev pub given : State → Cell → State
given s cell = with_register s s.doing.a cell.value

-- the first step of a compare-exchange: another value than that of register a ends the instruction; this value leaves its second step to be taken
abbrev pub compared : State → ℕ → Cell → State
compared s word cell =
    if cell.value == register s s.doing.a then record s { steps = s.steps + 1; expected = Some (record { word = word; tag = cell.tag }); pending = None }
    else step_done (told (given s cell) 0)

-- its second step: it wins where the tag that was seen still stands there
abbrev pub exchanged : State → Tag → Cell → State
exchanged s seen cell = if same_tag cell.tag seen then step_done (told s 1) else step_done (told (given s cell) 2)

-- what the memory step of a compare-exchange does, which is its first one where it loads and its second one where it writes
abbrev pub cas_found : State → Want → Cell → State
cas_found s (want.Load word) cell = compared s word cell
cas_found s (want.Cond word seen value) cell = exchanged s seen cell
cas_found s _ cell = step_done (given s cell)

-- the state after the pending step has found this cell: every other instruction gives it to register a
abbrev pub found : State → Want → Cell → State
found s wanted cell = if is_cas s.doing.op then cas_found s wanted cell else step_done (given s cell)

-- the state after the pending memory step, which found this cell, or none where it reads nothing
abbrev pub took : State → Option Cell → State
took s None = step_done s
took s (Some cell) = found s (pending_want s) cell

-- whether the step only writes
abbrev pub is_store : Want → Bool
is_store (want.Load word) = false
is_store (want.Store word value) = true
is_store (want.Swap word value) = false
is_store (want.Cond word seen value) = false
is_store (want.Ended e) = false

abbrev pub end_of : Want → Option End
end_of (want.Load word) = None
end_of (want.Store word value) = None
end_of (want.Swap word value) = None
end_of (want.Cond word seen value) = None
end_of (want.Ended e) = Some e

abbrev pub end_or_halted : Option End → End
end_or_halted None = end.Halted
end_or_halted (Some e) = e

-- what a thread that has ended reports
abbrev pub report_of : State → Report
report_of s = record { end = end_or_halted (end_of (pending_want s)); steps = s.steps; instr = s.instr; output = s.output; taken = s.taken }

-- a pending memory step leaves room for itself in the counts and in the code, and its instruction names registers
abbrev pub HasRoom : Option Want → State → Type 0
HasRoom None s = Unit {0}
HasRoom (Some wanted) s = has_ended wanted ≡ false → (s.steps < most_steps) × (s.instr < most_instr) × (s.place < 4096) × (s.doing.a < 16) × (s.doing.c < 16)

-- so does a compare-exchange whose second step is left
abbrev pub HasRest : Option Expected → State → Type 0
HasRest None s = Unit {0}
HasRest (Some e) s = (s.instr < most_instr) × (s.place < 4096) × (s.doing.a < 16) × (s.doing.c < 16)

-- what holds of every state that a thread comes to
pub record IsState (s : State) : Type 0 where
  pub thread : s.thread ≤ 14
  pub registers : length s.registers ≡ 16
  pub place : s.place ≤ 4096
  pub output : length s.output ≤ most_outputs
  pub steps : s.steps ≤ most_steps
  pub instr : s.instr ≤ most_instr
  pub taken : s.taken ≤ most_inputs
  pub room : HasRoom s.pending s
  pub rest : HasRest s.expected s
