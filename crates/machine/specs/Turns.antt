-- What one instruction does, apart from what it leaves alone.
use Rattle.std.specs.Prelude.{◌≡◌, ℕ, ◌+◌, ◌<◌, ◌≤◌, Bool, true, false, Option, Some, None, List, length, slice_get}
use Rattle.replay_model.specs.declared.Want.{Want}
use Rattle.machine.specs.declared.program.Instr.{Instr}
use Rattle.machine.specs.declared.courses.Course.{Course}
use Rattle.machine.specs.declared.local_instr.Local.{Local}
use Rattle.machine.specs.declared.local_instr.Local.TheVariants as local
use Rattle.machine.specs.declared.courses.Rest.{Rest}
use Rattle.machine.specs.declared.courses.Turn.{Turn}
use Rattle.machine.specs.declared.courses.Turn.TheVariants as turn
use Rattle.machine.specs.declared.courses.Way.{Way}
use Rattle.machine.specs.Programs.{ProgramValue, LimitsValue, AreLimits, IsCode, code_of}
use Rattle.machine.specs.Cores.{State, comes_to, computes, is_memory, ran, run_on, settled}

-- the limits that bound a course; how many entries a log may have is settled before it
abbrev pub bounds_of : Course → LimitsValue
bounds_of c = record { steps = c.most_steps; instr = c.most_instr; entries = 0 }

-- a state with these parts, and all else as in s
abbrev pub moved : State → List ℕ → ℕ → List ℕ → ℕ → ℕ → ℕ → State
moved s registers place output steps instr taken = record s {
  registers = registers;
  place = place;
  output = output;
  steps = steps;
  instr = instr;
  taken = taken;
}

-- the same, stopped at a place with something pending
abbrev pub rested : State → List ℕ → List ℕ → ℕ → Rest → State
rested s registers output steps rest = record s {
  registers = registers;
  place = rest.place;
  output = output;
  steps = steps;
  instr = rest.instr;
  taken = rest.taken;
  doing = rest.doing;
  pending = Some rest.wanted;
}

-- each field is the number of a register
pub record NamesRegisters (i : Instr) : Type 0 where
  pub a : i.a < 16
  pub b : i.b < 16
  pub c : i.c < 16

-- an instruction that only computes or jumps led to a place and to these registers; another one is a memory step or not, and changes nothing
abbrev pub Computed : Instr → List ℕ → ℕ → Local → List ℕ → Type 0
Computed i old place (local.Next next) new =
    (computes i.op ≡ true) ×
    ((s : State) (inputs output : List ℕ) (steps instr taken : ℕ) →
    ran inputs i.op (moved s old place output steps instr taken) i ≡ moved s new next output steps (instr + 1) taken)
Computed i old place local.Memory new = (computes i.op ≡ false) × (is_memory i.op ≡ true) × (new ≡ old)
Computed i old place local.Other new = (computes i.op ≡ false) × (is_memory i.op ≡ false) × (new ≡ old)

-- the thread stops at an instruction, or has run it and gone to the next place
abbrev pub Turns : ℕ → LimitsValue → List ℕ → Bool → Instr → State → Turn → List ℕ → List ℕ → ℕ → Type 0
Turns words limits inputs full i old (turn.Stop wanted) registers output taken =
    (comes_to words limits inputs full old (Some i) ≡ Some wanted) × (registers ≡ old.registers) × (output ≡ old.output) × (taken ≡ old.taken)
Turns words limits inputs full i old (turn.Next place) registers output taken =
    (comes_to words limits inputs full old (Some i) ≡ None) ×
    (ran inputs i.op old i ≡ record old { registers = registers; place = place; output = output; instr = old.instr + 1; taken = taken })

-- where a thread that runs this course comes to from a state
abbrev pub run_along : Course → State → State
run_along c s = run_on c.code.now c.words (bounds_of c) c.inputs.now c.full s

-- what it comes to at an instruction
abbrev pub comes_along : Course → State → Option Instr → Option Want
comes_along c s i = comes_to c.words (bounds_of c) c.inputs.now c.full s i

-- it stops at an instruction, or has run it and gone to the next place
abbrev pub TurnsAlong : Course → Instr → State → Turn → List ℕ → List ℕ → ℕ → Type 0
TurnsAlong c i old turn registers output taken = Turns c.words (bounds_of c) c.inputs.now c.full i old turn registers output taken

-- it puts out a value before it stops
abbrev pub PutsOut : Course → State → Type 0
PutsOut c s = length s.output < length (run_along c s).output

-- from this place on the course leads to where it led from the place before, whatever else the thread has done
abbrev pub LeadsOn : Course → List ℕ → ℕ → ℕ → List ℕ → Way → Type 0
LeadsOn c old place instr new way = (s : State) (output : List ℕ) (taken : ℕ) →
    run_along c (moved s old place output c.steps instr taken) ≡ run_along c (moved s new way.place output c.steps way.instr taken)

-- the way ends before this instruction, which takes a memory step and which the limit still allows
abbrev pub IsAtMemory : Course → Way → Instr → Type 0
IsAtMemory c way i = (slice_get c.code.now way.place ≡ Some i) × (is_memory i.op ≡ true) × (way.instr < c.most_instr)

-- with these registers, and wherever the limit leaves an instruction, this is wanted at this one
abbrev pub Wants : Course → List ℕ → Instr → Want → Type 0
Wants c registers i wanted = (s : State) (place instr taken : ℕ) (output : List ℕ) → instr < c.most_instr →
    comes_along c (moved s registers place output c.steps instr taken) (Some i) ≡ Some wanted

-- the course of a thread of a program
pub record IsCourse (p : ProgramValue) (limits : LimitsValue) (list : List ℕ) (ends : Bool) (s : State) (c : Course) : Type 0 where
  pub code : c.code.now ≡ code_of p s.thread
  pub inputs : c.inputs.now ≡ list
  pub words : c.words ≡ length p.words
  pub steps : c.steps ≡ s.steps
  pub full : c.full ≡ ends
  pub most_steps : c.most_steps ≡ limits.steps
  pub most_instr : c.most_instr ≡ limits.instr
  pub rules : IsCode c.code.now
  pub bounds : AreLimits (bounds_of c)
  pub few : c.words ≤ 4096

-- some of the instructions up to the next memory step or end were run, and the thread goes on from there
pub record IsUnderWay (p : ProgramValue) (limits : LimitsValue) (inputs : List ℕ) (full : Bool) (old new : State) : Type 0 where
  pub leads : settled p limits inputs full new ≡ settled p limits inputs full old
  pub rest : old ≡ record new { registers = old.registers; place = old.place; instr = old.instr }
