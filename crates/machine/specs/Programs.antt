-- Programs, and the rules that they keep.
use Rattle.std.specs.Prelude.{◌≡◌, ℕ, ◌≤◌, Bool, true, false, ◌&&◌, ◌||◌, ◌==◌, not, nat_lt, Option, List, [], ◌∷◌, length, slice_get, slice_index_or, map, All}
use Rattle.std.specs.Global.{Vec}
use Rattle.replay_model.specs.Bounds.{most_entries}
pub use Rattle.replay_model.specs.Logs.{Limits}
pub use Rattle.machine.specs.declared.program.Instr.{Instr}
pub use Rattle.machine.specs.declared.program.Op.{Op}
use Rattle.machine.specs.declared.program.Op.TheVariants as op

-- a program: the initial values of its words, and the code of each thread
pub record ProgramValue : Type 0 where
  pub words : List ℕ
  pub threads : List (List Instr)

-- the most memory steps, instructions and log entries of a thread
abbrev pub LimitsValue : Type 0
LimitsValue = Limits

-- the most memory steps that limits may allow, and the most instructions
abbrev pub most_steps : ℕ
most_steps = 268435455

abbrev pub most_instr : ℕ
most_instr = 1073741824

abbrev pub limits_of : ℕ → ℕ → ℕ → LimitsValue
limits_of steps instr entries = record { steps = steps; instr = instr; entries = entries }

-- the rules of limits
pub record AreLimits (limits : LimitsValue) : Type 0 where
  pub steps : limits.steps ≤ most_steps
  pub instr : limits.instr ≤ most_instr
  pub entries : limits.entries ≤ most_entries

-- the number of an operation in an image
abbrev pub code_of_op : Op → ℕ
code_of_op op.Halt = 0
code_of_op op.Const = 1
code_of_op op.Mov = 2
code_of_op op.Add = 3
code_of_op op.Sub = 4
code_of_op op.Mul = 5
code_of_op op.And = 6
code_of_op op.Or = 7
code_of_op op.Xor = 8
code_of_op op.Shl = 9
code_of_op op.Shr = 10
code_of_op op.Addi = 11
code_of_op op.Jmp = 12
code_of_op op.Jeq = 13
code_of_op op.Jne = 14
code_of_op op.Jlt = 15
code_of_op op.Out = 16
code_of_op op.Load = 17
code_of_op op.Store = 18
code_of_op op.Xchg = 19
code_of_op op.Cas = 20
code_of_op op.Input = 21

-- every operation, in the order of their numbers
abbrev pub every_op : List Op
every_op =
    op.Halt ∷ op.Const ∷ op.Mov ∷ op.Add ∷ op.Sub ∷ op.Mul ∷ op.And ∷ op.Or ∷ op.Xor ∷ op.Shl ∷ op.Shr ∷ op.Addi ∷ op.Jmp ∷
    op.Jeq ∷ op.Jne ∷ op.Jlt ∷ op.Out ∷ op.Load ∷ op.Store ∷ op.Xchg ∷ op.Cas ∷ op.Input ∷ []

-- the operation with this number, if there is one
abbrev pub op_of : ℕ → Option Op
op_of n = slice_get every_op n

-- the operations that use field a
abbrev pub uses_a : Op → Bool
uses_a op.Halt = false
uses_a op.Jmp = false
uses_a _ = true

abbrev pub uses_b : Op → Bool
uses_b op.Halt = false
uses_b op.Const = false
uses_b op.Jmp = false
uses_b op.Out = false
uses_b op.Input = false
uses_b _ = true

abbrev pub uses_c : Op → Bool
uses_c op.Add = true
uses_c op.Sub = true
uses_c op.Mul = true
uses_c op.And = true
uses_c op.Or = true
uses_c op.Xor = true
uses_c op.Shl = true
uses_c op.Shr = true
uses_c op.Cas = true
uses_c _ = false

-- the operations whose imm is a place in the code
abbrev pub jumps : Op → Bool
jumps op.Jmp = true
jumps op.Jeq = true
jumps op.Jne = true
jumps op.Jlt = true
jumps _ = false

abbrev pub uses_imm : Op → Bool
uses_imm op.Const = true
uses_imm op.Addi = true
uses_imm op.Load = true
uses_imm op.Store = true
uses_imm op.Xchg = true
uses_imm op.Cas = true
uses_imm o = jumps o

-- a field that is used has a register's number
abbrev pub is_register : Bool → ℕ → Bool
is_register used r = not used || nat_lt r 16

-- a field that is not used is 0
abbrev pub is_idle : Bool → ℕ → Bool
is_idle used n = used || (n == 0)

abbrev pub has_registers : Instr → Bool
has_registers i = is_register (uses_a i.op) i.a && is_register (uses_b i.op) i.b && is_register (uses_c i.op) i.c

abbrev pub has_idle_zero : Instr → Bool
has_idle_zero i = is_idle (uses_a i.op) i.a && is_idle (uses_b i.op) i.b && is_idle (uses_c i.op) i.c && is_idle (uses_imm i.op) i.imm

-- a jump stays within the code, or goes to its end
abbrev pub has_target : ℕ → Instr → Bool
has_target len i = not (jumps i.op) || not (nat_lt len i.imm)

-- the rules of an instruction in a code of this length
pub record IsInstr (len : ℕ) (i : Instr) : Type 0 where
  pub registers : has_registers i ≡ true
  pub idle : has_idle_zero i ≡ true
  pub target : has_target len i ≡ true

pub record IsCode (code : List Instr) : Type 0 where
  pub short : length code ≤ 4096
  pub each : All (IsInstr (length code)) code

-- the rules of a program
pub record IsProgram (p : ProgramValue) : Type 0 where
  pub some_words : 1 ≤ length p.words
  pub most_words : length p.words ≤ 4096
  pub some_threads : 1 ≤ length p.threads
  pub most_threads : length p.threads ≤ 15
  pub each : All IsCode p.threads

-- codes, each as the list of its instructions
abbrev pub code_lists : List (Vec Instr) → List (List Instr)
code_lists codes = map (λ code. code.items) codes

-- the code of a thread; one past the last has none
abbrev pub code_of : ProgramValue → ℕ → List Instr
code_of p t = slice_index_or p.threads t []
