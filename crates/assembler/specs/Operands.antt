-- The operands of an instruction.
use Rattle.std.specs.Prelude.{ℕ, Bool, true, false, ◌&&◌, nat_lt, List, [], ◌∷◌, if◌then◌else◌, Option, None, Some, option_map, option_and_then, Result, Ok, Err}
use Rattle.machine.specs.declared.program.Instr.{Instr}
use Rattle.machine.specs.declared.program.Op.{Op}
use Rattle.machine.specs.Programs.{uses_a, uses_b, uses_c, uses_imm, jumps}
pub use Rattle.assembler.specs.declared.asm_fault.AsmKind.{AsmKind}
use Rattle.assembler.specs.declared.asm_fault.AsmKind.TheVariants as kind
use Rattle.assembler.specs.Words.{register_of, is_name}
use Rattle.assembler.specs.Numerals.{number_of}
use Rattle.assembler.specs.Labels.{Label, Labels, Scope, find_label}

-- a register where one is used, and the tokens that are left; 0 where none is used
abbrev pub take_register : Bool → List (List ℕ) → Option (ℕ × List (List ℕ))
take_register false tokens = Some (0, tokens)
take_register true [] = None
take_register true (token ∷ tokens) = option_map (λ r. (r, tokens)) (register_of token)

-- an instruction's registers, and the tokens after them
pub record Registers : Type 0 where
  pub a : ℕ
  pub b : ℕ
  pub c : ℕ
  pub rest : List (List ℕ)

-- a, b and c in this order, each where the operation uses it
abbrev pub registers_of : Op → List (List ℕ) → Option Registers
registers_of o tokens =
    option_and_then
    (λ a. option_and_then
    (λ b. option_map (λ c. record { a = a.0; b = b.0; c = c.0; rest = c.1 }) (take_register (uses_c o) b.1))
    (take_register (uses_b o) a.1))
    (take_register (uses_a o) tokens)

-- the greatest number that may stand: 4,294,967,295, and as a target the thread's length
abbrev pub greatest : Bool → ℕ → ℕ
greatest is_target len = if is_target then len else 4294967295

-- the place of a label, if the thread has it
abbrev pub place_of : Option Label → Result ℕ AsmKind
place_of None = Err kind.Undefined
place_of (Some l) = Ok l.place

-- a word that is no number is the name of a label, where a target is asked
abbrev pub name_value : Bool → Labels → List ℕ → Result ℕ AsmKind
name_value is_target labels word = if is_target && is_name word then place_of (find_label word labels) else Err kind.Operand

-- the value of the operand imm, or what is wrong with it
abbrev pub imm_value : Bool → Scope → List ℕ → Result ℕ AsmKind
imm_value is_target scope word =
    elim (number_of word) as (λ _. Result ℕ AsmKind) [
      | Some n ↦ if nat_lt (greatest is_target scope.len) n then Err kind.Number else Ok n
      | None ↦ name_value is_target scope.labels word
    ]

-- imm where it is used, and nothing after it; 0 where it is not used
abbrev pub last_operand : Bool → Bool → Scope → List (List ℕ) → Result ℕ AsmKind
last_operand false is_target scope [] = Ok 0
last_operand true is_target scope (word ∷ []) = imm_value is_target scope word
last_operand _ is_target scope _ = Err kind.Operand

abbrev pub with_imm : Op → Registers → Result ℕ AsmKind → Result Instr AsmKind
with_imm o registers (Err k) = Err k
with_imm o registers (Ok imm) = Ok (record { op = o; a = registers.a; b = registers.b; c = registers.c; imm = imm })

-- an instruction of a thread with this scope: exactly the operands that its operation uses
abbrev pub instr_of : Op → Scope → List (List ℕ) → Result Instr AsmKind
instr_of o scope tokens =
    elim (registers_of o tokens) as (λ _. Result Instr AsmKind) [
      | None ↦ Err kind.Operand
      | Some registers ↦ with_imm o registers (last_operand (uses_imm o) (jumps o) scope registers.rest)
    ]
