-- The program that a text says, or the first line at fault.
use Rattle.std.specs.Prelude.{ℕ, ◌+◌, Bool, true, false, List, [], ◌∷◌, if◌then◌else◌, Result, Ok, Err}
use Rattle.machine.specs.Programs.{ProgramValue}
pub use Rattle.assembler.specs.declared.asm_fault.AsmFault.{AsmFault}
use Rattle.assembler.specs.declared.asm_fault.AsmKind.{AsmKind}
use Rattle.assembler.specs.declared.asm_fault.AsmKind.TheVariants as kind
use Rattle.assembler.specs.Lines.{lines_of}
use Rattle.assembler.specs.Progress.{Progress, start, threads_of, take_line}

abbrev pub number_of_kind : AsmKind → ℕ
number_of_kind kind.NotAscii = 1
number_of_kind kind.Mnemonic = 2
number_of_kind kind.Operand = 3
number_of_kind kind.Number = 4
number_of_kind kind.Label = 5
number_of_kind kind.LabelTwice = 6
number_of_kind kind.Undefined = 7
number_of_kind kind.TooMany = 8
number_of_kind kind.NoThread = 9
number_of_kind kind.Memory = 10

-- a refused request for memory is no line's fault
abbrev pub out_of_memory : AsmFault
out_of_memory = record { line = 0; kind = kind.Memory }

-- a line's fault of this kind
abbrev pub line_fault : ℕ → AsmKind → AsmFault
line_fault line k = record { line = line; kind = k }

abbrev pub is_memory : AsmKind → Bool
is_memory kind.Memory = true
is_memory kind.NotAscii = false
is_memory kind.Mnemonic = false
is_memory kind.Operand = false
is_memory kind.Number = false
is_memory kind.Label = false
is_memory kind.LabelTwice = false
is_memory kind.Undefined = false
is_memory kind.TooMany = false
is_memory kind.NoThread = false

-- what is answered where a line ends with this kind
abbrev pub fault_at : ℕ → AsmKind → AsmFault
fault_at line k = if is_memory k then out_of_memory else line_fault line k

-- the program that the lines so far say, whose last thread is over
abbrev pub program_of : Progress → ProgramValue
program_of p = record { words = p.words; threads = threads_of p }

-- after the last line: a text without a thread is at fault at the line after it
abbrev pub finished : Progress → ℕ → Result ProgramValue AsmFault
finished p line = if p.has_begun then Ok (program_of p) else Err (line_fault line kind.NoThread)

-- the lines from this number on, one after the other; the first one at fault decides
unfoldable pub assembled_from : Progress → ℕ → List (List ℕ) → Result ProgramValue AsmFault
assembled_from p number [] = finished p number
assembled_from p number (line ∷ lines) =
    elim (take_line p number line lines) as (λ _. Result ProgramValue AsmFault) [
      | Err k ↦ Err (line_fault number k)
      | Ok next ↦ assembled_from next (number + 1) lines
    ]

-- the program of a text, or its first fault
abbrev pub assembled : List ℕ → Result ProgramValue AsmFault
assembled text = assembled_from start 1 (lines_of text)
