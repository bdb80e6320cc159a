-- What is claimed of texts and programs.
use Rattle.std.specs.Prelude.{◌≡◌, ◌≢◌, ℕ, ◌+◌, ◌≤◌, List, length, Ok, Err}
use Rattle.machine.specs.Programs.{ProgramValue, IsProgram}
use Rattle.machine.specs.Images.{HasNumbers}
use Rattle.assembler.specs.declared.asm_fault.AsmKind.TheVariants as kind
use Rattle.assembler.specs.Lines.{lines_of}
use Rattle.assembler.specs.Assembled.{AsmFault, assembled}
use Rattle.assembler.specs.Canonical.{canonical}

-- the canonical text of a program says this program
abbrev pub CanonicalIsRead : Type 0
CanonicalIsRead = (p : ProgramValue) → IsProgram p → HasNumbers p → assembled (canonical p) ≡ Ok p

-- what a text says keeps the rules of programs, and its numbers fit an image
abbrev pub ReadProgramsAreSound : Type 0
ReadProgramsAreSound = (text : List ℕ) (p : ProgramValue) → assembled text ≡ Ok p → IsProgram p × HasNumbers p

-- a fault of a line of the text, or of the line after its last
pub record IsLineFault (text : List ℕ) (fault : AsmFault) : Type 0 where
  pub first : 1 ≤ fault.line
  pub last : fault.line ≤ length (lines_of text) + 1
  pub kind : fault.kind ≢ kind.Memory

-- the definition finds faults of lines alone
abbrev pub FaultsAreOfLines : Type 0
FaultsAreOfLines = (text : List ℕ) (fault : AsmFault) → assembled text ≡ Err fault → IsLineFault text fault
