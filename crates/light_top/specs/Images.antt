-- Images and inputs that are read, and texts that are assembled.
use Rattle.std.specs.Prelude.{ℕ, List, Result, Ok, Err}
use Rattle.machine.specs.declared.image_fault.ImageFault.{ImageFault}
use Rattle.machine.specs.declared.input_fault.InputFault.{InputFault}
use Rattle.machine.specs.Programs.{ProgramValue}
use Rattle.machine.specs.Inputs.{InputsValue}
use Rattle.machine.specs.InputTexts.{inputs_read}
use Rattle.machine.specs.ImageReading.{image_read}
use Rattle.assembler.specs.declared.asm_fault.AsmFault.{AsmFault}
use Rattle.assembler.specs.Assembled.{assembled}
use Rattle.light_top.specs.declared.status.Status.{Status}
use Rattle.light_top.specs.declared.status.Status.TheVariants as status

-- the bytes of an image, and the program whose image they are
pub record ImageValue : Type 0 where
  pub bytes : List ℕ
  pub program : ProgramValue

-- the image that bytes are, or their first fault
abbrev pub image_or_fault : List ℕ → Result ProgramValue ImageFault → Result ImageValue Status
image_or_fault bytes (Ok program) = Ok (record { bytes = bytes; program = program })
image_or_fault bytes (Err fault) = Err (status.ImageRefused fault)

abbrev pub as_image : List ℕ → Result ImageValue Status
as_image bytes = image_or_fault bytes (image_read bytes)

-- the program that a text says, or its first line at fault
abbrev pub program_or_fault : Result ProgramValue AsmFault → Result ProgramValue Status
program_or_fault (Ok program) = Ok program
program_or_fault (Err fault) = Err (status.AsmRefused fault)

abbrev pub as_text : List ℕ → Result ProgramValue Status
as_text text = program_or_fault (assembled text)

-- the inputs that bytes spell, or their first fault
abbrev pub inputs_or_fault : Result InputsValue InputFault → Result InputsValue Status
inputs_or_fault (Ok inputs) = Ok inputs
inputs_or_fault (Err fault) = Err (status.InputRefused fault)

abbrev pub as_inputs : List ℕ → Result InputsValue Status
as_inputs bytes = inputs_or_fault (inputs_read bytes)
