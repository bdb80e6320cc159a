-- Statuses: their numbers and their lines.
use Rattle.std.specs.Prelude.{◌≡◌, ◌≢◌, ℕ, ◌+◌, List, [], ◌∷◌, ◌++◌, codes, Result, Ok, Err}
use Rattle.std.specs.Fmt.{decimal}
use Rattle.machine.specs.declared.image_fault.ImageKind.TheVariants as kind
use Rattle.machine.specs.declared.input_fault.InputKind.TheVariants as input_kind
use Rattle.machine.specs.Faults.{number_of_kind}
use Rattle.machine.specs.InputTexts.{number_of_kind as number_of_input_kind}
use Rattle.assembler.specs.declared.asm_fault.AsmKind.TheVariants as asm_kind
use Rattle.assembler.specs.Assembled.{number_of_kind as number_of_asm_kind}
use Rattle.log_file.specs.declared.log_fault.LogKind.TheVariants as log_kind
use Rattle.log_file.specs.LogFaults.{number_of_kind as number_of_log_kind}
use Rattle.log_file.specs.declared.sched_fault.SchedKind.TheVariants as sched_kind
use Rattle.log_file.specs.Schedules.{number_of_kind as number_of_sched_kind}
use Rattle.schedule_check.specs.Faults.{number_of as number_of_order_kind}
use Rattle.stopper.specs.declared.stray.Stray.{Stray}
use Rattle.stopper.specs.Strays.{AreUnlike, straying}
use Rattle.batch.specs.Jobs.{most_bytes}
use Rattle.light_top.specs.declared.status.Status.{Status}
use Rattle.light_top.specs.declared.status.Status.TheVariants as status

-- the number with which the program ends
abbrev pub code_of : Status → ℕ
code_of status.Ok = 0
code_of status.Usage = 2
code_of status.StoreFault = 3
code_of (status.TooLong taken) = 4
code_of (status.ImageRefused fault) = 5
code_of (status.AsmRefused fault) = 6
code_of (status.LogRefused fault) = 7
code_of (status.WrongProgram logged found) = 8
code_of status.NoSchedule = 9
code_of status.Spent = 10
code_of (status.Differs difference) = 11
code_of (status.SchedRefused fault) = 12
code_of (status.Disrespects fault) = 13
code_of status.SinkFault = 14
code_of (status.InputRefused fault) = 15
code_of (status.WrongInputs program inputs) = 16
code_of status.NotLegal = 17
code_of (status.NoStep threads steps) = 18
code_of (status.Strays stray) = 19
code_of (status.ListRefused line) = 20
code_of status.Memory = 70

-- an image was refused: kind K thread T at A
abbrev pub refusal_line : ℕ → ℕ → ℕ → List ℕ
refusal_line kind thread at =
    codes "light: image refused" ++ (codes " kind " ++ decimal kind) ++ (codes " thread " ++ decimal thread) ++ (codes " at " ++ decimal at) ++ 10 ∷ []

-- a text was refused: line L kind K
abbrev pub text_line : ℕ → ℕ → List ℕ
text_line line kind = codes "light: text refused" ++ (codes " line " ++ decimal line) ++ (codes " kind " ++ decimal kind) ++ 10 ∷ []

-- inputs were refused: kind K
abbrev pub input_line : ℕ → List ℕ
input_line kind = codes "light: inputs refused" ++ (codes " kind " ++ decimal kind) ++ 10 ∷ []

-- a log was refused: kind K at A
abbrev pub log_line : ℕ → ℕ → List ℕ
log_line kind at = codes "light: log refused" ++ (codes " kind " ++ decimal kind) ++ (codes " at " ++ decimal at) ++ 10 ∷ []

-- a schedule was refused: kind K at A
abbrev pub schedule_line : ℕ → ℕ → List ℕ
schedule_line kind at = codes "light: schedule refused" ++ (codes " kind " ++ decimal kind) ++ (codes " at " ++ decimal at) ++ 10 ∷ []

-- an order was refused: kind K at I J
abbrev pub order_line : ℕ → ℕ → ℕ → List ℕ
order_line kind i j = codes "light: order refused" ++ (codes " kind " ++ decimal kind) ++ (codes " at " ++ decimal i) ++ (codes " " ++ decimal j) ++ 10 ∷ []

-- a replay found something else: thread T entry E
abbrev pub difference_line : ℕ → ℕ → List ℕ
difference_line thread entry = codes "light: differs" ++ (codes " thread " ++ decimal thread) ++ (codes " entry " ++ decimal entry) ++ 10 ∷ []

-- a play up to a step strayed: thread T
abbrev pub stray_line : Stray → List ℕ
stray_line stray = codes "light: strays" ++ (codes " thread " ++ decimal (straying stray)) ++ 10 ∷ []

-- a list was refused: line L
abbrev pub list_line : ℕ → List ℕ
list_line line = codes "light: list refused" ++ (codes " line " ++ decimal line) ++ 10 ∷ []

-- what is told of a status
abbrev pub status_line : Status → List ℕ
status_line status.Ok = []
status_line status.Usage = codes "light: usage" ++ 10 ∷ []
status_line status.StoreFault = codes "light: store fault" ++ 10 ∷ []
status_line (status.TooLong taken) = codes "light: too long" ++ 10 ∷ []
status_line (status.ImageRefused fault) = refusal_line (number_of_kind fault.kind) fault.thread fault.at
status_line (status.AsmRefused fault) = text_line fault.line (number_of_asm_kind fault.kind)
status_line (status.LogRefused fault) = log_line (number_of_log_kind fault.kind) fault.at
status_line (status.WrongProgram logged found) = codes "light: wrong program" ++ 10 ∷ []
status_line status.NoSchedule = codes "light: no schedule" ++ 10 ∷ []
status_line status.Spent = codes "light: budget spent" ++ 10 ∷ []
status_line (status.Differs difference) = difference_line difference.thread difference.entry
status_line (status.SchedRefused fault) = schedule_line (number_of_sched_kind fault.kind) fault.at
status_line (status.Disrespects fault) = order_line (number_of_order_kind fault.kind) fault.i fault.j
status_line status.SinkFault = codes "light: output fault" ++ 10 ∷ []
status_line (status.InputRefused fault) = input_line (number_of_input_kind fault.kind)
status_line (status.WrongInputs program inputs) = codes "light: wrong inputs" ++ 10 ∷ []
status_line status.NotLegal = codes "light: not legal" ++ 10 ∷ []
status_line (status.NoStep threads steps) = codes "light: no such step" ++ 10 ∷ []
status_line (status.Strays stray) = stray_line stray
status_line (status.ListRefused line) = list_line line
status_line status.Memory = codes "light: out of memory" ++ 10 ∷ []

-- the statuses with which files are refused, and what they carry
abbrev pub IsRefusal : Status → Type 0
IsRefusal (status.TooLong taken) = taken ≡ most_bytes + 1
IsRefusal (status.ImageRefused fault) = fault.kind ≢ kind.Memory
IsRefusal (status.AsmRefused fault) = fault.kind ≢ asm_kind.Memory
IsRefusal (status.InputRefused fault) = fault.kind ≢ input_kind.Memory
IsRefusal (status.WrongInputs program inputs) = program ≢ inputs
IsRefusal (status.LogRefused fault) = fault.kind ≢ log_kind.Memory
IsRefusal (status.WrongProgram logged found) = logged ≢ found
IsRefusal (status.NoStep threads steps) = Unit {0}
IsRefusal (status.ListRefused line) = Unit {0}
IsRefusal (status.SchedRefused fault) = fault.kind ≢ sched_kind.Memory
IsRefusal s = ⊥

-- the statuses of tasks that cannot be done
abbrev pub IsFailure : Status → Type 0
IsFailure status.NoSchedule = Unit {0}
IsFailure status.Spent = Unit {0}
IsFailure (status.Differs difference) = difference.logged ≢ difference.found
IsFailure status.NotLegal = Unit {0}
IsFailure (status.Strays stray) = AreUnlike stray
IsFailure (status.Disrespects fault) = Unit {0}
IsFailure s = ⊥

-- memory was refused, or this is a failure with such a cause
abbrev pub FailsBy : (Status → Type 0) → Status → Type 0
FailsBy cause status.Memory = Unit {0}
FailsBy cause s = IsFailure s × cause s

-- the status of a command that was done, or refused
abbrev pub status_of : {T : Type 0} → Result T Status → Status
status_of (Ok _) = status.Ok
status_of (Err s) = s
