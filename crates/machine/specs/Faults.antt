-- The faults of programs and of images, and the first one that a program has.
use Rattle.std.specs.Prelude.{ℕ, ◌+◌, Bool, ◌&&◌, not, nat_lt, List, [], ◌∷◌, length, if◌then◌else◌, Option, None, Some, Result, Ok, Err}
use Rattle.std.specs.Option.{option_or}
use Rattle.std.specs.List.{list_all}
pub use Rattle.machine.specs.declared.image_fault.ImageFault.{ImageFault}
pub use Rattle.machine.specs.declared.image_fault.ImageKind.{ImageKind}
use Rattle.machine.specs.declared.image_fault.ImageKind.TheVariants as kind
use Rattle.machine.specs.Programs.{Instr, ProgramValue, has_registers, has_idle_zero, has_target}

-- the number of a kind
abbrev pub number_of_kind : ImageKind → ℕ
number_of_kind kind.Short = 1
number_of_kind kind.Magic = 2
number_of_kind kind.Counts = 3
number_of_kind kind.Opcode = 4
number_of_kind kind.Register = 5
number_of_kind kind.Unused = 6
number_of_kind kind.Target = 7
number_of_kind kind.Long = 8
number_of_kind kind.Memory = 9

-- a fault that is no instruction's
abbrev pub whole_fault : ImageKind → ImageFault
whole_fault k = record { kind = k; thread = 0; at = 0 }

-- the first rule that an instruction breaks in a code of this length
abbrev pub instr_fault : ℕ → Instr → Option ImageKind
instr_fault len i =
    if not (has_registers i) then Some kind.Register
    else if not (has_idle_zero i) then Some kind.Unused
    else if not (has_target len i) then Some kind.Target
    else None

-- a fault of the instruction at this place of this thread
abbrev pub fault_at : ℕ → ℕ → Option ImageKind → Option ImageFault
fault_at thread at None = None
fault_at thread at (Some k) = Some (record { kind = k; thread = thread; at = at })

-- the first fault of the instructions from a place of a thread on, whose code has this length
unfoldable pub code_fault : ℕ → ℕ → ℕ → List Instr → Option ImageFault
code_fault len thread at [] = None
code_fault len thread at (i ∷ is) = option_or (fault_at thread at (instr_fault len i)) (code_fault len thread (at + 1) is)

-- the first fault of the codes from a thread on
unfoldable pub codes_fault : ℕ → List (List Instr) → Option ImageFault
codes_fault thread [] = None
codes_fault thread (code ∷ codes) = option_or (code_fault (length code) thread 0 code) (codes_fault (thread + 1) codes)

-- there are 1 to so many
abbrev pub is_count : ℕ → ℕ → Bool
is_count most n = nat_lt 0 n && not (nat_lt most n)

-- 1 to 15 threads and 1 to 4,096 words
abbrev pub are_counts : ℕ → ℕ → Bool
are_counts threads words = is_count 15 threads && is_count 4096 words

-- the length of a code that is short enough
abbrev pub is_short_length : ℕ → Bool
is_short_length len = not (nat_lt 4096 len)

abbrev pub is_short_code : List Instr → Bool
is_short_code code = is_short_length (length code)

-- what a program breaks first: the counts of its threads and words, the length of a code, a rule of an instruction
unfoldable pub program_fault : ProgramValue → Option ImageFault
program_fault p =
    if not (are_counts (length p.threads) (length p.words)) then Some (whole_fault kind.Counts)
    else if not (list_all is_short_code p.threads) then Some (whole_fault kind.Counts)
    else codes_fault 0 p.threads

-- the program, or its fault
abbrev pub ok_unless : Option ImageFault → ProgramValue → Result ProgramValue ImageFault
ok_unless None p = Ok p
ok_unless (Some fault) p = Err fault

-- a program where it keeps the rules, else its first fault
abbrev pub checked : ProgramValue → Result ProgramValue ImageFault
checked p = ok_unless (program_fault p) p
