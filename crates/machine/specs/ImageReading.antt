-- Reading an image: the program that the bytes spell, or the first fault in the order of the tests.
use Rattle.std.specs.Prelude.{ℕ, zero, suc, ◌+◌, ◌*◌, not, nat_lt, nat_eq, if◌then◌else◌, List, [], ◌∷◌, length, drop, sum, slice_index, slice_range, Option, None, Some, Result, Ok, Err}
use Rattle.std.specs.List.{list_all, starts_with}
use Rattle.std.specs.Int.{w16, w32, from_be_bytes}
use Rattle.machine.specs.Reading.{GivesUnless, ◌>>=◌, after, numbers_at}
use Rattle.machine.specs.Programs.{Instr, Op, ProgramValue, op_of}
use Rattle.machine.specs.Faults.{ImageFault, ImageKind, whole_fault, instr_fault, are_counts, is_short_length}
use Rattle.machine.specs.declared.image_fault.ImageKind.TheVariants as kind
use Rattle.machine.specs.Images.{magic}

-- the fault that tells of a request for memory that was refused
abbrev pub out_of_memory : ImageFault
out_of_memory = whole_fault kind.Memory

-- the same as reading gives, unless memory ran out
abbrev pub Gives : {X Y : Type 0} → (X → Y) → Result X ImageFault → Result Y ImageFault → Type 0
Gives view r read = GivesUnless out_of_memory view r read

-- ---- the head: the counts and the lengths of the codes

-- the number of threads
abbrev pub threads_in : List ℕ → ℕ
threads_in bytes = slice_index bytes 4

-- the number of words
unfoldable pub words_in : List ℕ → ℕ
words_in bytes = from_be_bytes w16 (slice_range bytes 5 7)

-- the length of each thread's code
unfoldable pub lengths_in : List ℕ → List ℕ
lengths_in bytes = numbers_at w16 (threads_in bytes) (drop 7 bytes)

-- where the words begin, where the codes begin, and where the image ends
abbrev pub words_place : List ℕ → ℕ
words_place bytes = 7 + 2 * threads_in bytes

abbrev pub codes_place : List ℕ → ℕ
codes_place bytes = words_place bytes + 4 * words_in bytes

abbrev pub image_len : List ℕ → ℕ
image_len bytes = codes_place bytes + 8 * sum (lengths_in bytes)

-- what is wrong with the counts: too few bytes for them, another beginning, or a count out of range
unfoldable pub counts_fault : List ℕ → Option ImageKind
counts_fault bytes =
    if nat_lt (length bytes) 7 then Some kind.Short
    else if not (starts_with nat_eq bytes magic) then Some kind.Magic
    else if not (are_counts (threads_in bytes) (words_in bytes)) then Some kind.Counts
    else None

-- what is wrong with the lengths: too few bytes for them, a code that is too long, or too few bytes for all that they announce
unfoldable pub lengths_fault : List ℕ → Option ImageKind
lengths_fault bytes =
    if nat_lt (length bytes) (words_place bytes) then Some kind.Short
    else if not (list_all is_short_length (lengths_in bytes)) then Some kind.Counts
    else if nat_lt (length bytes) (image_len bytes) then Some kind.Short
    else None

-- ---- the instructions

-- an instruction that keeps the rules of a code of this length, or the first that it breaks
abbrev pub kept : Option ImageKind → Instr → Result Instr ImageKind
kept None i = Ok i
kept (Some k) i = Err k

-- the instruction of an operation and of the bytes behind its code
abbrev pub instr_in : Op → List ℕ → Instr
instr_in o bytes = record {
  op = o;
  a = slice_index bytes 1;
  b = slice_index bytes 2;
  c = slice_index bytes 3;
  imm = from_be_bytes w32 (slice_range bytes 4 8);
}

-- that instruction, where the code names an operation and the rules are kept
abbrev pub with_op : ℕ → List ℕ → Option Op → Result Instr ImageKind
with_op len bytes None = Err kind.Opcode
with_op len bytes (Some o) = kept (instr_fault len (instr_in o bytes)) (instr_in o bytes)

-- the instruction of the first eight bytes
unfoldable pub instr_at : ℕ → List ℕ → Result Instr ImageKind
instr_at len bytes = with_op len bytes (op_of (slice_index bytes 0))

-- with the thread and the place of the instruction
abbrev pub placed : {A : Type 0} → ℕ → ℕ → Result A ImageKind → Result A ImageFault
placed thread at (Ok x) = Ok x
placed thread at (Err k) = Err (record { kind = k; thread = thread; at = at })

-- so many instructions of a thread from a place on, whose code has this length
unfoldable pub code_at : ℕ → ℕ → ℕ → ℕ → List ℕ → Result (List Instr) ImageFault
code_at len thread at zero bytes = Ok []
code_at len thread at (suc n) bytes = do
  first ← placed thread at (instr_at len bytes)
  others ← code_at len thread (at + 1) n (drop 8 bytes)
  Ok (first ∷ others)

-- the codes from a thread on, which have these lengths
unfoldable pub codes_at : ℕ → List ℕ → List ℕ → Result (List (List Instr)) ImageFault
codes_at thread [] bytes = Ok []
codes_at thread (len ∷ lens) bytes = do
  first ← code_at len thread 0 len bytes
  others ← codes_at (thread + 1) lens (drop (8 * len) bytes)
  Ok (first ∷ others)

-- ---- the image

-- the words and the codes, with nothing behind them
unfoldable pub body_of : List ℕ → Result ProgramValue ImageFault
body_of bytes = do
  threads ← codes_at 0 (lengths_in bytes) (drop (codes_place bytes) bytes)
  if nat_lt (image_len bytes) (length bytes) then Err (whole_fault kind.Long)
      else Ok (record { words = numbers_at w32 (words_in bytes) (drop (words_place bytes) bytes); threads = threads })

-- the program whose image the bytes are, or the first fault
unfoldable pub image_read : List ℕ → Result ProgramValue ImageFault
image_read bytes = after whole_fault (counts_fault bytes) (after whole_fault (lengths_fault bytes) (body_of bytes))
