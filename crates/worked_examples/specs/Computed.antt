-- Small programs, and the transcripts and histories that the definitions give them.
use Rattle.std.specs.Prelude.{◌≡◌, ℕ, List, [], ◌∷◌, ◌++◌, codes, replicate}
use Rattle.machine.specs.declared.program.Instr.{Instr}
use Rattle.machine.specs.declared.program.Op.{Op}
use Rattle.machine.specs.declared.program.Op.TheVariants as op
use Rattle.machine.specs.Programs.{ProgramValue, LimitsValue}
use Rattle.machine.specs.Runs.{rounds_of, follow_of}
use Rattle.transcript.specs.Transcripts.{transcript_of}

abbrev pub limits_of : ℕ → ℕ → ℕ → LimitsValue
limits_of steps instr entries = record { steps = steps; instr = instr; entries = entries }

abbrev pub instr : Op → ℕ → ℕ → ℕ → Instr
instr o a b imm = record { op = o; a = a; b = b; c = 0; imm = imm }

-- an instruction of three registers
abbrev pub instr_of_three : Op → ℕ → ℕ → ℕ → Instr
instr_of_three o a b c = record { op = o; a = a; b = b; c = c; imm = 0 }

abbrev pub program : List ℕ → List (List Instr) → ProgramValue
program words threads = record { words = words; threads = threads }

-- one thread that halts at once
abbrev pub smallest : ProgramValue
smallest = program (0 ∷ []) ((instr op.Halt 0 0 0 ∷ []) ∷ [])

-- a thread stores 7 and reads it again
abbrev pub own_write : ProgramValue
own_write = program (0 ∷ []) ((instr op.Const 1 0 7 ∷ instr op.Store 1 0 0 ∷ instr op.Load 2 0 0 ∷ instr op.Out 2 0 0 ∷ []) ∷ [])

-- one thread reads the initial 5, another stores 9
abbrev pub initial_value : ProgramValue
initial_value = program (5 ∷ []) ((instr op.Load 1 0 0 ∷ instr op.Out 1 0 0 ∷ []) ∷ (instr op.Const 1 0 9 ∷ instr op.Store 1 0 0 ∷ []) ∷ [])

abbrev pub lost_update_thread : List Instr
lost_update_thread = instr op.Load 1 0 0 ∷ instr op.Addi 1 1 1 ∷ instr op.Store 1 0 0 ∷ instr op.Out 1 0 0 ∷ []

-- two threads add 1 to a word, each by a load and a store
abbrev pub lost_update : ProgramValue
lost_update = program (0 ∷ []) (lost_update_thread ∷ lost_update_thread ∷ [])

-- one thread writes a value and then a flag, the other waits for the flag and reads the value
abbrev pub message_passing : ProgramValue
message_passing = program (0 ∷ 0 ∷ []) (
    (instr op.Const 1 0 42 ∷ instr op.Store 1 0 0 ∷ instr op.Const 2 0 1 ∷ instr op.Store 2 0 1 ∷ []) ∷
    (instr op.Load 1 0 1 ∷ instr op.Jeq 1 0 0 ∷ instr op.Load 2 0 0 ∷ instr op.Out 2 0 0 ∷ []) ∷ [])

-- one read stands between two reads of another word
abbrev pub read_between : ProgramValue
read_between = program (0 ∷ 0 ∷ []) ((instr op.Load 1 0 0 ∷ instr op.Load 2 0 1 ∷ instr op.Load 3 0 0 ∷ []) ∷ [])

-- the second thread reads what its own store wrote, where one entry is allowed
abbrev pub one_entry : ProgramValue
one_entry = program (0 ∷ 0 ∷ []) ((instr op.Load 1 0 0 ∷ instr op.Store 1 0 1 ∷ instr op.Load 2 0 1 ∷ []) ∷ [])

-- an address past the words, and one that wraps round to 0
abbrev pub addresses : ProgramValue
addresses = program (replicate 4096 0) (
    (instr op.Load 1 0 4096 ∷ []) ∷
    (instr op.Const 1 0 4294967295 ∷ instr op.Load 2 1 1 ∷ instr op.Out 2 0 0 ∷ []) ∷ [])

-- a thread exchanges a number for what stands in the word, and puts that out
abbrev pub exchange_thread : ℕ → List Instr
exchange_thread n = instr op.Const 1 0 n ∷ instr op.Xchg 1 0 0 ∷ instr op.Out 1 0 0 ∷ []

-- three threads, each of which takes what the one before left
abbrev pub exchange_chain : ProgramValue
exchange_chain = program (0 ∷ []) (exchange_thread 1 ∷ exchange_thread 2 ∷ exchange_thread 3 ∷ [])

-- one thread reads, two store, and nobody reads what they stored
abbrev pub blind_stores : ProgramValue
blind_stores = program (0 ∷ []) (
    (instr op.Load 1 0 0 ∷ instr op.Out 1 0 0 ∷ []) ∷
    (instr op.Const 1 0 5 ∷ instr op.Store 1 0 0 ∷ []) ∷
    (instr op.Const 1 0 6 ∷ instr op.Store 1 0 0 ∷ []) ∷ [])

-- a compare-exchange of 5 for 8, which tells how it went and what it found
abbrev pub compare_thread : List Instr
compare_thread = instr op.Const 1 0 5 ∷ instr op.Const 2 0 8 ∷ instr_of_three op.Cas 1 0 2 ∷ instr op.Out 15 0 0 ∷ instr op.Out 1 0 0 ∷ []

-- the word has the value that is expected, and another thread writes the same value to it
abbrev pub other_writer : ProgramValue
other_writer = program (5 ∷ []) (compare_thread ∷ (instr op.Const 1 0 5 ∷ instr op.Store 1 0 0 ∷ []) ∷ [])

-- the word has another value from the start
abbrev pub other_value : ProgramValue
other_value = program (4 ∷ []) (compare_thread ∷ [])

-- the result of an operation on 7 and 35 is put out
abbrev pub result_of : Op → List Instr
result_of o = instr_of_three o 3 1 2 ∷ instr op.Out 3 0 0 ∷ []

-- each operation on two registers
abbrev pub arithmetic : ProgramValue
arithmetic = program (0 ∷ []) (
    (instr op.Const 1 0 7 ∷ instr op.Const 2 0 35 ∷ []
    ++ result_of op.Add ++ result_of op.Sub ++ result_of op.Mul ++ result_of op.And ++ result_of op.Or ++ result_of op.Xor ++ result_of op.Shl ++ result_of op.Shr
    ++ instr op.Mov 4 2 0 ∷ instr op.Out 4 0 0 ∷ []) ∷ [])

-- the jumps that are taken pass an instruction over; the others do not
abbrev pub jumps : ProgramValue
jumps = program (0 ∷ []) (
    (instr op.Const 1 0 1 ∷
    instr op.Jlt 0 1 3 ∷ instr op.Out 0 0 0 ∷
    instr op.Jlt 1 1 5 ∷ instr op.Out 1 0 0 ∷
    instr op.Jne 0 1 7 ∷ instr op.Out 0 0 0 ∷
    instr op.Jne 1 1 9 ∷ instr op.Out 1 0 0 ∷
    instr op.Jmp 0 0 11 ∷ instr op.Out 0 0 0 ∷ []) ∷ [])

-- a thread takes two input numbers and puts out each
abbrev pub taker : ProgramValue
taker = program (0 ∷ []) ((instr op.Input 1 0 0 ∷ instr op.Out 1 0 0 ∷ instr op.Input 1 0 0 ∷ instr op.Out 1 0 0 ∷ []) ∷ [])

-- the transcript of the history in which the threads named take a step each, and then all in rounds, without inputs
abbrev pub Follows : ProgramValue → LimitsValue → List ℕ → List ℕ → Type 0
Follows p limits order text = transcript_of p limits [] (follow_of p limits [] order) ≡ text

abbrev pub SmallestHalts : Type 0
SmallestHalts = transcript_of smallest (limits_of 10 10 10) [] (rounds_of smallest (limits_of 10 10 10) []) ≡ codes "thread 0 halted steps 0 instr 0\n"

abbrev pub OwnWriteIsRead : Type 0
OwnWriteIsRead = transcript_of own_write (limits_of 100 100 100) [] (rounds_of own_write (limits_of 100 100 100) [])
    ≡ codes "thread 0 halted steps 2 instr 4\nout 7\nword 0 7\n"

abbrev pub InitialValueIsRead : Type 0
InitialValueIsRead = Follows initial_value (limits_of 100 100 100) (0 ∷ 1 ∷ [])
    (codes "thread 0 halted steps 1 instr 2\nout 5\nthread 1 halted steps 1 instr 2\nword 0 9\n")

abbrev pub UpdateIsLost : Type 0
UpdateIsLost = Follows lost_update (limits_of 100 100 100) (0 ∷ 1 ∷ 0 ∷ 1 ∷ [])
    (codes "thread 0 halted steps 2 instr 4\nout 1\nthread 1 halted steps 2 instr 4\nout 1\nword 0 1\n")

abbrev pub NoStepsAreAllowed : Type 0
NoStepsAreAllowed = transcript_of lost_update (limits_of 0 100 100) [] (rounds_of lost_update (limits_of 0 100 100) [])
    ≡ codes "thread 0 steps-spent steps 0 instr 0\nthread 1 steps-spent steps 0 instr 0\n"

abbrev pub MessageIsPassed : Type 0
MessageIsPassed = Follows message_passing (limits_of 100 100 100) (1 ∷ 1 ∷ 0 ∷ 0 ∷ 1 ∷ 1 ∷ [])
    (codes "thread 0 halted steps 2 instr 4\nthread 1 halted steps 4 instr 8\nout 42\nword 0 42\nword 1 1\n")

abbrev pub ReadsAreSilent : Type 0
ReadsAreSilent = Follows read_between (limits_of 100 100 100) [] (codes "thread 0 halted steps 3 instr 3\n")

abbrev pub EntriesAreSpent : Type 0
EntriesAreSpent = Follows one_entry (limits_of 100 100 1) [] (codes "thread 0 entries-full steps 2 instr 2\n")

abbrev pub AddressesWrap : Type 0
AddressesWrap = Follows addresses (limits_of 2 100 100) []
    (codes "thread 0 bad-address 4096 steps 0 instr 0\nthread 1 halted steps 1 instr 3\nout 0\n")

abbrev pub ExchangesAreChained : Type 0
ExchangesAreChained = Follows exchange_chain (limits_of 100 100 100) (0 ∷ 1 ∷ 2 ∷ [])
    (codes "thread 0 halted steps 1 instr 3\nout 0\nthread 1 halted steps 1 instr 3\nout 1\nthread 2 halted steps 1 instr 3\nout 2\nword 0 3\n")

abbrev pub StoresAreBlind : Type 0
StoresAreBlind = Follows blind_stores (limits_of 100 100 100) (0 ∷ 2 ∷ 1 ∷ [])
    (codes "thread 0 halted steps 1 instr 2\nout 0\nthread 1 halted steps 1 instr 2\nthread 2 halted steps 1 instr 2\nword 0 5\n")

abbrev pub OtherWriterIsSeen : Type 0
OtherWriterIsSeen = Follows other_writer (limits_of 100 100 100) (0 ∷ 1 ∷ 0 ∷ [])
    (codes "thread 0 halted steps 2 instr 5\nout 2\nout 5\nthread 1 halted steps 1 instr 2\nword 0 5\n")

abbrev pub OtherValueIsSeen : Type 0
OtherValueIsSeen = Follows other_value (limits_of 100 100 100) [] (codes "thread 0 halted steps 1 instr 5\nout 0\nout 4\nword 0 4\n")

abbrev pub NumbersAreComputed : Type 0
NumbersAreComputed = Follows arithmetic (limits_of 100 100 100) []
    (codes "thread 0 halted steps 0 instr 20\nout 42\nout 4294967268\nout 245\nout 3\nout 39\nout 36\nout 56\nout 0\nout 35\n")

abbrev pub JumpsAreTaken : Type 0
JumpsAreTaken = Follows jumps (limits_of 100 100 100) [] (codes "thread 0 halted steps 0 instr 8\nout 1\nout 1\n")

-- without inputs, with too few and with enough
abbrev pub NumbersAreTaken : Type 0
NumbersAreTaken =
    Follows taker (limits_of 100 100 100) [] (codes "thread 0 input-empty steps 0 instr 0\n") ×
    (transcript_of taker (limits_of 100 100 100) ((7 ∷ []) ∷ []) [] ≡ codes "thread 0 input-empty steps 0 instr 2\nout 7\n") ×
    (transcript_of taker (limits_of 100 100 100) ((7 ∷ 8 ∷ 9 ∷ []) ∷ []) [] ≡ codes "thread 0 halted steps 0 instr 4\nout 7\nout 8\n")
