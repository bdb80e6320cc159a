-- Small texts, and what the definitions say of them.
use Rattle.std.specs.Prelude.{◌≡◌, ℕ, List, [], ◌∷◌, ◌++◌, codes, replicate, Ok, Err}
use Rattle.std.specs.List.{flat_map}
use Rattle.machine.specs.declared.program.Instr.{Instr}
use Rattle.machine.specs.declared.program.Op.{Op}
use Rattle.machine.specs.declared.program.Op.TheVariants as op
use Rattle.machine.specs.Programs.{ProgramValue}
use Rattle.assembler.specs.declared.asm_fault.AsmKind.{AsmKind}
use Rattle.assembler.specs.declared.asm_fault.AsmKind.TheVariants as kind
use Rattle.assembler.specs.Assembled.{assembled, line_fault}
use Rattle.assembler.specs.Canonical.{canonical}

abbrev pub instr : Op → ℕ → ℕ → ℕ → ℕ → Instr
instr o a b c imm = record { op = o; a = a; b = b; c = c; imm = imm }

-- two threads: one writes a value and then a flag, the other waits for the flag and reads the value
abbrev pub message_passing : ProgramValue
message_passing = record {
  words = 0 ∷ 0 ∷ [];
  threads =
      (instr op.Const 1 0 0 42 ∷ instr op.Store 1 0 0 0 ∷ instr op.Const 2 0 0 1 ∷ instr op.Store 2 0 0 1 ∷ [])
      ∷ (instr op.Load 1 0 0 1 ∷ instr op.Jeq 1 0 0 0 ∷ instr op.Load 2 0 0 0 ∷ instr op.Out 2 0 0 0 ∷ [])
      ∷ [];
}

abbrev pub IsRefused : List ℕ → ℕ → AsmKind → Type 0
IsRefused text line k = assembled text ≡ Err (line_fault line k)

-- comments, commas, a label, capital letters and an empty line are read
abbrev pub MessageIsRead : Type 0
MessageIsRead =
    assembled (codes "; message passing\n.words 2\n.thread\nset r1, 42\nSTORE r1 R0 0 ; the value\n\nset r2 0x01\nstore r2 r0 1\n" ++
    codes ".thread\nwait: load r1 r0 1\njeq r1 r0 wait\nload r2 r0 0\nout r2") ≡ Ok message_passing

abbrev pub MessageIsListed : Type 0
MessageIsListed =
    canonical message_passing ≡
    codes ".words 2\n.thread\nset r1 42\nstore r1 r0 0\nset r2 1\nstore r2 r0 1\n.thread\nload r1 r0 1\njeq r1 r0 0\nload r2 r0 0\nout r2\n"

-- initial values, of which a later one wins; without `.words` there are 16 words
abbrev pub ValuesAreRead : Type 0
ValuesAreRead = assembled (codes ".init 1 7\n.init 1 9\n.thread\n") ≡ Ok (record { words = 0 ∷ 9 ∷ replicate 14 0; threads = [] ∷ [] })

-- one instruction of each operation
abbrev pub every_instr : List Instr
every_instr =
    instr op.Halt 0 0 0 0
    ∷ instr op.Const 1 0 0 2
    ∷ instr op.Mov 3 4 0 0
    ∷ instr op.Add 5 6 7 0
    ∷ instr op.Sub 8 9 10 0
    ∷ instr op.Mul 11 12 13 0
    ∷ instr op.And 14 15 0 0
    ∷ instr op.Or 1 2 3 0
    ∷ instr op.Xor 4 5 6 0
    ∷ instr op.Shl 7 8 9 0
    ∷ instr op.Shr 10 11 12 0
    ∷ instr op.Addi 13 14 0 15
    ∷ instr op.Jmp 0 0 0 16
    ∷ instr op.Jeq 1 2 0 17
    ∷ instr op.Jne 3 4 0 18
    ∷ instr op.Jlt 5 6 0 19
    ∷ instr op.Out 7 0 0 0
    ∷ instr op.Load 8 9 0 20
    ∷ instr op.Store 10 11 0 21
    ∷ instr op.Xchg 12 13 0 22
    ∷ instr op.Cas 14 15 1 23
    ∷ instr op.Input 2 0 0 0
    ∷ []

abbrev pub every_line : List ℕ
every_line =
    codes ".words 1\n.thread\nhalt\nset r1 2\nmov r3 r4\nadd r5 r6 r7\nsub r8 r9 r10\nmul r11 r12 r13\n" ++
    codes "and r14 r15 r0\nor r1 r2 r3\nxor r4 r5 r6\nshl r7 r8 r9\nshr r10 r11 r12\naddi r13 r14 15\n" ++
    codes "jmp 16\njeq r1 r2 17\njne r3 r4 18\njlt r5 r6 19\nout r7\nload r8 r9 20\nstore r10 r11 21\nxchg r12 r13 22\ncas r14 r15 r1 23\nin r2\n"

abbrev pub every_operation : ProgramValue
every_operation = record { words = 0 ∷ []; threads = every_instr ∷ [] }

-- each operation is read and listed, its operands in the order a, b, c, imm
abbrev pub OperationsAreRead : Type 0
OperationsAreRead = assembled every_line ≡ Ok every_operation

abbrev pub OperationsAreListed : Type 0
OperationsAreListed = canonical every_operation ≡ every_line

-- two texts for each fault of a line
abbrev pub BytesAreTested : Type 0
BytesAreTested = IsRefused (codes ".thread\nhalt" ++ 127 ∷ []) 2 kind.NotAscii × IsRefused (codes ".words 1 ;" ++ 0 ∷ []) 1 kind.NotAscii

abbrev pub MnemonicsAreTested : Type 0
MnemonicsAreTested = IsRefused (codes ".thread\nfetch r1") 2 kind.Mnemonic × IsRefused (codes ".init 0 1\n.words 3") 2 kind.Mnemonic

abbrev pub OperandsAreTested : Type 0
OperandsAreTested = IsRefused (codes ".thread\nset r16 1") 2 kind.Operand × IsRefused (codes ".thread\ncas r1 r2 r3") 2 kind.Operand

abbrev pub NumbersAreTested : Type 0
NumbersAreTested = IsRefused (codes ".thread\nset r15 4294967296") 2 kind.Number × IsRefused (codes ".thread\njmp 2\n.thread\nhalt") 2 kind.Number

abbrev pub LabelsAreTested : Type 0
LabelsAreTested = IsRefused (codes ".thread\n9x: halt") 2 kind.Label × IsRefused (codes "x: .thread") 1 kind.Label

abbrev pub LabelsAreOnce : Type 0
LabelsAreOnce = IsRefused (codes ".thread\nx: halt\nx: halt") 3 kind.LabelTwice × IsRefused (codes ".thread\nx:\n.thread\nx:\nx:") 5 kind.LabelTwice

abbrev pub TargetsAreTested : Type 0
TargetsAreTested = IsRefused (codes ".words 1\n.thread\njmp nowhere") 3 kind.Undefined × IsRefused (codes ".thread\njlt r0 r0 X\nx: halt") 2 kind.Undefined

-- so many lines `.thread`
abbrev pub thread_lines : ℕ → List ℕ
thread_lines n = flat_map (λ (line : List ℕ). line) (replicate n (codes ".thread\n"))

abbrev pub ThreadsAreCounted : Type 0
ThreadsAreCounted =
    IsRefused (thread_lines 15 ++ codes ".thread") 16 kind.TooMany
    × IsRefused (codes ".words 1\n" ++ thread_lines 16 ++ codes "halt") 17 kind.TooMany

abbrev pub ThreadsAreWanted : Type 0
ThreadsAreWanted = IsRefused (codes "x: halt") 1 kind.NoThread × IsRefused (codes "jmp 0") 1 kind.NoThread

-- lines with two faults each: the one that is tested first is found
abbrev pub OrderIsKept : Type 0
OrderIsKept =
    IsRefused (codes "9x: halt" ++ 1 ∷ []) 1 kind.NotAscii
    × IsRefused (codes "9x: halt") 1 kind.Label
    × IsRefused (codes "x: fetch") 1 kind.NoThread
    × IsRefused (codes ".thread\nx:\nx: fetch") 3 kind.LabelTwice
    × IsRefused (codes ".thread\n.init 0 99999999999") 2 kind.Mnemonic
    × IsRefused (codes ".thread\nset r99 4294967296") 2 kind.Operand
    × IsRefused (codes ".thread\njmp nowhere 0") 2 kind.Operand
    × IsRefused (thread_lines 15 ++ codes ".thread 1") 16 kind.Operand

-- a target is tested against the whole thread, up to the next line whose item begins with `.thread`; lines at fault count, and directives do not
abbrev pub PlacesAreCounted : Type 0
PlacesAreCounted =
    IsRefused (codes ".thread\njmp 2\n.foo") 3 kind.Mnemonic
    × IsRefused (codes ".thread\njmp 2\n.init 0 1") 2 kind.Number
    × IsRefused (codes ".thread\njmp x\nx: fetch") 3 kind.Mnemonic
    × IsRefused (codes ".thread\njmp x\nx: .thread") 2 kind.Undefined

-- a text without a thread is at fault at the line after its last
abbrev pub NoThreadIsFound : Type 0
NoThreadIsFound = IsRefused [] 1 kind.NoThread × IsRefused (codes ".words 3\n") 2 kind.NoThread

-- a label of another thread is none of this one
abbrev pub ThreadsAreApart : Type 0
ThreadsAreApart = IsRefused (codes ".thread\njeq r0 r0 x\n.thread\nx: halt") 2 kind.Undefined
