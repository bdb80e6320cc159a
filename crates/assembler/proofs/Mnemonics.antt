-- Mnemonics are words, and each is read as its operation. A new operation is one line in each.
use Rattle.std.proofs.Common.{◌≡◌, refl}
use Rattle.machine.specs.declared.program.Op.{Op}
use Rattle.machine.specs.declared.program.Op.TheVariants as op
use Rattle.assembler.specs.declared.head.Head.TheVariants as head
use Rattle.assembler.specs.Mnemonics.{mnemonic_of}
use Rattle.assembler.specs.Words.{head_of}
use Rattle.assembler.proofs.Tokens.{IsWord}

-- a mnemonic is a word, and begins its operation
pub mnemonic_word : (o : Op) → IsWord (mnemonic_of o)
mnemonic_word op.Halt = record { some = refl; all = refl }
mnemonic_word op.Const = record { some = refl; all = refl }
mnemonic_word op.Mov = record { some = refl; all = refl }
mnemonic_word op.Add = record { some = refl; all = refl }
mnemonic_word op.Sub = record { some = refl; all = refl }
mnemonic_word op.Mul = record { some = refl; all = refl }
mnemonic_word op.And = record { some = refl; all = refl }
mnemonic_word op.Or = record { some = refl; all = refl }
mnemonic_word op.Xor = record { some = refl; all = refl }
mnemonic_word op.Shl = record { some = refl; all = refl }
mnemonic_word op.Shr = record { some = refl; all = refl }
mnemonic_word op.Addi = record { some = refl; all = refl }
mnemonic_word op.Jmp = record { some = refl; all = refl }
mnemonic_word op.Jeq = record { some = refl; all = refl }
mnemonic_word op.Jne = record { some = refl; all = refl }
mnemonic_word op.Jlt = record { some = refl; all = refl }
mnemonic_word op.Out = record { some = refl; all = refl }
mnemonic_word op.Load = record { some = refl; all = refl }
mnemonic_word op.Store = record { some = refl; all = refl }
mnemonic_word op.Xchg = record { some = refl; all = refl }
mnemonic_word op.Cas = record { some = refl; all = refl }
mnemonic_word op.Input = record { some = refl; all = refl }

pub head_mnemonic : (o : Op) → head_of (mnemonic_of o) ≡ head.Operation o
head_mnemonic op.Halt = refl
head_mnemonic op.Const = refl
head_mnemonic op.Mov = refl
head_mnemonic op.Add = refl
head_mnemonic op.Sub = refl
head_mnemonic op.Mul = refl
head_mnemonic op.And = refl
head_mnemonic op.Or = refl
head_mnemonic op.Xor = refl
head_mnemonic op.Shl = refl
head_mnemonic op.Shr = refl
head_mnemonic op.Addi = refl
head_mnemonic op.Jmp = refl
head_mnemonic op.Jeq = refl
head_mnemonic op.Jne = refl
head_mnemonic op.Jlt = refl
head_mnemonic op.Out = refl
head_mnemonic op.Load = refl
head_mnemonic op.Store = refl
head_mnemonic op.Xchg = refl
head_mnemonic op.Cas = refl
head_mnemonic op.Input = refl
