-- The table of mnemonics: each operation with the word that stands for it.
use Rattle.std.specs.Prelude.{ℕ, List, codes}
pub use Rattle.machine.specs.declared.program.Op.{Op}
use Rattle.machine.specs.declared.program.Op.TheVariants as op

-- the word for an operation
abbrev pub mnemonic_of : Op → List ℕ
mnemonic_of op.Halt = codes "halt"
mnemonic_of op.Const = codes "set"
mnemonic_of op.Mov = codes "mov"
mnemonic_of op.Add = codes "add"
mnemonic_of op.Sub = codes "sub"
mnemonic_of op.Mul = codes "mul"
mnemonic_of op.And = codes "and"
mnemonic_of op.Or = codes "or"
mnemonic_of op.Xor = codes "xor"
mnemonic_of op.Shl = codes "shl"
mnemonic_of op.Shr = codes "shr"
mnemonic_of op.Addi = codes "addi"
mnemonic_of op.Jmp = codes "jmp"
mnemonic_of op.Jeq = codes "jeq"
mnemonic_of op.Jne = codes "jne"
mnemonic_of op.Jlt = codes "jlt"
mnemonic_of op.Out = codes "out"
mnemonic_of op.Load = codes "load"
mnemonic_of op.Store = codes "store"
mnemonic_of op.Xchg = codes "xchg"
mnemonic_of op.Cas = codes "cas"
mnemonic_of op.Input = codes "in"
