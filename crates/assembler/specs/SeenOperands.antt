-- What an instruction's registers stand for.
use Rattle.assembler.specs.declared.registers.Registers.{Registers as RegisterFields}
use Rattle.assembler.specs.Lines.{tokens_of}
use Rattle.assembler.specs.Operands.{Registers}

abbrev pub registers_seen : RegisterFields → Registers
registers_seen r = record { a = r.a; b = r.b; c = r.c; rest = tokens_of r.rest.now }
