use Rattle.std.proofs.Common.{◌≡◌, ◌<◌, ◌^◌, ◌++◌, drop, take, flat_map, All}
use Rattle.machine.specs.declared.program.Instr.{Instr}
use Rattle.assembler.specs.Canonical.{instr_line}
use Rattle.assembler.proofs.listing.put_code.Given as goal

-- the lines so far, and those of the instructions that are left
abbrev pub invariant-loop-instr : goal.invariant-loop-instr
invariant-loop-instr l = record {
  written : l.out.items ++ flat_map instr_line (drop l.instr-index l.code) ≡ l.fn.out.items ++ flat_map instr_line l.code;
  numbers : All (λ (i : Instr). i.imm < 2 ^ 32) (take l.instr-index l.code);
}
