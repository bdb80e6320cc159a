use Rattle.std.proofs.Common.{◌≡◌, ◌<◌, ◌^◌, ◌++◌, take, All}
use Rattle.machine.specs.Programs.{Instr}
use Rattle.machine.specs.Images.{code_image}
use Rattle.machine.proofs.image_writing.put_code.Given as goal

abbrev pub invariant-loop-instr : goal.invariant-loop-instr
invariant-loop-instr l = record {
  written : l.out.items ≡ l.fn.out.items ++ code_image (take l.instr-index l.code);
  numbers : All (λ (i : Instr). i.imm < 2 ^ 32) (take l.instr-index l.code);
}
