use Rattle.std.proofs.Common.{◌≡◌, ◌<◌, ◌^◌, ◌++◌, take, All}
use Rattle.std.specs.List.{flat_map}
use Rattle.machine.specs.Programs.{Instr}
use Rattle.machine.specs.Images.{code_image}
use Rattle.machine.proofs.image_writing.put_codes.Given as goal

abbrev pub invariant-loop-thread : goal.invariant-loop-thread
invariant-loop-thread l = record {
  written : l.out.items ≡ l.fn.out.items ++ flat_map code_image (take l.thread l.program.threads);
  numbers : All (All (λ (i : Instr). i.imm < 2 ^ 32)) (take l.thread l.program.threads);
}
