use Rattle.std.proofs.Common.{◌<◌, ◌^◌}
use Rattle.machine.specs.Programs.{Instr}
use Rattle.machine.specs.Images.{instr_image}
use Rattle.std.proofs.lemmas.List.Elements.{All-more}
use Rattle.machine.proofs.ImageWriting.{one_more}
use Rattle.machine.proofs.image_writing.put_code.Goals as goal

pub loop-instr-preserved : goal.loop-instr-preserved
loop-instr-preserved c = record {
  written = one_more instr_image c.args.out.now.items _ _ c.args.code.now c.loop-instr.instr-index _ c.loop-instr-test.true c.loop-instr.invariant.written c.in_ok-put_instr.ensures.written;
  numbers = All-more (λ (i : Instr). i.imm < 2 ^ 32) c.args.code.now c.loop-instr.instr-index _ c.loop-instr-test.true c.loop-instr.invariant.numbers c.in_ok-put_instr.ensures.number;
}
