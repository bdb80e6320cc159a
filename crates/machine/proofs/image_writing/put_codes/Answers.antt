use Rattle.std.proofs.Common.{◌<◌, ◌^◌, ◌++◌, List, [], length, All, subst, ap, ◌∙◌, arith}
use Rattle.machine.specs.Programs.{Instr}
use Rattle.machine.specs.Images.{code_image}
use Rattle.std.proofs.lemmas.List.Elements.{All-more}
use Rattle.machine.proofs.ImageWriting.{one_more}
use Rattle.machine.proofs.image_writing.put_codes.Goals as goal

pub loop-thread-preserved : goal.loop-thread-preserved
loop-thread-preserved c =
    let within : c.loop-thread.thread < length c.args.program.now.threads = omega arith in
    record {
      written = one_more code_image c.args.out.now.items _ _ c.args.program.now.threads c.loop-thread.thread [] within c.loop-thread.invariant.written
          (c.in_ok-put_code.ensures.written ∙ ap (λ (code : List Instr). c.loop-thread.out.items ++ code_image code) c.threads.ensures.value);
      numbers = All-more (All (λ (i : Instr). i.imm < 2 ^ 32)) c.args.program.now.threads c.loop-thread.thread [] within c.loop-thread.invariant.numbers
          (subst (All (λ (i : Instr). i.imm < 2 ^ 32)) c.threads.ensures.value c.in_ok-put_code.ensures.numbers);
    }
