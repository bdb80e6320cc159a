use Rattle.std.proofs.Common.{◌<◌, ◌^◌, ◌++◌, List, [], length, All, subst, ap, ◌∙◌, arith}
use Rattle.std.proofs.lemmas.List.Elements.{All-more}
use Rattle.machine.specs.declared.program.Instr.{Instr}
use Rattle.assembler.specs.Canonical.{thread_text}
use Rattle.assembler.proofs.Lists.{all_taken, item_more}
use Rattle.assembler.proofs.listing.put_threads.Goals as goal

pub loop-thread-preserved : goal.loop-thread-preserved
loop-thread-preserved c =
    let within : c.loop-thread.thread < length c.args.program.now.threads = omega arith in
    record {
      written = item_more thread_text c.loop-thread.out.items _ _ c.args.program.now.threads c.loop-thread.thread [] within
          (c.in_ok-put_thread.ensures.written ∙ ap (λ (code : List Instr). c.loop-thread.out.items ++ thread_text code) c.threads.ensures.value) c.loop-thread.invariant.written;
      numbers = All-more (All (λ (i : Instr). i.imm < 2 ^ 32)) c.args.program.now.threads c.loop-thread.thread [] within c.loop-thread.invariant.numbers
          (subst (All (λ (i : Instr). i.imm < 2 ^ 32)) c.threads.ensures.value c.in_ok-put_thread.ensures.numbers);
    }

pub returns-clause-numbers : goal.returns-clause-numbers
returns-clause-numbers c = all_taken (All (λ (i : Instr). i.imm < 2 ^ 32)) c.args.program.now.threads c.loop-thread.thread (omega arith) c.loop-thread.invariant.numbers
