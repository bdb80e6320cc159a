use Rattle.std.proofs.Common.{◌<◌, ◌^◌, arith}
use Rattle.std.proofs.lemmas.List.Elements.{All-more}
use Rattle.machine.specs.declared.program.Instr.{Instr}
use Rattle.assembler.specs.Canonical.{instr_line}
use Rattle.assembler.proofs.Lists.{all_taken, item_more}
use Rattle.assembler.proofs.listing.put_code.Goals as goal

pub loop-instr-preserved : goal.loop-instr-preserved
loop-instr-preserved c = record {
  written = item_more instr_line c.loop-instr.out.items _ _ c.args.code.now c.loop-instr.instr-index _ c.loop-instr-test.true c.in_ok-put_instr.ensures.written c.loop-instr.invariant.written;
  numbers = All-more (λ (i : Instr). i.imm < 2 ^ 32) c.args.code.now c.loop-instr.instr-index _ c.loop-instr-test.true c.loop-instr.invariant.numbers c.in_ok-put_instr.ensures.number;
}

pub returns-clause-numbers : goal.returns-clause-numbers
returns-clause-numbers c = all_taken (λ (i : Instr). i.imm < 2 ^ 32) c.args.code.now c.loop-instr.instr-index (omega arith) c.loop-instr.invariant.numbers
