use Rattle.std.proofs.Common.{arith}
use Rattle.assembler.proofs.Lists.{inits_more, inits_done}
use Rattle.assembler.proofs.listing.put_inits.Goals as goal

pub loop-word-preserved : goal.loop-word-preserved
loop-word-preserved c = inits_more c.loop-word.out.items _ _ c.args.words.now c.loop-word.word (omega arith) c.in_ok-put_init.ensures c.loop-word.invariant

pub returns-clause-written : goal.returns-clause-written
returns-clause-written c = inits_done c.loop-word.out.items _ c.args.words.now c.loop-word.word (omega arith) c.loop-word.invariant
