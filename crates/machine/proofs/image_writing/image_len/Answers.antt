use Rattle.std.proofs.Common.{arith, ap, length}
use Rattle.machine.proofs.ImageWriting.{length-image_of}
use Rattle.machine.proofs.image_writing.image_len.Goals as goal

pub returns : goal.returns
returns c = omega (arith, length-image_of c.args.program.now, ap length c.words.ensures.value)
