use Rattle.std.proofs.Common.{◌≡◌, ◌-◌, ◌*◌, drop}
use Rattle.machine.specs.ImageReading.{code_at}
use Rattle.machine.proofs.ImageSteps.{with_front}
use Rattle.machine.proofs.image.code_of.Given as goal

abbrev pub invariant-loop-at : goal.invariant-loop-at
invariant-loop-at l = with_front l.code.items (code_at l.len l.thread l.at (l.len - l.at) (drop (8 * l.at) l.bytes)) ≡ code_at l.len l.thread 0 l.len l.bytes
