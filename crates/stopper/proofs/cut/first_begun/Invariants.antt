use Rattle.std.proofs.Common.{◌<◌, ℕ}
use Rattle.stopper.specs.Nexts.{HasNext}
use Rattle.stopper.proofs.cut.first_begun.Given as goal

abbrev pub invariant-loop-thread : goal.invariant-loop-thread
invariant-loop-thread l = (s : ℕ) → s < l.thread → HasNext l.log l.numbers l.nexts s → ⊥
