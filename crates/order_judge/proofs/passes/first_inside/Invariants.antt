use Rattle.std.proofs.Common.{ℕ, ◌<◌}
use Rattle.order_judge.specs.LiveRanges.{BeginsInside}
use Rattle.order_judge.proofs.Fronts.{IsFront}
use Rattle.order_judge.proofs.Least.{IsLeastAmong}
use Rattle.order_judge.proofs.passes.first_inside.Given as goal

abbrev pub invariant-loop-one : goal.invariant-loop-one
invariant-loop-one l = IsFront l.sorted l.one-index l.front × IsLeastAmong (λ (p : ℕ). p < l.one-index) BeginsInside l.sorted l.least
