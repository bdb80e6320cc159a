use Rattle.std.proofs.Common.{ℕ, ◌≤◌}
use Rattle.order_judge.specs.Sorted.{IsAround}
use Rattle.order_judge.proofs.Backs.{IsBack}
use Rattle.order_judge.proofs.Least.{IsLeastAmong}
use Rattle.order_judge.proofs.passes.first_around.Given as goal

abbrev pub invariant-loop-k : goal.invariant-loop-k
invariant-loop-k l = IsBack l.sorted l.k l.back × IsLeastAmong (λ (p : ℕ). l.k ≤ p) IsAround l.sorted l.least
