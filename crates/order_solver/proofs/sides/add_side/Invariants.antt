use Rattle.std.proofs.Common.{◌≤◌, length, drop}
use Rattle.order_solver.specs.Sides.{IsNarrower}
use Rattle.order_solver.proofs.Adding.{LastsHold}
use Rattle.order_solver.proofs.Spending.{SpendsFrom}
use Rattle.order_solver.proofs.sides.add_side.Given as goal

abbrev pub invariant-loop-left : goal.invariant-loop-left
invariant-loop-left l = record {
  within : l.left ≤ length l.last_reads;
  narrower : IsNarrower (LastsHold l.source (drop l.left l.last_reads)) l.initial.graph l.graph;
  spends : SpendsFrom l.source l.last_reads l.left l.initial.graph l.graph;
}

abbrev pub decreases-loop-left : goal.decreases-loop-left
decreases-loop-left l = l.left
