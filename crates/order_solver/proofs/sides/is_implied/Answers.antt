use Rattle.std.proofs.Common.{◌≡◌, true, false, refl, arith}
use Rattle.std.proofs.lemmas.Bool.{both_ways}
use Rattle.order_graph.specs.Graphs.{edges_of}
use Rattle.order_solver.proofs.Testing.{implied, not_implied}
use Rattle.order_solver.proofs.sides.is_implied.Goals as goal

pub returns-then-not-before : goal.returns-then-not-before
returns-then-not-before c = (
  λ (t : false ≡ true). absurd (both_ways false refl t),
  λ by. absurd (not_implied (edges_of c.args.graph.now) c.args.last_reads.now c.args.source c.loop-last.last-index c.acyclic_law.ensures (omega arith) c.if-last-source.true
      (λ w. both_ways c.before-then-last-source.result c.if-not-before.true (c.before-then-last-source.ensures.1 w)) by),
)

pub returns : goal.returns
returns c = (λ _. implied (edges_of c.args.graph.now) c.args.last_reads.now c.args.source (λ k l. c.loop-last.invariant k (omega arith)), λ _. refl)
