use Rattle.std.proofs.Common.{sym, refl, arith}
use Rattle.order_graph.specs.Graphs.{edges_of}
use Rattle.races.proofs.Sides.{side-open, side-shut}
use Rattle.races.proofs.shut.is_shut.Goals as goal

pub returns-then-before : goal.returns-then-before
returns-then-before c = sym (side-shut (edges_of c.args.graph.now) c.args.last_reads.now c.args.source c.loop-last.last-index (omega arith) c.if-last-source.true (c.if-before.ensures.0 refl))

pub returns : goal.returns
returns c = sym (side-open (edges_of c.args.graph.now) c.args.last_reads.now c.args.source c.acyclic_law.ensures (λ k l. c.loop-last.invariant k (omega arith)))
