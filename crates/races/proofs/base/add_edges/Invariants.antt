use Rattle.std.proofs.Common.{take}
use Rattle.plain_search.specs.Edges.{Holds}
use Rattle.races.specs.Narrowing.{IsNarrower}
use Rattle.races.proofs.base.add_edges.Given as goal

abbrev pub invariant-loop-edge : goal.invariant-loop-edge
invariant-loop-edge l = IsNarrower (λ rank. Holds rank (take l.edge-index l.edges)) l.initial.graph l.graph
