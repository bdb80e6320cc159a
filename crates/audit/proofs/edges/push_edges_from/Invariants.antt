use Rattle.std.proofs.Common.{◌≡◌, ◌++◌, take}
use Rattle.constraints.specs.Constraints.{edges_from}
use Rattle.audit.proofs.edges.push_edges_from.Given as goal

abbrev pub invariant-loop-to : goal.invariant-loop-to
invariant-loop-to l = l.edges.items ≡ l.fn.edges.items ++ edges_from l.from (take l.to-index l.tos)
