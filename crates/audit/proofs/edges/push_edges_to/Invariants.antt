use Rattle.std.proofs.Common.{◌≡◌, ◌++◌, take}
use Rattle.constraints.specs.Constraints.{edges_to}
use Rattle.audit.proofs.edges.push_edges_to.Given as goal

abbrev pub invariant-loop-from : goal.invariant-loop-from
invariant-loop-from l = l.edges.items ≡ l.fn.edges.items ++ edges_to (take l.from-index l.froms) l.to
