use Rattle.std.proofs.Common.{◌≡◌, ℕ, ◌<◌, get_or, ◌⊎◌}
use Rattle.plain_search.specs.Edges.{LeadsTo}
use Rattle.order_graph.specs.Graphs.{edges_of}
use Rattle.order_solver.proofs.sides.is_implied.Given as goal

abbrev pub invariant-loop-last : goal.invariant-loop-last
invariant-loop-last l = (k : ℕ) → k < l.last-index → (get_or l.last_reads k 0 ≡ l.source) ⊎ LeadsTo (edges_of l.graph) (get_or l.last_reads k 0) l.source
