-- What a search begins with.
use Rattle.std.specs.Prelude.{◌≡◌, ℕ, ◌≤◌, Ok, [], IfSome, sum, vec_capacity}
use Rattle.order_graph.specs.Graphs.{GraphState}
use Rattle.order_solver.specs.declared.finding.Prepared.{Prepared}
use Rattle.order_solver.specs.Rivals.{Rivalry}
use Rattle.order_solver.specs.Begun.{Begins}

-- the most edges of pairs' longer sides for which the memory is taken first
abbrev pub most_side_edges : ℕ
most_side_edges = 4194304

-- a graph with the same edges, and memory for so many more
pub record HasSpare (adds : ℕ) (old new : GraphState) : Type 0 where
  pub counts : new.counts ≡ old.counts
  pub added : new.added ≡ old.added
  pub spare : adds ≤ new.spare

-- a graph with which the search may begin, or none where no ranking solves the problem; no frames yet, and an empty row with room for all
-- nodes
pub record IsPrepared (r : Rivalry) (s : Prepared) : Type 0 where
  pub begins : Begins r (Ok s.graph)
  pub frames : s.frames.items ≡ []
  pub line : s.line.items ≡ []
  pub room : sum r.counts ≤ vec_capacity s.line

-- there is memory for so many edges, and for a frame at each
pub record HasMemoryFor (adds : ℕ) (s : Prepared) : Type 0 where
  pub spare : IfSome s.graph (λ g. adds ≤ g.spare)
  pub capacity : adds ≤ vec_capacity s.frames
