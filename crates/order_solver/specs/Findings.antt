-- What a search finds.
use Rattle.std.specs.Prelude.{ℕ, ◌<◌, Result, Ok, Err, List, sum}
use Rattle.light_base.specs.declared.memory.Memory.{Memory}
use Rattle.plain_search.specs.declared.Edge.{Edge}
use Rattle.plain_search.specs.Edges.{Holds}
use Rattle.plain_search.specs.Searches.{Solves, outcome}
use Rattle.constraints.specs.Laws.{IsLine}
use Rattle.order_solver.specs.declared.finding.Finding.{Finding}
use Rattle.order_solver.specs.declared.finding.Finding.TheVariants as finding
use Rattle.order_solver.specs.Rivals.{Rivalry, problem_in}

-- the row holds each node once, and edges rise along it that ask for all that the problem asks for
pub record IsLineOf (r : Rivalry) (line : List ℕ) : Type 0 where
  pub edges : List Edge
  pub row : IsLine edges (sum r.counts) line
  pub solve : (rank : ℕ → ℕ) → Holds rank edges → Solves (problem_in r) rank

-- there is such a row, no ranking solves the problem, or the plain search meets more dead ends
abbrev pub Finds : Rivalry → ℕ → Result Finding Memory → Type 0
Finds r budget (Ok (finding.Line line)) = IsLineOf r line.items
Finds r budget (Ok finding.None) = (rank : ℕ → ℕ) → Solves (problem_in r) rank → ⊥
Finds r budget (Ok finding.Spent) = budget < (outcome (problem_in r)).dead
Finds r budget (Err _) = Unit {0}
