-- Where a search stands, whatever its method: the invariant by which a solver is measured by the plain search.
use Rattle.std.specs.Prelude.{◌≡◌, ℕ, ◌+◌, ◌≤◌, Option, Some, None, IfSome, List, [], ◌∷◌, true, All}
use Rattle.plain_search.specs.Edges.{is_acyclic}
use Rattle.plain_search.specs.Searches.{PairProblem, Solves, Outcome, nothing, or_else, outcome}

-- what is left of a search is a problem too: the edges chosen so far with those of the problem, and the pairs not yet
-- passed. Each ranking that solves the rest solves the problem
abbrev pub IsRestOf : PairProblem → PairProblem → Type 0
IsRestOf problem rest = (rank : ℕ → ℕ) → Solves rest rank → Solves problem rank

-- what comes of an outcome where these rests wait to be tried, the nearest first
unfoldable pub resume : List PairProblem → Outcome → Outcome
resume [] now = now
resume (rest ∷ waiting) now = resume waiting (or_else now (outcome rest))

-- what is tried now comes to: the rest here, or nothing where the search goes back
abbrev pub outcome_here : Option PairProblem → Outcome
outcome_here (Some rest) = outcome rest
outcome_here None = nothing

-- A search of the problem that has met `dead` dead ends tries the rest `here`, or goes back where it is none, and the rests
-- `waiting` are to be tried after it, the nearest first. From here on it finds what the plain search finds, and all its
-- dead ends together are no more than those of the plain search
pub record Stands (problem : PairProblem) (waiting : List PairProblem) (here : Option PairProblem) (dead : ℕ) : Type 0 where
  pub found : (resume waiting (outcome_here here)).found ≡ (outcome problem).found
  pub bounded : dead + (resume waiting (outcome_here here)).dead ≤ (outcome problem).dead
  pub acyclic : IfSome here (λ rest. is_acyclic rest.edges ≡ true)
  pub part : IfSome here (IsRestOf problem)
  pub parts : All (IsRestOf problem) waiting
