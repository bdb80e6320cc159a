-- What a search may do so that it finds what the plain search finds, and meets no more dead ends.
use Rattle.std.specs.Prelude.{◌≡◌, ℕ, ◌+◌, ◌≤◌, true, false, Option, Some, None, List, [], ◌∷◌, ◌++◌, ◌⊎◌, Contains}
use Rattle.plain_search.specs.declared.Edge.{Edge}
use Rattle.plain_search.specs.Edges.{is_acyclic, Holds, Implies}
use Rattle.plain_search.specs.Searches.{Pair, PairProblem, problem_of, Solves, outcome}
use Rattle.plain_search.specs.Standing.{Stands}

-- how a search begins and ends, and what its count is worth at each moment
pub record Ends : Type 0 where
  -- it begins with the whole problem, where the edges have no cycle
  pub begin : (problem : PairProblem) → is_acyclic problem.edges ≡ true → Stands problem [] (Some problem) 0
  -- all pairs are passed: each ranking of the edges solves the problem
  pub found : (problem : PairProblem) (waiting : List PairProblem) (edges : List Edge) (dead : ℕ) →
      Stands problem waiting (Some (problem_of edges [])) dead → (rank : ℕ → ℕ) → Holds rank edges → Solves problem rank
  -- it goes back, and nothing waits: no ranking solves the problem
  pub none : (problem : PairProblem) (dead : ℕ) → Stands problem [] None dead → (rank : ℕ → ℕ) → Solves problem rank → ⊥
  -- it has met no more dead ends than the plain search meets
  pub bounded : (problem : PairProblem) (waiting : List PairProblem) (here : Option PairProblem) (dead : ℕ) →
      Stands problem waiting here dead → dead ≤ (outcome problem).dead

-- what it may do at the next pair, and when it goes back
pub record Turns : Type 0 where
  -- the lesser side is open: it takes that, and leaves the greater one for later
  pub lesser : (problem : PairProblem) (waiting : List PairProblem) (edges : List Edge) (pair : Pair) (pairs : List Pair) (dead : ℕ) →
      Stands problem waiting (Some (problem_of edges (pair ∷ pairs))) dead → is_acyclic (pair.lesser ++ edges) ≡ true →
      Stands problem (problem_of (pair.greater ++ edges) pairs ∷ waiting) (Some (problem_of (pair.lesser ++ edges) pairs)) dead
  -- the greater side alone is open: it takes that
  pub greater : (problem : PairProblem) (waiting : List PairProblem) (edges : List Edge) (pair : Pair) (pairs : List Pair) (dead : ℕ) →
      Stands problem waiting (Some (problem_of edges (pair ∷ pairs))) dead → is_acyclic (pair.lesser ++ edges) ≡ false → is_acyclic (pair.greater ++ edges) ≡ true →
      Stands problem waiting (Some (problem_of (pair.greater ++ edges) pairs)) dead
  -- neither is open: it has met one more dead end, and goes back
  pub dead_end : (problem : PairProblem) (waiting : List PairProblem) (edges : List Edge) (pair : Pair) (pairs : List Pair) (dead : ℕ) →
      Stands problem waiting (Some (problem_of edges (pair ∷ pairs))) dead → is_acyclic (pair.lesser ++ edges) ≡ false → is_acyclic (pair.greater ++ edges) ≡ false →
      Stands problem waiting None (dead + 1)
  -- the edges imply one side already; the greater one serves only where the lesser one is shut
  pub pass : (problem : PairProblem) (waiting : List PairProblem) (edges : List Edge) (pair : Pair) (pairs : List Pair) (dead : ℕ) →
      Stands problem waiting (Some (problem_of edges (pair ∷ pairs))) dead →
      Implies edges pair.lesser ⊎ (Implies edges pair.greater × (is_acyclic (pair.lesser ++ edges) ≡ false)) →
      Stands problem waiting (Some (problem_of edges pairs)) dead
  -- it goes back to the nearest rest, and enters it where its edges have no cycle
  pub enter : (problem : PairProblem) (waiting : List PairProblem) (rest : PairProblem) (dead : ℕ) →
      Stands problem (rest ∷ waiting) None dead → is_acyclic rest.edges ≡ true → Stands problem waiting (Some rest) dead
  pub leave : (problem : PairProblem) (waiting : List PairProblem) (rest : PairProblem) (dead : ℕ) →
      Stands problem (rest ∷ waiting) None dead → is_acyclic rest.edges ≡ false → Stands problem waiting None dead

-- what it may do at any time with pairs wherever they stand
pub record Forces : Type 0 where
  -- it goes on with other edges that hold under the same rankings
  pub alike : (problem : PairProblem) (waiting : List PairProblem) (edges others : List Edge) (pairs : List Pair) (dead : ℕ) →
      Stands problem waiting (Some (problem_of edges pairs)) dead → Implies edges others → Implies others edges →
      Stands problem waiting (Some (problem_of others pairs)) dead
  -- it adds edges that hold in each solution of the rest
  pub force : (problem : PairProblem) (waiting : List PairProblem) (edges more : List Edge) (pairs : List Pair) (dead : ℕ) →
      Stands problem waiting (Some (problem_of edges pairs)) dead → ((rank : ℕ → ℕ) → Solves (problem_of edges pairs) rank → Holds rank more) →
      is_acyclic (more ++ edges) ≡ true → Stands problem waiting (Some (problem_of (more ++ edges) pairs)) dead
  -- where those edges close a cycle, it has met one more dead end, and goes back
  pub stuck : (problem : PairProblem) (waiting : List PairProblem) (edges more : List Edge) (pairs : List Pair) (dead : ℕ) →
      Stands problem waiting (Some (problem_of edges pairs)) dead → ((rank : ℕ → ℕ) → Solves (problem_of edges pairs) rank → Holds rank more) →
      is_acyclic (more ++ edges) ≡ false → Stands problem waiting None (dead + 1)
  -- such edges are a side of any pair of the problem, passed or not, whose other side closes a cycle
  pub lesser : (problem : PairProblem) (waiting : List PairProblem) (rest : PairProblem) (dead : ℕ) (pair : Pair) →
      Stands problem waiting (Some rest) dead → Contains problem.pairs pair → is_acyclic (pair.greater ++ rest.edges) ≡ false →
      (rank : ℕ → ℕ) → Solves rest rank → Holds rank pair.lesser
  pub greater : (problem : PairProblem) (waiting : List PairProblem) (rest : PairProblem) (dead : ℕ) (pair : Pair) →
      Stands problem waiting (Some rest) dead → Contains problem.pairs pair → is_acyclic (pair.lesser ++ rest.edges) ≡ false →
      (rank : ℕ → ℕ) → Solves rest rank → Holds rank pair.greater
