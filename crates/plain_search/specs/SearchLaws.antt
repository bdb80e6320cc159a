-- What the plain search finds, and how many dead ends it meets.
use Rattle.std.specs.Prelude.{◌≡◌, ℕ, ◌^◌, ◌≤◌, ◌↔◌, Bool, true, false}
use Rattle.plain_search.specs.Edges.{is_acyclic}
use Rattle.plain_search.specs.Searches.{PairProblem, Solves, HasChoice, outcome, dead_ends, open_pairs}

-- the plain search finds a full choice exactly where there is one
abbrev pub FoundIsAChoice : Type 0
FoundIsAChoice = (problem : PairProblem) → ((outcome problem).found ≡ true) ↔ HasChoice problem

-- that is, exactly where some ranking solves the problem
abbrev pub FoundIsSolved : Type 0
FoundIsSolved = (problem : PairProblem) → ((outcome problem).found ≡ true) ↔ ((rank : ℕ → ℕ) × Solves problem rank)

-- so where it finds none, no ranking solves the problem
abbrev pub NoneIsUnsolved : Type 0
NoneIsUnsolved = (problem : PairProblem) → ((outcome problem).found ≡ false) ↔ ((rank : ℕ → ℕ) → Solves problem rank → ⊥)

-- its dead ends are at most 2 to the number of open pairs
abbrev pub DeadEndsAreFew : Type 0
DeadEndsAreFew = (impossible : Bool) (problem : PairProblem) → dead_ends impossible problem ≤ 2 ^ open_pairs problem

-- a search that begins and finds nothing has met a dead end
abbrev pub NoneMeetsDeadEnd : Type 0
NoneMeetsDeadEnd = (problem : PairProblem) → is_acyclic problem.edges ≡ true → (outcome problem).found ≡ false → 1 ≤ (outcome problem).dead
