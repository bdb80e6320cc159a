-- Edges between numbers, walks along them, and rankings under which they hold.
use Rattle.std.specs.Prelude.{◌≡◌, ℕ, ◌<◌, Bool, true, false, not, ◌&&◌, ◌||◌, eqb, List, [], ◌∷◌, ◌⊎◌, All, Contains}
use Rattle.plain_search.specs.declared.Edge.{Edge}

-- a walk of at least one edge, over the numbers between
abbrev pub IsWalk : List Edge → ℕ → List ℕ → ℕ → Type 0
IsWalk edges u [] v = Contains edges (record { from = u; to = v })
IsWalk edges u (m ∷ between) v = Contains edges (record { from = u; to = m }) × IsWalk edges m between v

-- a walk of at least one edge leads from u to v
abbrev pub LeadsTo : List Edge → ℕ → ℕ → Type 0
LeadsTo edges u v = (between : List ℕ) × IsWalk edges u between v

-- such a walk leads from u to v, or they are one number
abbrev pub IsOrLeadsTo : List Edge → ℕ → ℕ → Type 0
IsOrLeadsTo edges u v = (u ≡ v) ⊎ LeadsTo edges u v

-- whether a walk of at least one edge leads from u to v: one without the first edge, or one to its start and one from its end, each of them
-- possibly with no edge
unfoldable pub reaches : List Edge → ℕ → ℕ → Bool
reaches [] u v = false
reaches (e ∷ edges) u v = reaches edges u v || ((eqb u e.from || reaches edges u e.from) && (eqb e.to v || reaches edges e.to v))

-- whether the edges close no cycle, each added to those after it: none begins where its end leads back to
unfoldable pub is_acyclic : List Edge → Bool
is_acyclic [] = true
is_acyclic (e ∷ edges) = is_acyclic edges && not (eqb e.to e.from || reaches edges e.to e.from)

-- a ranking gives each number a rank. The edges hold under it where each one rises
abbrev pub Holds : (ℕ → ℕ) → List Edge → Type 0
Holds rank edges = All (λ (e : Edge). rank e.from < rank e.to) edges

-- wherever these edges hold, so do those
abbrev pub Implies : List Edge → List Edge → Type 0
Implies edges others = (rank : ℕ → ℕ) → Holds rank edges → Holds rank others
