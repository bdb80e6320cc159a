-- What the tests on edges mean.
use Rattle.std.specs.Prelude.{◌≡◌, ℕ, ◌<◌, ◌↔◌, ◌⊎◌, true, List, ◌∷◌, ◌++◌, All}
use Rattle.plain_search.specs.declared.Edge.{Edge}
use Rattle.plain_search.specs.Edges.{LeadsTo, IsOrLeadsTo, reaches, is_acyclic, Holds}

-- what adding edge after edge computes is that a walk leads there
abbrev pub ReachingIsByWalks : Type 0
ReachingIsByWalks = (edges : List Edge) (u v : ℕ) → (reaches edges u v ≡ true) ↔ LeadsTo edges u v

-- edges are acyclic exactly where no walk leads from a number to itself
abbrev pub AcyclicHasNoLoop : Type 0
AcyclicHasNoLoop = (edges : List Edge) → (is_acyclic edges ≡ true) ↔ ((v : ℕ) → LeadsTo edges v v → ⊥)

-- edges are acyclic exactly where all of them hold under some ranking
abbrev pub AcyclicIsRanked : Type 0
AcyclicIsRanked = (edges : List Edge) → (is_acyclic edges ≡ true) ↔ ((rank : ℕ → ℕ) × Holds rank edges)

-- where edges are acyclic, a walk leads from u to v exactly where each ranking under which they hold ranks u below v
abbrev pub WalksAreByRankings : Type 0
WalksAreByRankings = (edges : List Edge) (u v : ℕ) → is_acyclic edges ≡ true →
    LeadsTo edges u v ↔ ((rank : ℕ → ℕ) → Holds rank edges → rank u < rank v)

-- with one more edge a walk leads from u to v exactly where one does without it, or u leads to its start and its end to v
abbrev pub OneMoreEdge : Type 0
OneMoreEdge = (e : Edge) (edges : List Edge) (u v : ℕ) →
    LeadsTo (e ∷ edges) u v ↔ (LeadsTo edges u v ⊎ (IsOrLeadsTo edges u e.from × IsOrLeadsTo edges e.to v))

-- it closes a cycle exactly where its end is its start or leads there
abbrev pub OneMoreCycle : Type 0
OneMoreCycle = (e : Edge) (edges : List Edge) → is_acyclic edges ≡ true →
    (is_acyclic (e ∷ edges) ≡ true) ↔ (IsOrLeadsTo edges e.to e.from → ⊥)

-- edges that all end in v close no cycle exactly where v is none of their starts and leads to none. What v leads to is looked
-- at before the first of them is added
abbrev pub OneEnd : Type 0
OneEnd = (v : ℕ) (side edges : List Edge) → All (λ (e : Edge). e.to ≡ v) side → is_acyclic edges ≡ true →
    (is_acyclic (side ++ edges) ≡ true) ↔ All (λ (e : Edge). IsOrLeadsTo edges v e.from → ⊥) side
