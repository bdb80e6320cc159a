-- What the edges of a side hold under, and when they close a cycle.
use Rattle.std.proofs.Common.{◌≡◌, ℕ, ◌<◌, Bool, true, false, eqb, List, [], ◌∷◌, ◌++◌, length, get_or, refl, sym, subst, arith, inl, inr, ◌⊎◌}
use Rattle.std.specs.Prelude.{All, not, map, filter, cond}
use Rattle.std.proofs.lemmas.Bool.{cases_Bool, eqb-true, eq-eqb, false_from_ne_true, both_ways}
use Rattle.std.proofs.lemmas.List.Elements.{All-nil, All-cons, All-head, All-tail, All-from_get_or, All-get_or}
use Rattle.plain_search.specs.declared.Edge.{Edge}
use Rattle.plain_search.specs.Edges.{LeadsTo, is_acyclic, Holds}
use Rattle.plain_search.specs.Openness.{is_shut}
use Rattle.plain_search.proofs.Walks.{Arrives, reaches-walk, walk-reaches}
use Rattle.plain_search.proofs.Rankings.{Rises, reaches-rises, acyclic-ranked, Holds-split}
use Rattle.plain_search.proofs.OneEnd.{EndsIn, IsApart, apart-acyclic}
use Rattle.plain_search.specs.Chains.{arrow}
use Rattle.constraints.specs.Constraints.{edges_to}

-- a is b, or ranks below it
abbrev pub AtMost : (ℕ → ℕ) → ℕ → ℕ → Type 0
AtMost rank a b = (a ≡ b) ⊎ (rank a < rank b)

-- a side holds exactly where each of its last reads is its end or ranks below it
pub side-holds : (rank : ℕ → ℕ) (last_reads : List ℕ) (to : ℕ) → All (λ l. AtMost rank l to) last_reads → Holds rank (edges_to last_reads to)
side-holds rank [] to h = All-nil (Rises rank)
side-holds rank (l ∷ last_reads) to h = go (side-holds rank last_reads to (All-tail (λ x. AtMost rank x to) l last_reads h)) (All-head (λ x. AtMost rank x to) l last_reads h) (cases_Bool (eqb l to))
  where
    go : Holds rank (edges_to last_reads to) → AtMost rank l to → (eqb l to ≡ true) ⊎ (eqb l to ≡ false) → Holds rank (edges_to (l ∷ last_reads) to)
    go ih b (inl t) = rw t ih
    go ih (inl e) (inr f) = absurd (both_ways _ f (eq-eqb l to e))
    go ih (inr r) (inr f) = rw f (All-cons (Rises rank) (arrow l to) (edges_to last_reads to) r ih)

pub holds-side : (rank : ℕ → ℕ) (last_reads : List ℕ) (to : ℕ) → Holds rank (edges_to last_reads to) → All (λ l. AtMost rank l to) last_reads
holds-side rank [] to h = All-nil (λ l. AtMost rank l to)
holds-side rank (l ∷ last_reads) to h = go (holds-side rank last_reads to) (cases_Bool (eqb l to))
  where
    P : Bool → Type 0
    P b = Holds rank (map (λ x. arrow x to) (cond (not b) (l ∷ filter (λ x. not (eqb x to)) last_reads) (filter (λ x. not (eqb x to)) last_reads)))

    go : (Holds rank (edges_to last_reads to) → All (λ x. AtMost rank x to) last_reads) → (eqb l to ≡ true) ⊎ (eqb l to ≡ false) → All (λ x. AtMost rank x to) (l ∷ last_reads)
    go ih (inl t) = All-cons (λ x. AtMost rank x to) l last_reads (inl (eqb-true l to t)) (ih (subst P t h))
    go ih (inr f) =
        let k : Holds rank (arrow l to ∷ edges_to last_reads to) = subst P f h in
        All-cons (λ x. AtMost rank x to) l last_reads (inr (All-head (Rises rank) (arrow l to) (edges_to last_reads to) k)) (ih (All-tail (Rises rank) (arrow l to) (edges_to last_reads to) k))

side-ends : (last_reads : List ℕ) (to : ℕ) → All (EndsIn to) (edges_to last_reads to)
side-ends [] to = All-nil (EndsIn to)
side-ends (l ∷ last_reads) to = go (side-ends last_reads to) (cases_Bool (eqb l to))
  where
    go : All (EndsIn to) (edges_to last_reads to) → (eqb l to ≡ true) ⊎ (eqb l to ≡ false) → All (EndsIn to) (edges_to (l ∷ last_reads) to)
    go ih (inl t) = rw t ih
    go ih (inr f) = rw f (All-cons (EndsIn to) (arrow l to) (edges_to last_reads to) refl ih)

-- the end of a side does not lead to its starts
side-apart : (edges : List Edge) (last_reads : List ℕ) (to : ℕ) → All (λ l. (l ≡ to) ⊎ (LeadsTo edges to l → ⊥)) last_reads → All (IsApart edges to) (edges_to last_reads to)
side-apart edges [] to h = All-nil (IsApart edges to)
side-apart edges (l ∷ last_reads) to h =
    go (side-apart edges last_reads to (All-tail (λ x. (x ≡ to) ⊎ (LeadsTo edges to x → ⊥)) l last_reads h)) (All-head (λ x. (x ≡ to) ⊎ (LeadsTo edges to x → ⊥)) l last_reads h) (cases_Bool (eqb l to))
  where
    go : All (IsApart edges to) (edges_to last_reads to) → (l ≡ to) ⊎ (LeadsTo edges to l → ⊥) → (eqb l to ≡ true) ⊎ (eqb l to ≡ false) → All (IsApart edges to) (edges_to (l ∷ last_reads) to)
    go ih b (inl t) = rw t ih
    go ih (inl e) (inr f) = absurd (both_ways _ f (eq-eqb l to e))
    go ih (inr n) (inr f) = rw f (All-cons (IsApart edges to) (arrow l to) (edges_to last_reads to) none ih)
      where
        none : Arrives edges to l → ⊥
        none (inl e) = both_ways _ f (eq-eqb l to (sym e))
        none (inr r) = n (reaches-walk edges to l r)

-- so it closes no cycle
pub side-open : (edges : List Edge) (last_reads : List ℕ) (to : ℕ) → is_acyclic edges ≡ true →
    ((k : ℕ) → k < length last_reads → (get_or last_reads k 0 ≡ to) ⊎ (LeadsTo edges to (get_or last_reads k 0) → ⊥)) → is_shut edges (edges_to last_reads to) ≡ false
side-open edges last_reads to a h =
    let e : is_acyclic (edges_to last_reads to ++ edges) ≡ true =
    apart-acyclic to (edges_to last_reads to) edges (side-ends last_reads to) a (side-apart edges last_reads to (All-from_get_or (λ l. (l ≡ to) ⊎ (LeadsTo edges to l → ⊥)) last_reads 0 h)) in
    rw e refl

-- where it leads to one of them, it does
pub side-shut : (edges : List Edge) (last_reads : List ℕ) (to k : ℕ) → k < length last_reads → (get_or last_reads k 0 ≡ to → ⊥) → LeadsTo edges to (get_or last_reads k 0) → is_shut edges (edges_to last_reads to) ≡ true
side-shut edges last_reads to k l n (between, w) = let e : is_acyclic (edges_to last_reads to ++ edges) ≡ false = false_from_ne_true _ (λ a.
    let (rank, h) = acyclic-ranked (edges_to last_reads to ++ edges) a in
    let (p, q) = Holds-split rank (edges_to last_reads to) edges h in
    let up = reaches-rises rank edges to (get_or last_reads k 0) q (walk-reaches edges to between (get_or last_reads k 0) w) in
    turned rank up (All-get_or (λ x. AtMost rank x to) last_reads k 0 l (holds-side rank last_reads to p))) in rw e refl
  where
    turned : (rank : ℕ → ℕ) → rank to < rank (get_or last_reads k 0) → AtMost rank (get_or last_reads k 0) to → ⊥
    turned rank up (inl e) = n e
    turned rank up (inr r) = absurd (omega (arith, up, r))
