-- Memory for a search: a side that is taken costs no more than its pair, which was not decided before.
use Rattle.std.proofs.Common.{◌≡◌, ℕ, zero, suc, ◌+◌, ◌<◌, ◌≤◌, List, [], ◌∷◌, ◌++◌, length, refl, sym, ap, subst, arith, inl, inr, ◌⊎◌}
use Rattle.std.specs.Prelude.{Contains}
use Rattle.std.proofs.lemmas.List.Sums.{sum_by-cons}
use Rattle.std.proofs.lemmas.List.Elements.{All-nil, Contains-append_cases}
use Rattle.plain_search.specs.declared.Edge.{Edge}
use Rattle.plain_search.specs.Edges.{Implies}
use Rattle.plain_search.specs.Searches.{Pair}
use Rattle.plain_search.proofs.Rankings.{Rises, Holds-split}
use Rattle.order_graph.specs.Graphs.{GraphState, edges_of}
use Rattle.order_solver.specs.Rivals.{Rivalry, pairs_from, problem_in}
use Rattle.constraints.specs.Constraints.{longer_side, longer_sides}
use Rattle.order_solver.specs.Rooms.{IsDecided, HaveCost, HasRoom, SpendsAtMost, LacksRoom}

costs-cons : (pair : Pair) (pairs : List Pair) → longer_sides (pair ∷ pairs) ≡ longer_side pair + longer_sides pairs
costs-cons pair pairs = sum_by-cons longer_side pair pairs

decided-more : (edges others : List Edge) (pair : Pair) → Implies others edges → IsDecided edges pair → IsDecided others pair
decided-more edges others pair by (inl h) = inl (λ rank k. h rank (by rank k))
decided-more edges others pair by (inr h) = inr (λ rank k. h rank (by rank k))

pub cost-none : (edges : List Edge) (pairs : List Pair) → HaveCost edges pairs 0
cost-none edges [] = refl
cost-none edges (pair ∷ pairs) = inl (cost-none edges pairs)

pub cost-more : (edges others : List Edge) (pairs : List Pair) (cost : ℕ) → Implies others edges → HaveCost edges pairs cost → HaveCost others pairs cost
cost-more edges others [] cost by h = h
cost-more edges others (pair ∷ pairs) cost by (inl h) = inl (cost-more edges others pairs cost by h)
cost-more edges others (pair ∷ pairs) cost by (inr (d, rest, e, h)) = inr (decided-more edges others pair by d, rest, e, cost-more edges others pairs rest by h)

pub cost-within : (edges : List Edge) (pairs : List Pair) (cost : ℕ) → HaveCost edges pairs cost → cost ≤ longer_sides pairs
cost-within edges [] cost h = omega (arith, h)
cost-within edges (pair ∷ pairs) cost (inl h) = let a = cost-within edges pairs cost h in let b = costs-cons pair pairs in omega (arith, a, b)
cost-within edges (pair ∷ pairs) cost (inr (d, rest, e, h)) = let a = cost-within edges pairs rest h in let b = costs-cons pair pairs in omega (arith, a, b, e)

-- the first of a list, or one of the others
pub first-or : (first pair : Pair) (pairs : List Pair) → Contains (first ∷ pairs) pair → (first ≡ pair) ⊎ Contains pairs pair
first-or first pair pairs c = go (Contains-append_cases (first ∷ []) pairs pair c)
  where
    go : Contains (first ∷ []) pair ⊎ Contains pairs pair → (first ≡ pair) ⊎ Contains pairs pair
    go (inl (zero, l, e)) = inl e
    go (inl (suc k, l, e)) = absurd (omega (arith, l))
    go (inr m) = inr m

-- one more pair is decided
pub cost-one : (edges others : List Edge) (pairs : List Pair) (pair : Pair) (cost : ℕ) → Implies others edges → Contains pairs pair → (IsDecided edges pair → ⊥) → IsDecided others pair →
    HaveCost edges pairs cost → HaveCost others pairs (cost + longer_side pair)
cost-one edges others [] pair cost by c loose now h = absurd (let l = c.1 in omega (arith, l))
cost-one edges others (first ∷ pairs) pair cost by c loose now h = go (λ n m k. cost-one edges others pairs pair n by m loose now k) (first-or first pair pairs c) h
  where
    go : ((n : ℕ) → Contains pairs pair → HaveCost edges pairs n → HaveCost others pairs (n + longer_side pair)) → (first ≡ pair) ⊎ Contains pairs pair → HaveCost edges (first ∷ pairs) cost → HaveCost others (first ∷ pairs) (cost + longer_side pair)
    go ih (inl e) (inl k) = inr (subst (IsDecided others) (sym e) now, cost, ap (λ (p : Pair). cost + longer_side p) (sym e), cost-more edges others pairs cost by k)
    go ih (inl e) (inr (d, rest, q, k)) = absurd (loose (subst (IsDecided edges) e d))
    go ih (inr m) (inl k) = inl (ih cost m k)
    go ih (inr m) (inr (d, rest, q, k)) = inr (decided-more edges others first by d, rest + longer_side pair, omega (arith, q), ih rest m k)

-- a pair that is not decided costs something
no-side : (edges : List Edge) (side : List Edge) → (Implies edges side → ⊥) → 1 ≤ length side
no-side edges [] h = absurd (h (λ rank k. All-nil (Rises rank)))
no-side edges (e ∷ side) h = omega arith

pub costs-one : (edges : List Edge) (pair : Pair) → (IsDecided edges pair → ⊥) → 1 ≤ longer_side pair
costs-one edges pair loose = let a = no-side edges pair.lesser (λ h. loose (inl h)) in omega (arith, a)

pub fewer-fit : (r : Rivalry) (memory frames : ℕ) (g : GraphState) → HasRoom r memory (frames + 1) g → HasRoom r memory frames g
fewer-fit r memory frames g h = record {
  fits = record { cost = h.fits.cost; decided = h.fits.decided; few = (let a = h.fits.few in omega (arith, a)); enough = h.fits.enough };
  spare = h.spare;
}

-- a side of a pair was taken that was not decided before
pub took-room : (r : Rivalry) (memory frames count : ℕ) (pair : Pair) (old new : GraphState) → Contains (problem_in r).pairs pair → (IsDecided (edges_of old) pair → ⊥) → IsDecided (edges_of new) pair →
    Implies (edges_of new) (edges_of old) → SpendsAtMost count old new → count ≤ longer_side pair → HasRoom r memory frames old → HasRoom r memory (frames + 1) new
took-room r memory frames count pair old new there loose now by spends few h = record {
  fits = record {
    cost = h.fits.cost + longer_side pair;
    decided = cost-one (edges_of old) (edges_of new) (pairs_from r 0 r.words) pair h.fits.cost by there loose now h.fits.decided;
    few = (let a = h.fits.few in let b = costs-one (edges_of old) pair loose in omega (arith, a, b));
    enough = (let a = h.fits.enough in let b = spends.added in omega (arith, a, b, few));
  };
  spare = (let a = h.spare in let b = spends.spare in omega (arith, a, b));
}

-- there is memory for it
pub spent-room : (r : Rivalry) (count : ℕ) (pair : Pair) (g : GraphState) → Contains (problem_in r).pairs pair → (IsDecided (edges_of g) pair → ⊥) → count ≤ longer_side pair → g.spare < count → LacksRoom r g
spent-room r count pair g there loose few short memory frames h =
    let more : List Edge = pair.lesser ++ edges_of g in
    let k = cost-one (edges_of g) more (pairs_from r 0 r.words) pair h.fits.cost (λ rank x. (Holds-split rank pair.lesser (edges_of g) x).1) there loose
    (inl (λ rank x. (Holds-split rank pair.lesser (edges_of g) x).0)) h.fits.decided in
    let a = cost-within more (pairs_from r 0 r.words) (h.fits.cost + longer_side pair) k in
    let b = h.fits.enough in
    let s = h.spare in absurd (omega (arith, a, b, s, few, short))

-- a pair neither side of which is implied
pub undecided : (edges : List Edge) (pair : Pair) → (Implies edges pair.lesser → ⊥) → (Implies edges pair.greater → ⊥) → IsDecided edges pair → ⊥
undecided edges pair one two (inl h) = one h
undecided edges pair one two (inr h) = two h
