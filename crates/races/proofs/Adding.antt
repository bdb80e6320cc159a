-- Adding edges that have to hold.
use Rattle.std.proofs.Common.{◌≡◌, ℕ, ◌+◌, ◌<◌, List, [], ◌∷◌, ◌++◌, length, get_or, take, append_assoc, refl, sym, ◌∙◌, ap, subst, arith, inl, inr}
use Rattle.std.specs.Prelude.{Result, Ok, Err}
use Rattle.std.proofs.lemmas.List.{length-take-le, get_or-take}
use Rattle.std.proofs.lemmas.List.Elements.{All-nil, All-cons, All-head, All-get_or, All-more, All-from_get_or}
use Rattle.light_base.specs.declared.memory.Memory.{Memory}
use Rattle.plain_search.specs.declared.Edge.{Edge}
use Rattle.plain_search.specs.Edges.{LeadsTo, IsOrLeadsTo, Holds}
use Rattle.plain_search.specs.Chains.{arrow, chains_from}
use Rattle.plain_search.proofs.Walks.{walk-reaches}
use Rattle.plain_search.proofs.Rankings.{Rises, reaches-rises, Holds-split, Holds-join}
use Rattle.order_graph.specs.declared.thread_graph.Added.{Added}
use Rattle.order_graph.specs.declared.thread_graph.Added.TheVariants.{In, Cycle}
use Rattle.order_graph.specs.Graphs.{GraphState, edges_of, Adds}
use Rattle.races.specs.Narrowing.{IsNarrower, Narrows}

-- nothing was added, and nothing had to be
pub narrower-same : (P : (ℕ → ℕ) → Type 0) (g : GraphState) → ((rank : ℕ → ℕ) → Holds rank (edges_of g) → P rank) → IsNarrower P g g
narrower-same P g h = record { counts = refl; old_holds = λ rank k. k; holds = h; all = λ rank k p. k }

-- one more condition, by which another one becomes so
pub narrower-step : (P Q R : (ℕ → ℕ) → Type 0) (a b c : GraphState) (added : Added) → IsNarrower P a b → Narrows Q b (Ok added) c → added ≡ In →
    ((rank : ℕ → ℕ) → P rank → Q rank → R rank) → ((rank : ℕ → ℕ) → R rank → P rank × Q rank) → IsNarrower R a c
narrower-step P Q R a b c added one two e there back = go (subst (λ (x : Added). Narrows Q b (Ok x) c) e two)
  where
    go : IsNarrower Q b c → IsNarrower R a c
    go n = record {
      counts = n.counts ∙ one.counts;
      old_holds = λ rank h. one.old_holds rank (n.old_holds rank h);
      holds = λ rank h. there rank (one.holds rank (n.old_holds rank h)) (n.holds rank h);
      all = λ rank h r. let p = back rank r in n.all rank (one.all rank h p.0) p.1;
    }

pub narrower-cycle : (P Q R : (ℕ → ℕ) → Type 0) (a b c : GraphState) (added : Added) → IsNarrower P a b → Narrows Q b (Ok added) c → added ≡ Cycle →
    ((rank : ℕ → ℕ) → R rank → P rank × Q rank) → (rank : ℕ → ℕ) → Holds rank (edges_of a) → R rank → ⊥
narrower-cycle P Q R a b c added one two e back rank h r =
    let none : (o : ℕ → ℕ) → Holds o (edges_of b) → Q o → ⊥ = subst (λ (x : Added). Narrows Q b (Ok x) c) e two in
    let p = back rank r in none rank (one.all rank h p.0) p.1

-- an edge stands at the end
edge-narrows : (u v : ℕ) (old new : GraphState) → new.counts ≡ old.counts → new.added ≡ old.added ++ arrow u v ∷ [] → IsNarrower (λ rank. rank u < rank v) old new
edge-narrows u v old new c a = record {
  counts = c;
  old_holds = λ rank h. (parts rank h).0;
  holds = λ rank h. (parts rank h).1;
  all = joined;
}
  where
    is : edges_of new ≡ edges_of old ++ arrow u v ∷ []
    is = ap (λ (xs : List ℕ). chains_from 0 xs ++ new.added) c ∙ ap (λ (xs : List Edge). chains_from 0 old.counts ++ xs) a ∙ sym (append_assoc (chains_from 0 old.counts) old.added (arrow u v ∷ []))

    parts : (rank : ℕ → ℕ) → Holds rank (edges_of new) → Holds rank (edges_of old) × (rank u < rank v)
    parts rank h =
        let (p, q) = Holds-split rank (edges_of old) (arrow u v ∷ []) (subst (λ (xs : List Edge). Holds rank xs) is h) in
        (p, All-head (Rises rank) (arrow u v) [] q)

    joined : (rank : ℕ → ℕ) → Holds rank (edges_of old) → rank u < rank v → Holds rank (edges_of new)
    joined rank h l = subst (λ (xs : List Edge). Holds rank xs) (sym is) (Holds-join rank (edges_of old) (arrow u v ∷ []) h (All-cons (Rises rank) (arrow u v) [] l (All-nil (Rises rank))))

-- what comes before the start of an edge under all edges does so under each ranking
turned : (u v : ℕ) (edges : List Edge) → IsOrLeadsTo edges v u → (rank : ℕ → ℕ) → Holds rank edges → rank u < rank v → ⊥
turned u v edges (inl e) rank h r = let q = ap rank e in absurd (omega (arith, q, r))
turned u v edges (inr (between, w)) rank h r = let q = reaches-rises rank edges v u h (walk-reaches edges v between u w) in absurd (omega (arith, q, r))

pub added-narrows : (u v : ℕ) (old new : GraphState) (result : Result Added Memory) → Adds old u v result new → Narrows (λ rank. rank u < rank v) old result new
added-narrows u v old new (Ok In) h = edge-narrows u v old new h.1 h.2
added-narrows u v old new (Ok Cycle) h = turned u v (edges_of old) h.0
added-narrows u v old new (Err m) h = tt

-- a walk leads there already
pub led-narrows : (u v : ℕ) (g : GraphState) → LeadsTo (edges_of g) u v → IsNarrower (λ rank. rank u < rank v) g g
led-narrows u v g (between, w) = narrower-same (λ rank. rank u < rank v) g (λ rank h. reaches-rises rank (edges_of g) u v h (walk-reaches (edges_of g) u between v w))

abbrev pub edge_at : List Edge → ℕ → Edge
edge_at edges k = get_or edges k (arrow 0 0)

pub edges-more : (rank : ℕ → ℕ) (edges : List Edge) (k : ℕ) → k < length edges → Holds rank (take k edges) → rank (edge_at edges k).from < rank (edge_at edges k).to → Holds rank (take (k + 1) edges)
edges-more rank edges k l h e = All-more (Rises rank) edges k (arrow 0 0) l h e

pub edges-less : (rank : ℕ → ℕ) (edges : List Edge) (k : ℕ) → k < length edges → Holds rank (take (k + 1) edges) → Holds rank (take k edges) × (rank (edge_at edges k).from < rank (edge_at edges k).to)
edges-less rank edges k l h = (
  All-from_get_or (Rises rank) (take k edges) (arrow 0 0) (λ i m.
      let n : i < k = (let t = length-take-le k edges (omega (arith, l)) in omega (arith, t, m)) in
      subst (Rises rank) (sym (get_or-take k edges i (arrow 0 0) n)) (at i (omega (arith, n)))),
  at k (omega arith),
)
  where
    at : (i : ℕ) → i < k + 1 → Rises rank (edge_at edges i)
    at i m = subst (Rises rank) (get_or-take (k + 1) edges i (arrow 0 0) m)
        (All-get_or (Rises rank) (take (k + 1) edges) i (arrow 0 0) (let t = length-take-le (k + 1) edges (omega (arith, l)) in omega (arith, t, m)) h)

-- the condition in other words
pub narrower-alike : (P Q : (ℕ → ℕ) → Type 0) (a b : GraphState) → ((rank : ℕ → ℕ) → P rank → Q rank) → ((rank : ℕ → ℕ) → Q rank → P rank) → IsNarrower P a b → IsNarrower Q a b
narrower-alike P Q a b there back n = record {
  counts = n.counts;
  old_holds = n.old_holds;
  holds = λ rank h. there rank (n.holds rank h);
  all = λ rank h q. n.all rank h (back rank q);
}
