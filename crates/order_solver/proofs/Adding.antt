-- Adding edges that have to hold.
use Rattle.std.proofs.Common.{◌≡◌, ℕ, ◌+◌, ◌<◌, true, List, [], ◌∷◌, ◌++◌, length, get_or, drop, add-one, suc, append_assoc, refl, sym, ◌∙◌, ap, subst, arith, inl, inr}
use Rattle.std.proofs.Math.Seq.{drop-cons}
use Rattle.std.proofs.Math.ListN.{drop_of_length-le}
use Rattle.std.specs.Prelude.{All, Result, Ok, Err}
use Rattle.std.proofs.lemmas.List.{append-nil}
use Rattle.std.proofs.lemmas.List.Elements.{All-nil, All-cons, All-head, All-tail, All-get_or, All-drop}
use Rattle.light_base.specs.declared.memory.Memory.{Memory}
use Rattle.plain_search.specs.declared.Edge.{Edge}
use Rattle.plain_search.specs.Edges.{LeadsTo, IsOrLeadsTo, is_acyclic, Holds}
use Rattle.plain_search.proofs.Walks.{walk-reaches}
use Rattle.plain_search.proofs.Rankings.{Rises, reaches-rises, acyclic-ranked, Holds-split, Holds-join}
use Rattle.order_graph.specs.declared.thread_graph.Added.{Added}
use Rattle.order_graph.specs.declared.thread_graph.Added.TheVariants.{In, Cycle}
use Rattle.plain_search.specs.Chains.{arrow}
use Rattle.order_graph.specs.Graphs.{GraphState, edges_of, Adds}
use Rattle.plain_search.specs.Chains.{chains_from}
use Rattle.order_solver.specs.Rivals.{AtMost}
use Rattle.constraints.specs.Constraints.{edges_to}
use Rattle.order_solver.proofs.Testing.{side-holds, holds-side}
use Rattle.order_solver.specs.Sides.{IsNarrower, Narrows}

-- nothing was added, and nothing had to be
pub narrower-same : (P : (ℕ → ℕ) → Type 0) (g : GraphState) → ((rank : ℕ → ℕ) → Holds rank (edges_of g) → P rank) → IsNarrower P g g
narrower-same P g h = record { counts = refl; more = []; added = sym (append-nil g.added); old_holds = λ rank k. k; holds = h; all = λ rank k p. k }

-- one condition after the other
pub narrower-next : (P Q : (ℕ → ℕ) → Type 0) (a b c : GraphState) → IsNarrower P a b → IsNarrower Q b c → IsNarrower (λ rank. P rank × Q rank) a c
narrower-next P Q a b c one two = record {
  counts = two.counts ∙ one.counts;
  more = one.more ++ two.more;
  added = two.added ∙ ap (λ (xs : List Edge). xs ++ two.more) one.added ∙ append_assoc a.added one.more two.more;
  old_holds = λ rank h. one.old_holds rank (two.old_holds rank h);
  holds = λ rank h. (one.holds rank (two.old_holds rank h), two.holds rank h);
  all = λ rank h p. two.all rank (one.all rank h p.0) p.1;
}

pub narrows-in : (P : (ℕ → ℕ) → Type 0) (a b : GraphState) (added : Added) → Narrows P a (Ok added) b → added ≡ In → IsNarrower P a b
narrows-in P a b added n e = subst (λ (x : Added). Narrows P a (Ok x) b) e n

pub narrows-cycle : (P : (ℕ → ℕ) → Type 0) (a b : GraphState) (added : Added) → Narrows P a (Ok added) b → added ≡ Cycle → (rank : ℕ → ℕ) → Holds rank (edges_of a) → P rank → ⊥
narrows-cycle P a b added n e = subst (λ (x : Added). Narrows P a (Ok x) b) e n

-- the condition in other words
pub narrower-alike : (P Q : (ℕ → ℕ) → Type 0) (a b : GraphState) → ((rank : ℕ → ℕ) → P rank → Q rank) → ((rank : ℕ → ℕ) → Q rank → P rank) → IsNarrower P a b → IsNarrower Q a b
narrower-alike P Q a b there back n = record {
  counts = n.counts;
  more = n.more;
  added = n.added;
  old_holds = n.old_holds;
  holds = λ rank h. there rank (n.holds rank h);
  all = λ rank h q. n.all rank h (back rank q);
}

-- one more condition, by which another one becomes so
pub narrower-step : (P Q R : (ℕ → ℕ) → Type 0) (a b c : GraphState) (added : Added) → IsNarrower P a b → Narrows Q b (Ok added) c → added ≡ In →
    ((rank : ℕ → ℕ) → P rank → Q rank → R rank) → ((rank : ℕ → ℕ) → R rank → P rank × Q rank) → IsNarrower R a c
narrower-step P Q R a b c added one two e there back =
    narrower-alike (λ rank. P rank × Q rank) R a c (λ rank p. there rank p.0 p.1) back (narrower-next P Q a b c one (subst (λ (x : Added). Narrows Q b (Ok x) c) e two))

pub narrower-cycle : (P Q R : (ℕ → ℕ) → Type 0) (a b c : GraphState) (added : Added) → IsNarrower P a b → Narrows Q b (Ok added) c → added ≡ Cycle →
    ((rank : ℕ → ℕ) → R rank → P rank × Q rank) → (rank : ℕ → ℕ) → Holds rank (edges_of a) → R rank → ⊥
narrower-cycle P Q R a b c added one two e back rank h q =
    let none : (o : ℕ → ℕ) → Holds o (edges_of b) → Q o → ⊥ = subst (λ (x : Added). Narrows Q b (Ok x) c) e two in
    none rank (one.all rank h (back rank q).0) (back rank q).1

-- an edge stands at the end
pub edge-narrows : (u v : ℕ) (old new : GraphState) → new.counts ≡ old.counts → new.added ≡ old.added ++ arrow u v ∷ [] → IsNarrower (λ rank. rank u < rank v) old new
edge-narrows u v old new c a = record {
  counts = c;
  more = arrow u v ∷ [];
  added = a;
  old_holds = λ rank h. (parts rank h).0;
  holds = λ rank h. (parts rank h).1;
  all = joined;
}
  where
    is : edges_of new ≡ edges_of old ++ arrow u v ∷ []
    is = ap (λ (xs : List ℕ). chains_from 0 xs ++ new.added) c ∙ ap (λ (xs : List Edge). chains_from 0 old.counts ++ xs) a ∙ sym (append_assoc (chains_from 0 old.counts) old.added (arrow u v ∷ []))

    parts : (rank : ℕ → ℕ) → Holds rank (edges_of new) → Holds rank (edges_of old) × (rank u < rank v)
    parts rank h =
        let (p, q) = Holds-split rank (edges_of old) (arrow u v ∷ []) (subst (λ (xs : List Edge). Holds rank xs) is h) in
        (p, All-head (Rises rank) (arrow u v) [] q)

    joined : (rank : ℕ → ℕ) → Holds rank (edges_of old) → rank u < rank v → Holds rank (edges_of new)
    joined rank h l = subst (λ (xs : List Edge). Holds rank xs) (sym is) (Holds-join rank (edges_of old) (arrow u v ∷ []) h (All-cons (Rises rank) (arrow u v) [] l (All-nil (Rises rank))))

-- what comes before the start of an edge under all edges does so under each ranking
pub turned : (u v : ℕ) (edges : List Edge) → IsOrLeadsTo edges v u → (rank : ℕ → ℕ) → Holds rank edges → rank u < rank v → ⊥
turned u v edges (inl e) rank h r = let q = ap rank e in absurd (omega (arith, q, r))
turned u v edges (inr (between, w)) rank h r = let q = reaches-rises rank edges v u h (walk-reaches edges v between u w) in absurd (omega (arith, q, r))

pub added-narrows : (u v : ℕ) (old new : GraphState) (result : Result Added Memory) → Adds old u v result new → Narrows (λ rank. rank u < rank v) old result new
added-narrows u v old new (Ok In) h = edge-narrows u v old new h.1 h.2
added-narrows u v old new (Ok Cycle) h = turned u v (edges_of old) h.0
added-narrows u v old new (Err m) h = tt

-- a walk leads there already
pub led-narrows : (u v : ℕ) (g : GraphState) → LeadsTo (edges_of g) u v → IsNarrower (λ rank. rank u < rank v) g g
led-narrows u v g (between, w) = narrower-same (λ rank. rank u < rank v) g (λ rank h. reaches-rises rank (edges_of g) u v h (walk-reaches (edges_of g) u between v w))

-- the last reads of a side from one place on, one place further down
abbrev pub LastsHold : ℕ → List ℕ → (ℕ → ℕ) → Type 0
LastsHold to last_reads rank = All (λ l. AtMost rank l to) last_reads

pub last-more : (to : ℕ) (last_reads : List ℕ) (k : ℕ) (rank : ℕ → ℕ) → k < length last_reads → AtMost rank (get_or last_reads k 0) to → LastsHold to (drop (k + 1) last_reads) rank → LastsHold to (drop k last_reads) rank
last-more to last_reads k rank l a h = rw (drop-cons last_reads k 0 l) (All-cons (λ x. AtMost rank x to) (get_or last_reads k 0) (drop (suc k) last_reads) a (subst (λ (n : ℕ). LastsHold to (drop n last_reads) rank) (add-one k) h))

pub last-less : (to : ℕ) (last_reads : List ℕ) (k : ℕ) (rank : ℕ → ℕ) → k < length last_reads → LastsHold to (drop k last_reads) rank → AtMost rank (get_or last_reads k 0) to × LastsHold to (drop (k + 1) last_reads) rank
last-less to last_reads k rank l h =
    let m : LastsHold to (get_or last_reads k 0 ∷ drop (suc k) last_reads) rank = subst (λ (xs : List ℕ). LastsHold to xs rank) (drop-cons last_reads k 0 l) h in (
      All-head (λ x. AtMost rank x to) (get_or last_reads k 0) (drop (suc k) last_reads) m,
      subst (λ (n : ℕ). LastsHold to (drop n last_reads) rank) (sym (add-one k)) (All-tail (λ x. AtMost rank x to) (get_or last_reads k 0) (drop (suc k) last_reads) m),
    )

-- one more last is looked at: its edge was added, or it is the end itself
pub side-step : (to left k : ℕ) (last_reads : List ℕ) (old now new : GraphState) (added : Added) → left ≡ k + 1 → k < length last_reads → (get_or last_reads k 0 ≡ to → ⊥) →
    IsNarrower (LastsHold to (drop left last_reads)) old now → Narrows (λ rank. rank (get_or last_reads k 0) < rank to) now (Ok added) new → added ≡ In →
    IsNarrower (LastsHold to (drop k last_reads)) old new
side-step to left k last_reads old now new added e l n one two is =
    narrower-alike (λ rank. LastsHold to (drop left last_reads) rank × (rank (get_or last_reads k 0) < rank to)) (LastsHold to (drop k last_reads)) old new
    (λ rank p. last-more to last_reads k rank l (inr p.1) (subst (λ (m : ℕ). LastsHold to (drop m last_reads) rank) e p.0))
    (λ rank p. let q = last-less to last_reads k rank l p in (subst (λ (m : ℕ). LastsHold to (drop m last_reads) rank) (sym e) q.1, below rank q.0))
    (narrower-next (LastsHold to (drop left last_reads)) (λ rank. rank (get_or last_reads k 0) < rank to) old now new one
    (subst (λ (a : Added). Narrows (λ rank. rank (get_or last_reads k 0) < rank to) now (Ok a) new) is two))
  where
    below : (rank : ℕ → ℕ) → AtMost rank (get_or last_reads k 0) to → rank (get_or last_reads k 0) < rank to
    below rank (inl q) = absurd (n q)
    below rank (inr q) = q

pub side-skip : (to left k : ℕ) (last_reads : List ℕ) (old now : GraphState) → left ≡ k + 1 → k < length last_reads → get_or last_reads k 0 ≡ to →
    IsNarrower (LastsHold to (drop left last_reads)) old now → IsNarrower (LastsHold to (drop k last_reads)) old now
side-skip to left k last_reads old now e l q one =
    narrower-alike (LastsHold to (drop left last_reads)) (LastsHold to (drop k last_reads)) old now
    (λ rank p. last-more to last_reads k rank l (inl q) (subst (λ (m : ℕ). LastsHold to (drop m last_reads) rank) e p))
    (λ rank p. subst (λ (m : ℕ). LastsHold to (drop m last_reads) rank) (sym e) (last-less to last_reads k rank l p).1) one

-- its edge closes a cycle
pub side-cycle : (to left k : ℕ) (last_reads : List ℕ) (old now new : GraphState) (added : Added) → left ≡ k + 1 → k < length last_reads → (get_or last_reads k 0 ≡ to → ⊥) →
    IsNarrower (LastsHold to (drop left last_reads)) old now → Narrows (λ rank. rank (get_or last_reads k 0) < rank to) now (Ok added) new → added ≡ Cycle →
    (rank : ℕ → ℕ) → Holds rank (edges_of old) → Holds rank (edges_to last_reads to) → ⊥
side-cycle to left k last_reads old now new added e l n one two is rank h s =
    let all : LastsHold to last_reads rank = holds-side rank last_reads to s in
    let none : (r : ℕ → ℕ) → Holds r (edges_of now) → r (get_or last_reads k 0) < r to → ⊥ = subst (λ (a : Added). Narrows (λ r. r (get_or last_reads k 0) < r to) now (Ok a) new) is two in
    go (none rank (one.all rank h (All-drop (λ x. AtMost rank x to) left last_reads all))) (All-get_or (λ x. AtMost rank x to) last_reads k 0 l all)
  where
    go : (rank (get_or last_reads k 0) < rank to → ⊥) → AtMost rank (get_or last_reads k 0) to → ⊥
    go none (inl q) = n q
    go none (inr r) = none r

pub side-all : (to left : ℕ) (last_reads : List ℕ) (old now : GraphState) → left ≡ 0 → IsNarrower (LastsHold to (drop left last_reads)) old now → IsNarrower (λ rank. Holds rank (edges_to last_reads to)) old now
side-all to left last_reads old now e one = narrower-alike (LastsHold to (drop left last_reads)) (λ rank. Holds rank (edges_to last_reads to)) old now
    (λ rank p. side-holds rank last_reads to (subst (λ (m : ℕ). LastsHold to (drop m last_reads) rank) e p))
    (λ rank p. subst (λ (m : ℕ). LastsHold to (drop m last_reads) rank) (sym e) (holds-side rank last_reads to p)) one

pub side-none : (to left : ℕ) (last_reads : List ℕ) (g : GraphState) → left ≡ length last_reads → IsNarrower (LastsHold to (drop left last_reads)) g g
side-none to left last_reads g e = narrower-same (LastsHold to (drop left last_reads)) g (λ rank h.
    let n : drop left last_reads ≡ [] = drop_of_length-le last_reads (let q = sym e in omega (arith, q)) in
    subst (λ (xs : List ℕ). LastsHold to xs rank) (sym n) (All-nil (λ x. AtMost rank x to)))

-- an open side that was added
pub open-takes : (side : List Edge) (old new : GraphState) (added : Added) → is_acyclic (side ++ edges_of old) ≡ true → Narrows (λ rank. Holds rank side) old (Ok added) new →
    (is_acyclic (side ++ edges_of old) ≡ true) × IsNarrower (λ rank. Holds rank side) old new
open-takes side old new In a n = (a, n)
open-takes side old new Cycle a n = absurd (let (rank, h) = acyclic-ranked (side ++ edges_of old) a in let (p, q) = Holds-split rank side (edges_of old) h in n rank q p)
