-- The graph of the base edges.
use Rattle.std.proofs.Common.{◌≡◌, ℕ, ◌<◌, false, List, [], ◌++◌, length, sym, ◌∙◌, ap, subst}
use Rattle.std.specs.Prelude.{All, Contains, sum, Ok}
use Rattle.std.proofs.lemmas.Bool.{false_from_ne_true}
use Rattle.std.proofs.lemmas.List.{append-nil}
use Rattle.std.proofs.lemmas.List.Elements.{All-weaker, All-contains_itself, All-contains, Contains-append_right}
use Rattle.plain_search.specs.declared.Edge.{Edge}
use Rattle.plain_search.specs.Edges.{is_acyclic, Holds}
use Rattle.plain_search.specs.Chains.{chains_from}
use Rattle.plain_search.proofs.Rankings.{acyclic-ranked, Holds-split, Holds-join}
use Rattle.order_graph.specs.declared.thread_graph.Added.{Added}
use Rattle.order_graph.specs.declared.thread_graph.Added.TheVariants.{In, Cycle}
use Rattle.order_graph.specs.Graphs.{GraphState, edges_of, nodes_of}
use Rattle.replay_model.specs.Logs.{Log}
use Rattle.replay_model.specs.WellFormed.{IsWellFormed}
use Rattle.constraints.specs.Positions.{event_list, counts_of}
use Rattle.constraints.specs.Constraints.{base_of}
use Rattle.constraints.proofs.Groups.{logs_are_small}
use Rattle.constraints.proofs.Shapes.{counts-sum, edges_are_within}
use Rattle.races.specs.Narrowing.{IsNarrower, Narrows}
use Rattle.races.specs.Shut.{base_edges, IsBase}

chains-alone : (log : Log) (g : GraphState) → g.counts ≡ counts_of log → g.added ≡ [] → edges_of g ≡ chains_from 0 (counts_of log)
chains-alone log g c a = ap (λ (xs : List ℕ). chains_from 0 xs ++ g.added) c ∙ ap (λ (xs : List Edge). chains_from 0 (counts_of log) ++ xs) a ∙ append-nil (chains_from 0 (counts_of log))

abbrev Ends : ℕ → Edge → Type 0
Ends n e = (e.from < n) × (e.to < n)

-- the graph has a node for each event
pub nodes-are : (log : Log) (g : GraphState) → g.counts ≡ counts_of log → nodes_of g ≡ length (event_list log)
nodes-are log g c = ap sum c ∙ counts-sum log

pub base-nodes : (log : Log) (g : GraphState) (base : List Edge) → IsWellFormed log → g.counts ≡ counts_of log → base ≡ base_of log → All (λ (e : Edge). (e.from < nodes_of g) × (e.to < nodes_of g)) base
base-nodes log g base formed c q = subst (λ (xs : List Edge). All (Ends (nodes_of g)) xs) (sym q)
    (subst (λ (n : ℕ). All (Ends n) (base_of log)) (sym (nodes-are log g c))
    (All-weaker (Contains (base_of log)) (Ends (length (event_list log))) (λ e m. All-contains (Ends (length (event_list log))) (base_edges log) e (edges_are_within log formed).base.within
    (Contains-append_right (chains_from 0 (counts_of log)) (base_of log) e m)) (base_of log) (All-contains_itself (base_of log))))

-- a graph of the chains alone to which the base edges were added
pub all-based : (log : Log) (g new : GraphState) (base : List Edge) (added : Added) → g.counts ≡ counts_of log → g.added ≡ [] → base ≡ base_of log →
    Narrows (λ rank. Holds rank base) g (Ok added) new → added ≡ In → IsBase log new
all-based log g new base added c a q two e = go (subst (λ (x : Added). Narrows (λ rank. Holds rank base) g (Ok x) new) e two)
  where
    alone : edges_of g ≡ chains_from 0 (counts_of log)
    alone = chains-alone log g c a

    go : IsNarrower (λ rank. Holds rank base) g new → IsBase log new
    go n = record {
      counts = n.counts ∙ c;
      base = λ rank h. Holds-join rank (chains_from 0 (counts_of log)) (base_of log)
          (subst (λ (xs : List Edge). Holds rank xs) alone (n.old_holds rank h)) (subst (λ (xs : List Edge). Holds rank xs) q (n.holds rank h));
      all = λ rank h. let (x, y) = Holds-split rank (chains_from 0 (counts_of log)) (base_of log) h in
          n.all rank (subst (λ (xs : List Edge). Holds rank xs) (sym alone) x) (subst (λ (xs : List Edge). Holds rank xs) (sym q) y);
    }

-- they have a cycle
pub base-cyclic : (log : Log) (g new : GraphState) (base : List Edge) (added : Added) → g.counts ≡ counts_of log → g.added ≡ [] → base ≡ base_of log →
    Narrows (λ rank. Holds rank base) g (Ok added) new → added ≡ Cycle → is_acyclic (base_edges log) ≡ false
base-cyclic log g new base added c a q two e = false_from_ne_true _ (λ t.
    let none : (rank : ℕ → ℕ) → Holds rank (edges_of g) → Holds rank base → ⊥ = subst (λ (x : Added). Narrows (λ rank. Holds rank base) g (Ok x) new) e two in
    let (rank, h) = acyclic-ranked (base_edges log) t in
    let (x, y) = Holds-split rank (chains_from 0 (counts_of log)) (base_of log) h in
    none rank (subst (λ (xs : List Edge). Holds rank xs) (sym (chains-alone log g c a)) x) (subst (λ (xs : List Edge). Holds rank xs) (sym q) y))

-- a thread is one of the log's
pub counts-length : (log : Log) (counts : List ℕ) → IsWellFormed log → counts ≡ counts_of log → length counts ≡ length log.threads
counts-length log counts formed e = ap (λ (xs : List ℕ). length xs) e ∙ (logs_are_small log formed).threads
