-- The order of a graph's nodes is a row of them.
use Rattle.std.proofs.Common.{◌≡◌, ℕ, ◌<◌, ◌≤◌, List, [], length, get_or, take, ◌∙◌, ap, subst, arith}
use Rattle.std.specs.Prelude.{All, Contains, IfSome, Ok, Option, Some, sum}
use Rattle.std.proofs.lemmas.List.{length-take-le, get_or-take, get_or_default}
use Rattle.std.proofs.lemmas.List.Elements.{All-from_get_or}
use Rattle.plain_search.specs.declared.Edge.{Edge}
use Rattle.plain_search.specs.Edges.{Holds}
use Rattle.plain_search.specs.Searches.{Solves}
use Rattle.order_graph.specs.Graphs.{GraphState, edges_of, nodes_of}
use Rattle.order_graph.specs.Orders.{IsOrder}
use Rattle.constraints.specs.Laws.{IsLine}
use Rattle.order_solver.specs.declared.search.Ending.{Ending}
use Rattle.order_solver.specs.declared.search.Ending.TheVariants.{Found}
use Rattle.order_solver.specs.Rivals.{Rivalry, problem_in}
use Rattle.order_solver.specs.Findings.{IsLineOf}
use Rattle.order_solver.specs.Frames.{Explored}

-- what stands at an earlier place is among those placed
placed-there : (line : List ℕ) (i j d : ℕ) → i < j → j ≤ length line → Contains (take j line) (get_or line i d)
placed-there line i j d l m =
    (i, (let e = length-take-le j line m in omega (arith, e, l)), get_or-take j line i (get_or line i d) l ∙ get_or_default line i (get_or line i d) d (omega (arith, l, m)))

pub order-line : (edges : List Edge) (nodes : ℕ) (line : List ℕ) → IsOrder edges nodes line → All (λ (e : Edge). (e.from < nodes) × (e.to < nodes)) edges → IsLine edges nodes line
order-line edges nodes line o ends = record {
  within = All-from_get_or (λ p. p < nodes) line 0 (λ k l. (o.ready k l).node);
  all = o.all;
  once = λ i j d l m e. (o.ready j m).new (subst (λ (x : ℕ). Contains (take j line) x) (e ∙ get_or_default line j d 0 m) (placed-there line i j d l (omega (arith, m))));
  ends = ends;
  rising = λ i j l m c. o.before i j l m ([], c);
}

pub found-line : (r : Rivalry) (g : GraphState) (line : List ℕ) → g.counts ≡ r.counts → ((rank : ℕ → ℕ) → Holds rank (edges_of g) → Solves (problem_in r) rank) → IsOrder (edges_of g) (nodes_of g) line →
    All (λ (e : Edge). (e.from < nodes_of g) × (e.to < nodes_of g)) (edges_of g) → IsLineOf r line
found-line r g line c solve o ends = record {
  edges = edges_of g;
  row = subst (λ (n : ℕ). IsLine (edges_of g) n line) (ap sum c) (order-line (edges_of g) (nodes_of g) line o ends);
  solve = solve;
}

pub explored-found : (r : Rivalry) (budget : ℕ) (ending : Ending) (new : GraphState) → Explored r budget (Ok ending) new → ending ≡ Found →
    (new.counts ≡ r.counts) × ((rank : ℕ → ℕ) → Holds rank (edges_of new) → Solves (problem_in r) rank)
explored-found r budget ending new x e = subst (λ (z : Ending). Explored r budget (Ok z) new) e x

pub if_some : {V : Type 0} (o : Option V) (v : V) (P : V → Type 0) → o ≡ Some v → IfSome o P → P v
if_some {V} o v P e h = subst (λ (x : Option V). IfSome x P) e h
