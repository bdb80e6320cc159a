use Rattle.std.proofs.Common.{ℕ, List, ◌∷◌, inl, inr, ◌⊎◌}
use Rattle.std.proofs.lemmas.List.Elements.{All-weaker}
use Rattle.plain_search.specs.declared.Edge.{Edge}
use Rattle.plain_search.specs.Edges.{LeadsTo, IsOrLeadsTo}
use Rattle.plain_search.proofs.edge_law.Goals as goal
use Rattle.plain_search.proofs.Walks.{Reaches, Arrives, reaches-view, reaches-with, walk-more, reaches-walk, walk-reaches}
use Rattle.plain_search.proofs.Rankings.{acyclic-parts, acyclic-from, acyclic-no_loop, no_loop-acyclic, acyclic-ranked, ranked-acyclic, reaches-rises, ranked-reaches}
use Rattle.plain_search.proofs.OneEnd.{IsApart, apart-acyclic, acyclic-apart}

ahead-arrives : (edges : List Edge) (u v : ℕ) → IsOrLeadsTo edges u v → Arrives edges u v
ahead-arrives edges u v (inl e) = inl e
ahead-arrives edges u v (inr (between, w)) = inr (walk-reaches edges u between v w)

arrives-ahead : (edges : List Edge) (u v : ℕ) → Arrives edges u v → IsOrLeadsTo edges u v
arrives-ahead edges u v (inl e) = inl e
arrives-ahead edges u v (inr r) = inr (reaches-walk edges u v r)

pub returns-clause-walks : goal.returns-clause-walks
returns-clause-walks c = λ edges u v. (reaches-walk edges u v, λ b. walk-reaches edges u b.0 v b.1)

pub returns-clause-loops : goal.returns-clause-loops
returns-clause-loops c = λ edges. (acyclic-no_loop edges, λ h. no_loop-acyclic edges (λ v r. h v (reaches-walk edges v v r)))

pub returns-clause-ranked : goal.returns-clause-ranked
returns-clause-ranked c = λ edges. (acyclic-ranked edges, λ h. ranked-acyclic h.0 edges h.1)

pub returns-clause-rankings : goal.returns-clause-rankings
returns-clause-rankings c = λ edges u v a.
    (λ b rank h. reaches-rises rank edges u v h (walk-reaches edges u b.0 v b.1), λ below. reaches-walk edges u v (ranked-reaches edges u v a below))

pub returns-clause-edge : goal.returns-clause-edge
returns-clause-edge c = λ e edges u v. (λ b. without e edges u v (reaches-view e edges u v (walk-reaches (e ∷ edges) u b.0 v b.1)), within e edges u v)
  where
    without : (e : Edge) (edges : List Edge) (u v : ℕ) → Reaches edges u v ⊎ (Arrives edges u e.from × Arrives edges e.to v) →
        LeadsTo edges u v ⊎ (IsOrLeadsTo edges u e.from × IsOrLeadsTo edges e.to v)
    without e edges u v (inl r) = inl (reaches-walk edges u v r)
    without e edges u v (inr (a, b)) = inr (arrives-ahead edges u e.from a, arrives-ahead edges e.to v b)

    within : (e : Edge) (edges : List Edge) (u v : ℕ) → LeadsTo edges u v ⊎ (IsOrLeadsTo edges u e.from × IsOrLeadsTo edges e.to v) → LeadsTo (e ∷ edges) u v
    within e edges u v (inl (between, w)) = (between, walk-more e edges u between v w)
    within e edges u v (inr (a, b)) = reaches-walk (e ∷ edges) u v (reaches-with e edges u v (ahead-arrives edges u e.from a) (ahead-arrives edges e.to v b))

pub returns-clause-cycle : goal.returns-clause-cycle
returns-clause-cycle c = λ e edges a.
    (λ b l. (acyclic-parts e edges b).1 (ahead-arrives edges e.to e.from l), λ none. acyclic-from e edges a (λ l. none (arrives-ahead edges e.to e.from l)))

pub returns-clause-side : goal.returns-clause-side
returns-clause-side c = λ v side edges ends a.
    let Ahead : Edge → Type 0 = λ e. IsOrLeadsTo edges v e.from → ⊥ in (
      λ b. All-weaker (IsApart edges v) Ahead (λ e none l. none (ahead-arrives edges v e.from l)) side (acyclic-apart v side edges ends b),
      λ none. apart-acyclic v side edges ends a (All-weaker Ahead (IsApart edges v) (λ e n l. n (arrives-ahead edges v e.from l)) side none),
    )
