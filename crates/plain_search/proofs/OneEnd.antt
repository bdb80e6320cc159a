-- Edges that all end in one number.
use Rattle.std.proofs.Common.{◌≡◌, ℕ, ◌<◌, true, List, [], ◌∷◌, ◌++◌, sym, ap, subst, arith, inl, inr, ◌⊎◌}
use Rattle.std.specs.Prelude.{All}
use Rattle.std.proofs.lemmas.List.Elements.{All-nil, All-cons, All-head, All-tail}
use Rattle.plain_search.specs.declared.Edge.{Edge}
use Rattle.plain_search.specs.Edges.{is_acyclic, Holds}
use Rattle.plain_search.proofs.Walks.{Reaches, Arrives, reaches-view}
use Rattle.plain_search.proofs.Rankings.{Rises, reaches-rises, acyclic-parts, acyclic-from, acyclic-ranked, Holds-split}

abbrev pub EndsIn : ℕ → Edge → Type 0
EndsIn v e = e.to ≡ v

abbrev pub IsApart : List Edge → ℕ → Edge → Type 0
IsApart edges v e = Arrives edges v e.from → ⊥

-- edges into v that close no cycle lead to nothing new from v
pub nothing_new : (v : ℕ) (side edges : List Edge) (x : ℕ) → All (EndsIn v) side → is_acyclic (side ++ edges) ≡ true → Reaches (side ++ edges) v x → Reaches edges v x
nothing_new v [] edges x ends a r = r
nothing_new v (e ∷ side) edges x ends a r =
    let (b, none) = acyclic-parts e (side ++ edges) a in
    go none (All-head (EndsIn v) e side ends) (nothing_new v side edges x (All-tail (EndsIn v) e side ends) b) (reaches-view e (side ++ edges) v x r)
  where
    go : (Arrives (side ++ edges) e.to e.from → ⊥) → e.to ≡ v → (Reaches (side ++ edges) v x → Reaches edges v x) →
        Reaches (side ++ edges) v x ⊎ (Arrives (side ++ edges) v e.from × Arrives (side ++ edges) e.to x) → Reaches edges v x
    go none q ih (inl s) = ih s
    go none q ih (inr (l, m)) = absurd (none (subst (λ (k : ℕ). Arrives (side ++ edges) k e.from) (sym q) l))

-- where v leads to no start, they close no cycle
pub apart-acyclic : (v : ℕ) (side edges : List Edge) → All (EndsIn v) side → is_acyclic edges ≡ true → All (IsApart edges v) side → is_acyclic (side ++ edges) ≡ true
apart-acyclic v [] edges ends a none = a
apart-acyclic v (e ∷ side) edges ends a none =
    go (apart-acyclic v side edges rest a (All-tail (IsApart edges v) e side none)) (All-head (EndsIn v) e side ends)
  where
    rest : All (EndsIn v) side
    rest = All-tail (EndsIn v) e side ends

    back : is_acyclic (side ++ edges) ≡ true → Arrives (side ++ edges) v e.from → Arrives edges v e.from
    back b (inl s) = inl s
    back b (inr r) = inr (nothing_new v side edges e.from rest b r)

    go : is_acyclic (side ++ edges) ≡ true → e.to ≡ v → is_acyclic (e ∷ (side ++ edges)) ≡ true
    go b q = acyclic-from e (side ++ edges) b (λ l. All-head (IsApart edges v) e side none (back b (subst (λ (k : ℕ). Arrives (side ++ edges) k e.from) q l)))

-- and nowhere else
pub acyclic-apart : (v : ℕ) (side edges : List Edge) → All (EndsIn v) side → is_acyclic (side ++ edges) ≡ true → All (IsApart edges v) side
acyclic-apart v side edges ends a =
    let (rank, h) = acyclic-ranked (side ++ edges) a in
    let (p, q) = Holds-split rank side edges h in
    each rank q side ends p
  where
    apart : (rank : ℕ → ℕ) → Holds rank edges → (e : Edge) → e.to ≡ v → rank e.from < rank e.to → IsApart edges v e
    apart rank q e t r (inl s) = let k = ap rank s in let m = ap rank t in absurd (omega (arith, k, m, r))
    apart rank q e t r (inr s) = let k = reaches-rises rank edges v e.from q s in let m = ap rank t in absurd (omega (arith, k, m, r))

    each : (rank : ℕ → ℕ) → Holds rank edges → (some : List Edge) → All (EndsIn v) some → Holds rank some → All (IsApart edges v) some
    each rank q [] ends p = All-nil (IsApart edges v)
    each rank q (e ∷ some) ends p = All-cons (IsApart edges v) e some (apart rank q e (All-head (EndsIn v) e some ends) (All-head (Rises rank) e some p))
        (each rank q some (All-tail (EndsIn v) e some ends) (All-tail (Rises rank) e some p))
