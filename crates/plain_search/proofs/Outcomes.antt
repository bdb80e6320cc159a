-- Outcomes side by side.
use Rattle.std.proofs.Common.{◌≡◌, ◌+◌, ◌≤◌, Bool, true, false, refl, sym, ◌∙◌, ap, arith, inl, inr, ◌⊎◌}
use Rattle.std.proofs.lemmas.Bool.{cases_Bool, cond-true, cond-false}
use Rattle.plain_search.specs.Searches.{Outcome, or_else, at_pair, IsNoWorse}

pub no_worse-same : (one : Outcome) → IsNoWorse one one
no_worse-same one = (refl, omega arith)

-- where the first finds nothing, the second's answer with both their dead ends
abbrev pub summed : Outcome → Outcome → Outcome
summed first second = record { found = second.found; dead = first.dead + second.dead }

pub or_else-found : (L G : Outcome) → L.found ≡ true → or_else L G ≡ L
or_else-found L G h = cond-true L.found L (summed L G) h

pub or_else-failed : (L G : Outcome) → L.found ≡ false → or_else L G ≡ summed L G
or_else-failed L G h = cond-false L.found L (summed L G) h

pub or_else-no_worse : (L' L G' G : Outcome) → IsNoWorse L' L → IsNoWorse G' G → IsNoWorse (or_else L' G') (or_else L G)
or_else-no_worse L' L G' G (f, d) (g, e) = go (cases_Bool L.found)
  where
    go : (L.found ≡ true) ⊎ (L.found ≡ false) → IsNoWorse (or_else L' G') (or_else L G)
    go (inl t) = rw (or_else-found L' G' (f ∙ t)) (rw (or_else-found L G t) (f, d))
    go (inr t) = rw (or_else-failed L' G' (f ∙ t)) (rw (or_else-failed L G t) (g, omega (arith, d, e)))

pub found_left : (b : Bool) (L G : Outcome) → L.found ≡ true → (at_pair true b L G).found ≡ true
found_left true L G h = ap (λ (o : Outcome). o.found) (or_else-found L G h) ∙ h
found_left false L G h = h

pub found_right : (a : Bool) (L G : Outcome) → G.found ≡ true → (at_pair a true L G).found ≡ true
found_right false L G h = h
found_right true L G h = go (cases_Bool L.found)
  where
    go : (L.found ≡ true) ⊎ (L.found ≡ false) → (or_else L G).found ≡ true
    go (inl t) = ap (λ (o : Outcome). o.found) (or_else-found L G t) ∙ t
    go (inr t) = ap (λ (o : Outcome). o.found) (or_else-failed L G t) ∙ h

pub found_cases : (a b : Bool) (L G : Outcome) → (at_pair a b L G).found ≡ true → ((a ≡ true) × (L.found ≡ true)) ⊎ ((b ≡ true) × (G.found ≡ true))
found_cases true true L G h = go (cases_Bool L.found)
  where
    go : (L.found ≡ true) ⊎ (L.found ≡ false) → ((true ≡ true) × (L.found ≡ true)) ⊎ ((true ≡ true) × (G.found ≡ true))
    go (inl t) = inl (refl, t)
    go (inr t) = inr (refl, sym (ap (λ (o : Outcome). o.found) (or_else-failed L G t)) ∙ h)
found_cases true false L G h = inl (refl, h)
found_cases false true L G h = inr (refl, h)
found_cases false false L G h = cc

-- an outcome that finds nothing met a dead end
abbrev pub Counts : Outcome → Type 0
Counts outcome = outcome.found ≡ false → 1 ≤ outcome.dead

pub or_else-counts : (L G : Outcome) → Counts L → Counts (or_else L G)
or_else-counts L G k = go (cases_Bool L.found)
  where
    go : (L.found ≡ true) ⊎ (L.found ≡ false) → Counts (or_else L G)
    go (inl t) = rw (or_else-found L G t) k
    go (inr t) = rw (or_else-failed L G t) (λ _. let m = k t in omega (arith, m))

pub at_pair-counts : (a b : Bool) (L G : Outcome) → Counts L → Counts G → Counts (at_pair a b L G)
at_pair-counts true true L G k m = or_else-counts L G k
at_pair-counts true false L G k m = k
at_pair-counts false true L G k m = m
at_pair-counts false false L G k m = λ _. omega arith

-- one pair of the search that began with more edges, beside the same pair of the other
pub at_pair-no_worse : (a' b' a b : Bool) (L' G' L G : Outcome) → (a' ≡ true → a ≡ true) → (b' ≡ true → b ≡ true) →
    (a' ≡ true → IsNoWorse L' L) → (b' ≡ true → IsNoWorse G' G) → (a' ≡ false → a ≡ true → L.found ≡ false) → (b' ≡ false → b ≡ true → G.found ≡ false) →
    Counts L → Counts G → IsNoWorse (at_pair a' b' L' G') (at_pair a b L G)
at_pair-no_worse true true true true L' G' L G ha hb bl bg nl ng kl kg = or_else-no_worse L' L G' G (bl refl) (bg refl)
at_pair-no_worse true b' false b L' G' L G ha hb bl bg nl ng kl kg = absurd (let z : false ≡ true = ha refl in cc z)
at_pair-no_worse a' true a false L' G' L G ha hb bl bg nl ng kl kg = absurd (let z : false ≡ true = hb refl in cc z)
at_pair-no_worse true false true false L' G' L G ha hb bl bg nl ng kl kg = bl refl
at_pair-no_worse true false true true L' G' L G ha hb bl bg nl ng kl kg = go (bl refl) (ng refl refl) (cases_Bool L.found)
  where
    go : IsNoWorse L' L → G.found ≡ false → (L.found ≡ true) ⊎ (L.found ≡ false) → IsNoWorse L' (or_else L G)
    go (f, d) n (inl t) = rw (or_else-found L G t) (f, d)
    go (f, d) n (inr t) = rw (or_else-failed L G t) (f ∙ t ∙ sym n, omega (arith, d))
at_pair-no_worse false true false true L' G' L G ha hb bl bg nl ng kl kg = bg refl
at_pair-no_worse false true true true L' G' L G ha hb bl bg nl ng kl kg =
    let (f, d) = bg refl in rw (or_else-failed L G (nl refl refl)) (f, omega (arith, d))
at_pair-no_worse false false false false L' G' L G ha hb bl bg nl ng kl kg = (refl, omega arith)
at_pair-no_worse false false true false L' G' L G ha hb bl bg nl ng kl kg = let n = nl refl refl in (sym n, kl n)
at_pair-no_worse false false false true L' G' L G ha hb bl bg nl ng kl kg = let n = ng refl refl in (sym n, kg n)
at_pair-no_worse false false true true L' G' L G ha hb bl bg nl ng kl kg =
    let n = nl refl refl in let m = kl n in rw (or_else-failed L G n) (sym (ng refl refl), omega (arith, m))
