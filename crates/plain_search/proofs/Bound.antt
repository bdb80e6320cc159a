-- The dead ends are at most 2 to the number of open pairs.
use Rattle.std.proofs.Common.{◌≡◌, ℕ, suc, ◌+◌, ◌^◌, ◌≤◌, Bool, true, false, cond, List, [], ◌∷◌, ◌++◌, refl, sym, ap, subst, arith, inl, inr, ◌⊎◌}
use Rattle.std.specs.Prelude.{count_by}
use Rattle.std.proofs.lemmas.Bool.{cases_Bool, and_from}
use Rattle.std.proofs.lemmas.List.Sums.{sum_by-cons}
use Rattle.std.proofs.lemmas.Nat.{pow_pos}
use Rattle.std.proofs.Math.Nat.{pow-suc}
use Rattle.plain_search.specs.declared.Edge.{Edge}
use Rattle.plain_search.specs.Edges.{is_acyclic, Implies}
use Rattle.plain_search.specs.Searches.{Pair, PairProblem, Outcome, or_else, at_pair, search, outcome, dead_ends, is_open, open_pairs}
use Rattle.plain_search.proofs.Rankings.{acyclic-implied, Holds-split, Holds-join}
use Rattle.plain_search.proofs.Outcomes.{or_else-found, or_else-failed}
use Rattle.plain_search.proofs.Choosing.{outcome-begun, outcome-refused}

pub or_else-dead : (one other : Outcome) → (or_else one other).dead ≤ one.dead + other.dead
or_else-dead one other = go (cases_Bool one.found)
  where
    go : (one.found ≡ true) ⊎ (one.found ≡ false) → (or_else one other).dead ≤ one.dead + other.dead
    go (inl t) = rw (or_else-found one other t) (omega arith)
    go (inr t) = rw (or_else-failed one other t) (omega arith)

pub twice : (n : ℕ) → 2 ^ n + 2 ^ n ≤ 2 ^ (1 + n)
twice n = let e = pow-suc 2 n in let s : 2 ^ (1 + n) ≡ 2 ^ suc n = ap (λ k. 2 ^ k) (omega arith) in omega (arith, e, s)

-- an open pair doubles the bound, another keeps it
pub no_less : (free : Bool) (n : ℕ) → 2 ^ n ≤ 2 ^ (cond free 1 0 + n)
no_less true n = let t = twice n in omega (arith, t)
no_less false n = let s : 2 ^ (0 + n) ≡ 2 ^ n = ap (λ k. 2 ^ k) (omega arith) in omega (arith, s)

pub at_pair-dead : (a b free : Bool) (lesser greater : Outcome) (n : ℕ) → (a ≡ true → b ≡ true → free ≡ true) → lesser.dead ≤ 2 ^ n → greater.dead ≤ 2 ^ n →
    (at_pair a b lesser greater).dead ≤ 2 ^ (cond free 1 0 + n)
at_pair-dead true true true lesser greater n both l g = let t = twice n in let d = or_else-dead lesser greater in omega (arith, t, d, l, g)
at_pair-dead true true false lesser greater n both l g = absurd (let z : false ≡ true = both refl refl in cc z)
at_pair-dead true false free lesser greater n both l g = let d = no_less free n in omega (arith, d, l)
at_pair-dead false true free lesser greater n both l g = let d = no_less free n in omega (arith, d, g)
at_pair-dead false false free lesser greater n both l g = let d = pow_pos (cond free 1 0 + n) in omega (arith, d)

-- a pair that is open by more edges is open by fewer, so the pairs open at the start bound every search above it
pub search-dead : (pairs : List Pair) (base edges : List Edge) → Implies edges base → (search edges pairs).dead ≤ 2 ^ count_by (is_open base) pairs
unfolding search
search-dead [] base edges wider = omega (arith, pow_pos (count_by (is_open base) []))
search-dead (pair ∷ pairs) base edges wider =
    let h = at_pair-dead (is_acyclic (pair.lesser ++ edges)) (is_acyclic (pair.greater ++ edges)) (is_open base pair)
    (search (pair.lesser ++ edges) pairs) (search (pair.greater ++ edges) pairs) (count_by (is_open base) pairs)
    (λ l g. and_from (is_acyclic (pair.lesser ++ base)) (is_acyclic (pair.greater ++ base)) (opens pair.lesser l) (opens pair.greater g))
    (search-dead pairs base (pair.lesser ++ edges) (λ rank h. wider rank (Holds-split rank pair.lesser edges h).1))
    (search-dead pairs base (pair.greater ++ edges) (λ rank h. wider rank (Holds-split rank pair.greater edges h).1)) in
    subst (λ (n : ℕ). (search edges (pair ∷ pairs)).dead ≤ 2 ^ n) (sym (sum_by-cons (λ (p : Pair). cond (is_open base p) 1 0) pair pairs)) h
  where
    opens : (side : List Edge) → is_acyclic (side ++ edges) ≡ true → is_acyclic (side ++ base) ≡ true
    opens side = acyclic-implied (side ++ edges) (side ++ base) (λ rank h. let (p, q) = Holds-split rank side edges h in Holds-join rank side base p (wider rank q))

pub few : (impossible : Bool) (problem : PairProblem) → dead_ends impossible problem ≤ 2 ^ open_pairs problem
few true problem = omega arith
few false problem = go (cases_Bool (is_acyclic problem.edges))
  where
    go : (is_acyclic problem.edges ≡ true) ⊎ (is_acyclic problem.edges ≡ false) → (outcome problem).dead ≤ 2 ^ open_pairs problem
    go (inl a) = rw (outcome-begun problem a) (search-dead problem.pairs problem.edges problem.edges (λ rank h. h))
    go (inr c) = rw (outcome-refused problem c) (omega arith)
