-- Pairs that ask for nothing: the lesser side has no edges, and the greater one closes a cycle by itself. The plain search is the same without them.
use Rattle.std.proofs.Common.{◌≡◌, ℕ, Bool, true, false, List, [], ◌∷◌, ◌++◌, refl, sym, ◌∙◌, ap, subst, inl, inr, ◌⊎◌}
use Rattle.std.specs.Prelude.{◌&&◌, ◌||◌, not}
use Rattle.std.proofs.lemmas.Bool.{cases_Bool, eq-eqb, cond-true, cond-false}
use Rattle.plain_search.specs.declared.Edge.{Edge}
use Rattle.plain_search.specs.Chains.{arrow}
use Rattle.plain_search.specs.Edges.{reaches, is_acyclic}
use Rattle.plain_search.specs.Searches.{Pair, PairProblem, Outcome, problem_of, nothing, at_pair, search, outcome}
use Rattle.audit_laws.specs.IdlePairs.{idle, IsThinned}

-- an edge from a number to itself closes a cycle
loop-cyclic : (v : ℕ) (edges : List Edge) → is_acyclic (arrow v v ∷ edges) ≡ false
unfolding is_acyclic
loop-cyclic v edges = ap (λ (b : Bool). is_acyclic edges && not (b || reaches edges v v)) (eq-eqb v v refl) ∙ last (is_acyclic edges)
  where
    last : (b : Bool) → (b && false) ≡ false
    last true = refl
    last false = refl

-- what a side comes to counts only where the side is entered
at_pair-same : (a b : Bool) (x x' y y' : Outcome) → (a ≡ true → x ≡ x') → (b ≡ true → y ≡ y') → at_pair a b x y ≡ at_pair a b x' y'
at_pair-same true true x x' y y' p q = let u = p refl in let v = q refl in cc
at_pair-same true false x x' y y' p q = p refl
at_pair-same false true x x' y y' p q = q refl
at_pair-same false false x x' y y' p q = refl

-- a pair that asks for nothing may be left out
idle_pair : (v : ℕ) (edges : List Edge) (pairs : List Pair) → is_acyclic edges ≡ true → search edges (idle v ∷ pairs) ≡ search edges pairs
unfolding search
idle_pair v edges pairs a =
    ap (λ (b : Bool). at_pair b (is_acyclic (arrow v v ∷ edges)) (search edges pairs) (search (arrow v v ∷ edges) pairs)) a ∙
    ap (λ (b : Bool). at_pair true b (search edges pairs) (search (arrow v v ∷ edges) pairs)) (loop-cyclic v edges)

-- and so may all of them
thin_same : (pairs others : List Pair) (edges : List Edge) → is_acyclic edges ≡ true → IsThinned pairs others → search edges pairs ≡ search edges others
unfolding search
thin_same [] others edges a q = ap (search edges) (sym q)
thin_same (pair ∷ pairs) others edges a h = go h (thin_same pairs)
  where
    go : ((v : ℕ) × (pair ≡ idle v) × IsThinned pairs others) ⊎ ((rest : List Pair) × (others ≡ pair ∷ rest) × IsThinned pairs rest) →
        ((others : List Pair) (edges : List Edge) → is_acyclic edges ≡ true → IsThinned pairs others → search edges pairs ≡ search edges others) → search edges (pair ∷ pairs) ≡ search edges others
    go (inl (v, q, t)) ih = ap (λ (p : Pair). search edges (p ∷ pairs)) q ∙ idle_pair v edges pairs a ∙ ih others edges a t
    go (inr (rest, q, t)) ih =
        at_pair-same (is_acyclic (pair.lesser ++ edges)) (is_acyclic (pair.greater ++ edges)) (search (pair.lesser ++ edges) pairs) (search (pair.lesser ++ edges) rest)
        (search (pair.greater ++ edges) pairs) (search (pair.greater ++ edges) rest) (λ l. ih rest (pair.lesser ++ edges) l t) (λ l. ih rest (pair.greater ++ edges) l t) ∙
        ap (search edges) (sym q)

-- so the plain search comes to the same without them
pub idle_same : (problem : PairProblem) (others : List Pair) → IsThinned problem.pairs others → outcome problem ≡ outcome (problem_of problem.edges others)
idle_same problem others thinned = go (cases_Bool (is_acyclic problem.edges))
  where
    go : (is_acyclic problem.edges ≡ true) ⊎ (is_acyclic problem.edges ≡ false) → outcome problem ≡ outcome (problem_of problem.edges others)
    go (inl t) =
        cond-true (is_acyclic problem.edges) (search problem.edges problem.pairs) nothing t ∙ thin_same problem.pairs others problem.edges t thinned ∙
        sym (cond-true (is_acyclic problem.edges) (search problem.edges others) nothing t)
    go (inr f) =
        cond-false (is_acyclic problem.edges) (search problem.edges problem.pairs) nothing f ∙
        sym (cond-false (is_acyclic problem.edges) (search problem.edges others) nothing f)

-- thinned lists joined
pub thin-append : (pairs others more rest : List Pair) → IsThinned pairs others → IsThinned more rest → IsThinned (pairs ++ more) (others ++ rest)
thin-append [] others more rest q h = subst (λ (xs : List Pair). IsThinned more (xs ++ rest)) (sym q) h
thin-append (pair ∷ pairs) others more rest t h = go t (thin-append pairs)
  where
    go : ((v : ℕ) × (pair ≡ idle v) × IsThinned pairs others) ⊎ ((left : List Pair) × (others ≡ pair ∷ left) × IsThinned pairs left) →
        ((others more rest : List Pair) → IsThinned pairs others → IsThinned more rest → IsThinned (pairs ++ more) (others ++ rest)) → IsThinned (pair ∷ (pairs ++ more)) (others ++ rest)
    go (inl (v, q, u)) ih = inl (v, q, ih others more rest u h)
    go (inr (left, q, u)) ih = inr (left ++ rest, ap (λ (xs : List Pair). xs ++ rest) q, ih left more rest u h)
