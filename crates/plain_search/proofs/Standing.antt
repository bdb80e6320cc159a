-- The rules of every solver.
use Rattle.std.proofs.Common.{◌≡◌, ℕ, ◌+◌, ◌≤◌, true, false, cond, List, [], ◌∷◌, ◌++◌, refl, sym, ◌∙◌, ap, subst, arith, inl, inr, ◌⊎◌}
use Rattle.std.specs.Prelude.{Some, None, All}
use Rattle.std.proofs.lemmas.Bool.{cases_Bool, both_ways, false_from_ne_true}
use Rattle.std.proofs.lemmas.List.Elements.{All-nil, All-cons, All-head, All-tail}
use Rattle.plain_search.specs.declared.Edge.{Edge}
use Rattle.plain_search.specs.Edges.{is_acyclic, Holds, Implies}
use Rattle.plain_search.specs.Searches.{Pair, PairProblem, HoldsOneSide, Solves, Outcome, nothing, or_else, at_pair, search, outcome, problem_of, IsNoWorse}
use Rattle.plain_search.specs.Standing.{IsRestOf, resume, Stands}
use Rattle.plain_search.specs.StandingLaws.{Ends, Turns, Forces}
use Rattle.plain_search.proofs.Rankings.{acyclic-implied, cyclic-unranked, Holds-split, Holds-join}
use Rattle.plain_search.proofs.Outcomes.{no_worse-same, or_else-no_worse, or_else-found, or_else-failed}
use Rattle.plain_search.proofs.Choosing.{solves-lesser, solves-greater, found-solved, search-counts, outcome-begun, outcome-refused, solved-outcome}
use Rattle.plain_search.proofs.Forcing.{forced, other-lesser, other-greater, search-pair, passed}

-- what is better now is better in the end
pub resume-no_worse : (waiting : List PairProblem) (one two : Outcome) → IsNoWorse one two → IsNoWorse (resume waiting one) (resume waiting two)
unfolding resume
resume-no_worse [] one two b = b
resume-no_worse (rest ∷ waiting) one two b =
    resume-no_worse waiting (or_else one (outcome rest)) (or_else two (outcome rest)) (or_else-no_worse one two (outcome rest) (outcome rest) b (no_worse-same (outcome rest)))

-- an outcome after so many dead ends
abbrev pub after : ℕ → Outcome → Outcome
after n now = record { found = now.found; dead = n + now.dead }

pub or_else-after : (n : ℕ) (one other : Outcome) → or_else (after n one) other ≡ after n (or_else one other)
or_else-after n one other = go (cases_Bool one.found)
  where
    go : (one.found ≡ true) ⊎ (one.found ≡ false) → or_else (after n one) other ≡ after n (or_else one other)
    go (inl t) = or_else-found (after n one) other t ∙ ap (after n) (sym (or_else-found one other t))
    go (inr f) =
        let e : (n + one.dead) + other.dead ≡ n + (one.dead + other.dead) = omega arith in
        let P : ℕ → Outcome = λ k. record { found = other.found; dead = k } in
        or_else-failed (after n one) other f ∙ ap P e ∙ ap (after n) (sym (or_else-failed one other f))

-- dead ends met before are met in the end
pub resume-after : (waiting : List PairProblem) (n : ℕ) (now : Outcome) → resume waiting (after n now) ≡ after n (resume waiting now)
unfolding resume
resume-after [] n now = refl
resume-after (rest ∷ waiting) n now = ap (resume waiting) (or_else-after n now (outcome rest)) ∙ resume-after waiting n (or_else now (outcome rest))

-- the first two parts of the invariant, over any outcome
pub record IsOnCourse (plain : Outcome) (waiting : List PairProblem) (now : Outcome) (dead : ℕ) : Type 0 where
  pub found : (resume waiting now).found ≡ plain.found
  pub bounded : dead + (resume waiting now).dead ≤ plain.dead

pub course-no_worse : (plain : Outcome) (waiting : List PairProblem) (one two : Outcome) (dead : ℕ) → IsOnCourse plain waiting one dead → IsNoWorse two one → IsOnCourse plain waiting two dead
course-no_worse plain waiting one two dead s b =
    let (f, d) = resume-no_worse waiting two one b in
    record { found = f ∙ s.found; bounded = let e = s.bounded in omega (arith, d, e) }

pub course-dead : (plain : Outcome) (waiting : List PairProblem) (now : Outcome) (dead : ℕ) → IsOnCourse plain waiting now dead → now.found ≡ false → 1 ≤ now.dead →
    IsOnCourse plain waiting nothing (dead + 1)
course-dead plain waiting now dead s n d =
    let b : IsNoWorse (after 1 nothing) now = (sym n, omega (arith, d)) in
    let r = course-no_worse plain waiting now (after 1 nothing) dead s b in
    let e : resume waiting (after 1 nothing) ≡ after 1 (resume waiting nothing) = resume-after waiting 1 nothing in
    let m : dead + (after 1 (resume waiting nothing)).dead ≤ plain.dead = subst (λ (o : Outcome). dead + o.dead ≤ plain.dead) e r.bounded in
    record { found = sym (ap (λ (o : Outcome). o.found) e) ∙ r.found; bounded = omega (arith, m) }

-- the parts, of a search that goes on
pub reached : (problem : PairProblem) (waiting : List PairProblem) (edges : List Edge) (pairs : List Pair) (dead : ℕ) →
    Stands problem waiting (Some (problem_of edges pairs)) dead → IsOnCourse (outcome problem) waiting (search edges pairs) dead
reached problem waiting edges pairs dead s =
    subst (λ (o : Outcome). IsOnCourse (outcome problem) waiting o dead) (outcome-begun (problem_of edges pairs) s.acyclic) (record { found = s.found; bounded = s.bounded })

pub stands : (problem : PairProblem) (waiting : List PairProblem) (edges : List Edge) (pairs : List Pair) (dead : ℕ) →
    IsOnCourse (outcome problem) waiting (search edges pairs) dead → is_acyclic edges ≡ true → IsRestOf problem (problem_of edges pairs) → All (IsRestOf problem) waiting →
    Stands problem waiting (Some (problem_of edges pairs)) dead
stands problem waiting edges pairs dead r a part parts =
    let m : IsOnCourse (outcome problem) waiting (outcome (problem_of edges pairs)) dead =
    subst (λ (o : Outcome). IsOnCourse (outcome problem) waiting o dead) (sym (outcome-begun (problem_of edges pairs) a)) r in
    record { found = m.found; bounded = m.bounded; acyclic = a; part = part; parts = parts }

pub goes_back : (problem : PairProblem) (waiting : List PairProblem) (dead : ℕ) → IsOnCourse (outcome problem) waiting nothing dead → All (IsRestOf problem) waiting →
    Stands problem waiting None dead
goes_back problem waiting dead r parts = record { found = r.found; bounded = r.bounded; acyclic = tt; part = tt; parts = parts }

-- the rest with one side added is a rest of the problem
pub rest-lesser : (problem : PairProblem) (edges : List Edge) (pair : Pair) (pairs : List Pair) → IsRestOf problem (problem_of edges (pair ∷ pairs)) → IsRestOf problem (problem_of (pair.lesser ++ edges) pairs)
rest-lesser problem edges pair pairs part rank s = part rank (solves-lesser edges pair pairs rank s)

pub rest-greater : (problem : PairProblem) (edges : List Edge) (pair : Pair) (pairs : List Pair) → IsRestOf problem (problem_of edges (pair ∷ pairs)) → IsRestOf problem (problem_of (pair.greater ++ edges) pairs)
rest-greater problem edges pair pairs part rank s = part rank (solves-greater edges pair pairs rank s)

-- the lesser side where it is open, with the greater one left for later
pub either-side : (edges : List Edge) (pair : Pair) (pairs : List Pair) → is_acyclic (pair.lesser ++ edges) ≡ true →
    IsNoWorse (or_else (search (pair.lesser ++ edges) pairs) (outcome (problem_of (pair.greater ++ edges) pairs))) (search edges (pair ∷ pairs))
either-side edges pair pairs a = rw (search-pair edges pair pairs) (rw a (go (cases_Bool (is_acyclic (pair.greater ++ edges))) (cases_Bool lesser.found)))
  where
    lesser : Outcome
    lesser = search (pair.lesser ++ edges) pairs

    greater : Outcome
    greater = search (pair.greater ++ edges) pairs

    go : (is_acyclic (pair.greater ++ edges) ≡ true) ⊎ (is_acyclic (pair.greater ++ edges) ≡ false) → (lesser.found ≡ true) ⊎ (lesser.found ≡ false) →
        IsNoWorse (or_else lesser (cond (is_acyclic (pair.greater ++ edges)) greater nothing)) (at_pair true (is_acyclic (pair.greater ++ edges)) lesser greater)
    go (inl b) f = rw b (refl, omega arith)
    go (inr b) (inl t) = rw b (rw (or_else-found lesser nothing t) (refl, omega arith))
    go (inr b) (inr n) = rw b (rw (or_else-failed lesser nothing n) (sym n, omega arith))

pub turn-lesser : (problem : PairProblem) (waiting : List PairProblem) (edges : List Edge) (pair : Pair) (pairs : List Pair) (dead : ℕ) →
    Stands problem waiting (Some (problem_of edges (pair ∷ pairs))) dead → is_acyclic (pair.lesser ++ edges) ≡ true →
    Stands problem (problem_of (pair.greater ++ edges) pairs ∷ waiting) (Some (problem_of (pair.lesser ++ edges) pairs)) dead
unfolding resume
turn-lesser problem waiting edges pair pairs dead s a =
    let later : PairProblem = problem_of (pair.greater ++ edges) pairs in
    let r = course-no_worse (outcome problem) waiting (search edges (pair ∷ pairs)) (or_else (search (pair.lesser ++ edges) pairs) (outcome later)) dead
    (reached problem waiting edges (pair ∷ pairs) dead s) (either-side edges pair pairs a) in
    stands problem (later ∷ waiting) (pair.lesser ++ edges) pairs dead (record { found = r.found; bounded = r.bounded }) a
    (rest-lesser problem edges pair pairs s.part) (All-cons (IsRestOf problem) later waiting (rest-greater problem edges pair pairs s.part) s.parts)

pub turn-greater : (problem : PairProblem) (waiting : List PairProblem) (edges : List Edge) (pair : Pair) (pairs : List Pair) (dead : ℕ) →
    Stands problem waiting (Some (problem_of edges (pair ∷ pairs))) dead → is_acyclic (pair.lesser ++ edges) ≡ false → is_acyclic (pair.greater ++ edges) ≡ true →
    Stands problem waiting (Some (problem_of (pair.greater ++ edges) pairs)) dead
turn-greater problem waiting edges pair pairs dead s shut a =
    let e : search edges (pair ∷ pairs) ≡ search (pair.greater ++ edges) pairs = rw (search-pair edges pair pairs) (rw shut (rw a refl)) in
    stands problem waiting (pair.greater ++ edges) pairs dead (subst (λ (o : Outcome). IsOnCourse (outcome problem) waiting o dead) e (reached problem waiting edges (pair ∷ pairs) dead s))
    a (rest-greater problem edges pair pairs s.part) s.parts

pub turn-dead : (problem : PairProblem) (waiting : List PairProblem) (edges : List Edge) (pair : Pair) (pairs : List Pair) (dead : ℕ) →
    Stands problem waiting (Some (problem_of edges (pair ∷ pairs))) dead → is_acyclic (pair.lesser ++ edges) ≡ false → is_acyclic (pair.greater ++ edges) ≡ false →
    Stands problem waiting None (dead + 1)
turn-dead problem waiting edges pair pairs dead s shut shut' =
    let e : search edges (pair ∷ pairs) ≡ record { found = false; dead = 1 } = rw (search-pair edges pair pairs) (rw shut (rw shut' refl)) in
    goes_back problem waiting (dead + 1) (course-dead (outcome problem) waiting (search edges (pair ∷ pairs)) dead (reached problem waiting edges (pair ∷ pairs) dead s)
    (ap (λ (o : Outcome). o.found) e) (let d : (search edges (pair ∷ pairs)).dead ≡ 1 = ap (λ (o : Outcome). o.dead) e in omega (arith, d))) s.parts

pub turn-pass : (problem : PairProblem) (waiting : List PairProblem) (edges : List Edge) (pair : Pair) (pairs : List Pair) (dead : ℕ) →
    Stands problem waiting (Some (problem_of edges (pair ∷ pairs))) dead → Implies edges pair.lesser ⊎ (Implies edges pair.greater × (is_acyclic (pair.lesser ++ edges) ≡ false)) →
    Stands problem waiting (Some (problem_of edges pairs)) dead
turn-pass problem waiting edges pair pairs dead s by =
    stands problem waiting edges pairs dead
    (course-no_worse (outcome problem) waiting (search edges (pair ∷ pairs)) (search edges pairs) dead (reached problem waiting edges (pair ∷ pairs) dead s) (passed edges pair pairs s.acyclic by))
    s.acyclic (λ rank t. s.part rank (record { base = t.base; sides = All-cons (HoldsOneSide rank) pair pairs (side by rank t.base) t.sides })) s.parts
  where
    side : Implies edges pair.lesser ⊎ (Implies edges pair.greater × (is_acyclic (pair.lesser ++ edges) ≡ false)) → (rank : ℕ → ℕ) → Holds rank edges → HoldsOneSide rank pair
    side (inl l) rank h = inl (l rank h)
    side (inr (g, shut)) rank h = inr (g rank h)

-- going back to the nearest rest
pub course-back : (problem : PairProblem) (waiting : List PairProblem) (rest : PairProblem) (dead : ℕ) → Stands problem (rest ∷ waiting) None dead → IsOnCourse (outcome problem) waiting (outcome rest) dead
unfolding resume
course-back problem waiting rest dead s =
    course-no_worse (outcome problem) waiting (or_else nothing (outcome rest)) (outcome rest) dead (record { found = s.found; bounded = s.bounded }) (refl, omega arith)

pub turn-enter : (problem : PairProblem) (waiting : List PairProblem) (rest : PairProblem) (dead : ℕ) →
    Stands problem (rest ∷ waiting) None dead → is_acyclic rest.edges ≡ true → Stands problem waiting (Some rest) dead
turn-enter problem waiting rest dead s a =
    let r = course-back problem waiting rest dead s in
    record { found = r.found; bounded = r.bounded; acyclic = a; part = All-head (IsRestOf problem) rest waiting s.parts; parts = All-tail (IsRestOf problem) rest waiting s.parts }

pub turn-leave : (problem : PairProblem) (waiting : List PairProblem) (rest : PairProblem) (dead : ℕ) →
    Stands problem (rest ∷ waiting) None dead → is_acyclic rest.edges ≡ false → Stands problem waiting None dead
turn-leave problem waiting rest dead s c =
    goes_back problem waiting dead (subst (λ (o : Outcome). IsOnCourse (outcome problem) waiting o dead) (outcome-refused rest c) (course-back problem waiting rest dead s))
    (All-tail (IsRestOf problem) rest waiting s.parts)

pub turns : Turns
turns = record { lesser = turn-lesser; greater = turn-greater; dead_end = turn-dead; pass = turn-pass; enter = turn-enter; leave = turn-leave }

-- edges that come to the same, or cost less
pub force-no_worse : (problem : PairProblem) (waiting : List PairProblem) (edges others : List Edge) (pairs : List Pair) (dead : ℕ) →
    Stands problem waiting (Some (problem_of edges pairs)) dead → Implies others edges → is_acyclic others ≡ true → IsNoWorse (search others pairs) (search edges pairs) →
    Stands problem waiting (Some (problem_of others pairs)) dead
force-no_worse problem waiting edges others pairs dead s wider a b =
    stands problem waiting others pairs dead (course-no_worse (outcome problem) waiting (search edges pairs) (search others pairs) dead (reached problem waiting edges pairs dead s) b)
    a (λ rank t. s.part rank (record { base = wider rank t.base; sides = t.sides })) s.parts

pub force-alike : (problem : PairProblem) (waiting : List PairProblem) (edges others : List Edge) (pairs : List Pair) (dead : ℕ) →
    Stands problem waiting (Some (problem_of edges pairs)) dead → Implies edges others → Implies others edges → Stands problem waiting (Some (problem_of others pairs)) dead
force-alike problem waiting edges others pairs dead s there back =
    force-no_worse problem waiting edges others pairs dead s back (acyclic-implied edges others there s.acyclic) (forced pairs edges others back (λ rank t. there rank t.base))

pub force-added : (problem : PairProblem) (waiting : List PairProblem) (edges more : List Edge) (pairs : List Pair) (dead : ℕ) →
    Stands problem waiting (Some (problem_of edges pairs)) dead → ((rank : ℕ → ℕ) → Solves (problem_of edges pairs) rank → Holds rank more) →
    is_acyclic (more ++ edges) ≡ true → Stands problem waiting (Some (problem_of (more ++ edges) pairs)) dead
force-added problem waiting edges more pairs dead s kept a =
    force-no_worse problem waiting edges (more ++ edges) pairs dead s wider a (forced pairs edges (more ++ edges) wider (λ rank t. Holds-join rank more edges (kept rank t) t.base))
  where
    wider : Implies (more ++ edges) edges
    wider rank h = (Holds-split rank more edges h).1

pub force-stuck : (problem : PairProblem) (waiting : List PairProblem) (edges more : List Edge) (pairs : List Pair) (dead : ℕ) →
    Stands problem waiting (Some (problem_of edges pairs)) dead → ((rank : ℕ → ℕ) → Solves (problem_of edges pairs) rank → Holds rank more) →
    is_acyclic (more ++ edges) ≡ false → Stands problem waiting None (dead + 1)
force-stuck problem waiting edges more pairs dead s kept c =
    goes_back problem waiting (dead + 1) (course-dead (outcome problem) waiting (search edges pairs) dead (reached problem waiting edges pairs dead s) none (search-counts pairs edges none)) s.parts
  where
    none : (search edges pairs).found ≡ false
    none = false_from_ne_true _ (λ t.
        let (rank, u) = found-solved pairs edges s.acyclic t in
        cyclic-unranked (more ++ edges) c rank (Holds-join rank more edges (kept rank u) u.base))

pub forces : Forces
forces = record {
  alike = force-alike;
  force = force-added;
  stuck = force-stuck;
  lesser = λ problem waiting rest dead pair s c shut rank t. other-lesser problem rest.edges pair rank c (s.part rank t).sides t.base shut;
  greater = λ problem waiting rest dead pair s c shut rank t. other-greater problem rest.edges pair rank c (s.part rank t).sides t.base shut;
}

pub ends : Ends
unfolding resume
ends = record {
  begin = λ problem a. record { found = refl; bounded = omega arith; acyclic = a; part = λ rank s. s; parts = All-nil (IsRestOf problem) };
  found = λ problem waiting edges dead s rank h. s.part rank (record { base = h; sides = All-nil (HoldsOneSide rank) });
  none = λ problem dead s rank t. both_ways _ (sym s.found) (solved-outcome problem rank t);
  bounded = λ problem waiting here dead s. let m = s.bounded in omega (arith, m);
}
