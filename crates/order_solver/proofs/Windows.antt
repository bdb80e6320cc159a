-- What is settled of one source and those of a thread: earlier ones come before it, later ones after it.
use Rattle.std.proofs.Common.{◌≡◌, ◌≢◌, ℕ, zero, suc, ◌+◌, ◌-◌, ◌<◌, ◌≤◌, false, List, ◌++◌, length, sym, ap, subst, arith, inl, inr, ◌⊎◌}
use Rattle.std.specs.Prelude.{Contains}
use Rattle.std.proofs.lemmas.Bool.{cases_lt, both_ways, false_from_ne_true}
use Rattle.std.proofs.lemmas.List.Elements.{All-weaker, Contains-get_or}
use Rattle.plain_search.specs.declared.Edge.{Edge}
use Rattle.plain_search.specs.Edges.{is_acyclic, Holds, Implies}
use Rattle.plain_search.proofs.Rankings.{acyclic-ranked, Holds-split}
use Rattle.order_solver.specs.Rivals.{Rivalry, AreRivals, IsNextRival, AtMost, edges_in, source_at, pair_in}
use Rattle.constraints.specs.Constraints.{edges_to}
use Rattle.order_solver.specs.Cursors.{IsRooted, IsRun, IsSettled, Precedes, AreBefore, AreSettled}
use Rattle.order_solver.specs.Rooms.{IsDecided}
use Rattle.order_solver.proofs.Testing.{side-holds, holds-side}

pub at_most-trans : (rank : ℕ → ℕ) (a b c : ℕ) → AtMost rank a b → AtMost rank b c → AtMost rank a c
at_most-trans rank a b c (inl e) q = subst (λ (x : ℕ). AtMost rank x c) (sym e) q
at_most-trans rank a b c (inr l) (inl e) = inr (let k = ap rank e in omega (arith, l, k))
at_most-trans rank a b c (inr l) (inr m) = inr (omega (arith, l, m))

pub source-in : (r : Rivalry) (word i : ℕ) → i < length (r.sources word) → Contains (r.sources word) (source_at r word i)
source-in r word i l = Contains-get_or (r.sources word) i 0 l

-- where a source comes before another one with its last reads, it ranks below
pub source-before : (r : Rivalry) (rank : ℕ → ℕ) (word i j : ℕ) → AreRivals r → Holds rank (edges_in r) → word < r.words → i < length (r.sources word) → j < length (r.sources word) →
    source_at r word i ≢ source_at r word j → Holds rank (edges_to (r.last_reads word (source_at r word i)) (source_at r word j)) → rank (source_at r word i) < rank (source_at r word j)
source-before r rank word i j are h w l m n side = are.before rank word (source_at r word i) (source_at r word j) h w (source-in r word i l) (source-in r word j m) n side

-- so of two sources not both come before the other one
pub sides-exclude : (r : Rivalry) (rank : ℕ → ℕ) (word i j : ℕ) → AreRivals r → Holds rank (edges_in r) → word < r.words → i < length (r.sources word) → j < length (r.sources word) →
    source_at r word i ≢ source_at r word j → Holds rank (pair_in r word (source_at r word i) (source_at r word j)).lesser → Holds rank (pair_in r word (source_at r word i) (source_at r word j)).greater → ⊥
sides-exclude r rank word i j are h w l m n one two =
    let a = source-before r rank word i j are h w l m n one in
    let b = source-before r rank word j i are h w m l (λ e. n (sym e)) two in
    absurd (omega (arith, a, b))

-- where the edges imply the greater side, the lesser one is shut
pub settled-shut : (r : Rivalry) (edges : List Edge) (word i j : ℕ) → AreRivals r → Implies edges (edges_in r) → word < r.words → i < length (r.sources word) → j < length (r.sources word) →
    source_at r word i ≢ source_at r word j → Implies edges (pair_in r word (source_at r word i) (source_at r word j)).greater →
    is_acyclic ((pair_in r word (source_at r word i) (source_at r word j)).lesser ++ edges) ≡ false
settled-shut r edges word i j are base w l m n by = false_from_ne_true _ (λ a.
    let (rank, h) = acyclic-ranked ((pair_in r word (source_at r word i) (source_at r word j)).lesser ++ edges) a in
    let (p, q) = Holds-split rank (pair_in r word (source_at r word i) (source_at r word j)).lesser edges h in
    sides-exclude r rank word i j are (base rank q) w l m n p (by rank q))

pub run-at_most : (r : Rivalry) (edges : List Edge) (rank : ℕ → ℕ) (word from end j k : ℕ) → IsRun r edges word from end → Holds rank edges → from ≤ j → j ≤ k → k < end →
    AtMost rank (source_at r word j) (source_at r word k)
run-at_most r edges rank word from end j k run h a b c = go (cases_lt j k)
  where
    go : (j < k) ⊎ (k ≤ j) → AtMost rank (source_at r word j) (source_at r word k)
    go (inl l) = inr (run.rising rank j k h a l c)
    go (inr m) = let e : j ≡ k = omega arith in inl (ap (source_at r word) e)

-- what comes before one source of a thread comes before the later ones
pub lesser-up : (r : Rivalry) (edges : List Edge) (word from end j k : ℕ) (last_reads : List ℕ) → IsRun r edges word from end → from ≤ j → j ≤ k → k < end →
    Implies edges (edges_to last_reads (source_at r word j)) → Implies edges (edges_to last_reads (source_at r word k))
lesser-up r edges word from end j k last_reads run a b c by rank h =
    side-holds rank last_reads (source_at r word k)
    (All-weaker (λ l. AtMost rank l (source_at r word j)) (λ l. AtMost rank l (source_at r word k))
    (λ l q. at_most-trans rank l (source_at r word j) (source_at r word k) q (run-at_most r edges rank word from end j k run h a b c)) last_reads (holds-side rank last_reads (source_at r word j) (by rank h)))

-- where one source of a thread comes before another source with its last reads, the earlier ones do
pub greater-down : (r : Rivalry) (edges : List Edge) (word i from end j k : ℕ) → AreRivals r → word < r.words → i < from → IsRun r edges word from end → from ≤ j → j ≤ k → k < end →
    Implies edges (edges_to (r.last_reads word (source_at r word k)) (source_at r word i)) → Implies edges (edges_to (r.last_reads word (source_at r word j)) (source_at r word i))
greater-down r edges word i from end j k are w d run a b c by = go (cases_lt j k)
  where
    s : ℕ
    s = source_at r word i

    up : (rank : ℕ → ℕ) → Holds rank edges → rank (source_at r word k) < rank s
    up rank h =
        let z = run.within in
        source-before r rank word k i are (run.base rank h) w (omega (arith, c, z)) (omega (arith, a, b, c, d, z)) (λ e. are.once word i k w (omega (arith, a, b, d)) (omega (arith, c, z)) (sym e)) (by rank h)

    go : (j < k) ⊎ (k ≤ j) → Implies edges (edges_to (r.last_reads word (source_at r word j)) s)
    go (inr m) = let e : k ≡ j = omega arith in subst (λ (n : ℕ). Implies edges (edges_to (r.last_reads word (source_at r word n)) s)) e by
    go (inl l) = λ rank h. side-holds rank (r.last_reads word (source_at r word j)) s (All-weaker (λ x. AtMost rank x (source_at r word (j + 1))) (λ x. AtMost rank x s)
        (λ x q. at_most-trans rank x (source_at r word (j + 1)) s q (at_most-trans rank (source_at r word (j + 1)) (source_at r word k) s
        (run-at_most r edges rank word from end (j + 1) k run h (omega arith) (omega arith) c) (inr (up rank h))))
        (r.last_reads word (source_at r word j)) (holds-side rank (r.last_reads word (source_at r word j)) (source_at r word (j + 1)) (run.chained rank h j a (omega arith))))

-- one more is seen to come before, and with it all earlier ones
pub before-more : (r : Rivalry) (edges : List Edge) (word i from end middle : ℕ) → AreRivals r → word < r.words → i < from → IsRun r edges word from end → middle < end →
    Implies edges (edges_to (r.last_reads word (source_at r word middle)) (source_at r word i)) → AreBefore r edges word i from (middle + 1)
before-more r edges word i from end middle are w d run l by k a b = greater-down r edges word i from end k middle are w d run a (omega arith) l by

-- those that come before are settled, and so are those that come after
pub before-settled : (r : Rivalry) (edges : List Edge) (word i from end : ℕ) → AreRivals r → Implies edges (edges_in r) → word < r.words → i < from → end ≤ length (r.sources word) →
    AreBefore r edges word i from end → AreSettled r edges word i from end
before-settled r edges word i from end are base w l m before k a b q =
    inr (before k a b, settled-shut r edges word i k are base w (omega arith) (omega arith) (are.once word i k w (omega arith) (omega arith)) (before k a b))

pub after-settled : (r : Rivalry) (edges : List Edge) (word i from end at : ℕ) → IsRun r edges word from end → from ≤ at →
    Implies edges (edges_to (r.last_reads word (source_at r word i)) (source_at r word at)) → AreSettled r edges word i at end
after-settled r edges word i from end at run a by k b c q = inl (lesser-up r edges word from end at k (r.last_reads word (source_at r word i)) run a b c by)

pub settled-join : (r : Rivalry) (edges : List Edge) (word i from middle end : ℕ) → AreSettled r edges word i from middle → AreSettled r edges word i middle end → AreSettled r edges word i from end
settled-join r edges word i from middle end one two k a b q = go (cases_lt k middle)
  where
    go : (k < middle) ⊎ (middle ≤ k) → IsSettled edges (pair_in r word (source_at r word i) (source_at r word k))
    go (inl l) = one k a l q
    go (inr m) = two k m b q

-- places at which threads' sources begin rise
pub starts-rise : (r : Rivalry) (word t n : ℕ) → AreRivals r → word < r.words → t + n ≤ length r.counts → r.start word t ≤ r.start word (t + n)
starts-rise r word t zero are w l = let e : t + 0 ≡ t = omega arith in let q = ap (r.start word) e in omega (arith, q)
starts-rise r word t (suc n) are w l =
    let a = starts-rise r word t n are w (omega arith) in
    let b = are.next word (t + n) w (omega arith) in
    let e : (t + n) + 1 ≡ t + suc n = omega arith in
    let q = ap (r.start word) e in
    omega (arith, a, b, q)

-- the sources of one thread, from some one on
pub run-of : (r : Rivalry) (edges : List Edge) (word t from end : ℕ) → AreRivals r → IsRooted r edges → word < r.words → t < length r.counts → r.start word t ≤ from → from ≤ end → end ≡ r.start word (t + 1) →
    IsRun r edges word from end
run-of r edges word t from end are rooted w l a b e = record {
  bounds = b;
  within = (
      let n : ℕ = length r.counts - (t + 1) in
      let m : (t + 1) + n ≡ length r.counts = omega arith in
      let s = starts-rise r word (t + 1) n are w (omega (arith, m)) in
      let q = ap (r.start word) m in
      let z = are.end word w in omega (arith, s, q, z, e));
  base = rooted.base;
  rising = λ rank i j h c d f. are.rising rank word t i j (rooted.base rank h) w l (omega (arith, a, c)) d (omega (arith, e, f));
  chained = λ rank h k c d. rooted.chained rank word t h w l k (omega (arith, a, c)) (omega (arith, e, d));
}

-- where none of these is a rival, all is settled
pub none-settled : (r : Rivalry) (edges : List Edge) (word i from next to : ℕ) → IsNextRival r word i from next → to ≤ next → to ≤ length (r.sources word) → AreSettled r edges word i from to
none-settled r edges word i from next to n l m k a b q = absurd (both_ways _ (n.others k a (omega (arith, b, l)) (omega (arith, b, m))) q)

-- the later ones of a run
pub run-part : (r : Rivalry) (edges : List Edge) (word from end later : ℕ) → IsRun r edges word from end → from ≤ later → later ≤ end → IsRun r edges word later end
run-part r edges word from end later run a b = record {
  bounds = b;
  within = run.within;
  base = run.base;
  rising = λ rank i j h c d e. run.rising rank i j h (omega (arith, a, c)) d e;
  chained = λ rank h k c d. run.chained rank h k (omega (arith, a, c)) d;
}

-- past those that come before, and then past those that are no rivals
pub past-settled : (r : Rivalry) (edges : List Edge) (word i from first after next to end : ℕ) → AreRivals r → word < r.words → i < from → IsRun r edges word from end → IsNextRival r word i from first → first ≤ end →
    first ≤ after → after ≤ end → AreBefore r edges word i first after → IsNextRival r word i after next → after ≤ to → to ≤ next → to ≤ end → AreSettled r edges word i from to
past-settled r edges word i from first after next to end are w l run one f a b before two c d e =
    let z = run.within in
    settled-join r edges word i from first to (none-settled r edges word i from first first one (omega arith) (omega (arith, f, z)))
    (settled-join r edges word i first after to
    (before-settled r edges word i first after are run.base w (let g = one.later in omega (arith, g, l)) (omega (arith, b, z)) before)
    (none-settled r edges word i after next to two d (omega (arith, e, z))))

-- where a source of a thread does not come before this one, and this one not before a later one of it, their pair is not decided
pub next-undecided : (r : Rivalry) (edges : List Edge) (word i from end after next : ℕ) → AreRivals r → word < r.words → i < from → IsRun r edges word from end → from ≤ after → after ≤ next → next < end →
    (Precedes r edges word after i → ⊥) → (Precedes r edges word i next → ⊥) → IsDecided edges (pair_in r word (source_at r word i) (source_at r word next)) → ⊥
next-undecided r edges word i from end after next are w l run a b c low high (inl h) = high h
next-undecided r edges word i from end after next are w l run a b c low high (inr h) = low (greater-down r edges word i from end after next are w l run a b c h)

pub counted : (counts counts' : List ℕ) (t : ℕ) → counts ≡ counts' → t < length counts → t < length counts'
counted counts counts' t e l = subst (λ (xs : List ℕ). t < length xs) e l
