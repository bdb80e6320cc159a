-- The judge's answers.
use Rattle.std.proofs.Common.{◌≡◌, ℕ, ◌<◌, ◌++◌, ◌↔◌, Bool, true, false, IsTrue, IfOk, MatchOption, Option, Some, None, Result, Ok, Err, List, length, sum, refl, sym, ◌∙◌, subst, arith, Vec, Global}
use Rattle.std.specs.Prelude.{All, slice_index, is_some, not}
use Rattle.std.proofs.lemmas.List.Elements.{Contains-get_or}
use Rattle.light_base.specs.declared.memory.Memory.{Memory}
use Rattle.plain_search.specs.declared.Edge.{Edge}
use Rattle.plain_search.specs.Chains.{chains_from}
use Rattle.plain_search.specs.Edges.{Holds}
use Rattle.order_judge.specs.declared.judging.Read.{Read}
use Rattle.order_judge.specs.declared.live_ranges.LiveRange.{LiveRange}
use Rattle.order_judge.specs.declared.places.Placing.{Placing}
use Rattle.order_judge.specs.declared.places.Placing.TheVariants.{Placed, Unknown, Twice, Missing}
use Rattle.order_judge.specs.LiveRanges.{no_range, range_at, IsFirstOverlap, AreApart}
use Rattle.order_judge.specs.Places.{IsOrder, IsPlacing}
use Rattle.order_judge.specs.Judging.{Respects, AreRanges, TakeTurns}
use Rattle.order_judge.proofs.Filling.{at_place, contains_at}
use Rattle.order_judge.proofs.Judged.{EdgeFits, IsPlaced, judged-respects, respects-turns}

-- where two overlap they are not apart
first-apart : (ranges : List LiveRange) (i j : ℕ) → IsFirstOverlap ranges i j → AreApart ranges → ⊥
first-apart ranges i j f apart =
    let l = f.below in
    let k : i < length ranges = let r = f.rising in omega (arith, l, r) in
    apart (range_at ranges i) (range_at ranges j) (Contains-get_or ranges i no_range k) (Contains-get_or ranges j no_range l) f.here

-- whether writers take turns, by the first overlap of the live ranges of their reads
pub turns-told : (places : List ℕ) (reads : List Read) (ranges : Vec LiveRange Global) (list : List LiveRange) (found : Option (ℕ × ℕ)) (answer : Bool) → AreRanges reads places (Some ranges) → list ≡ ranges.items →
    MatchOption found (AreApart list) (λ pair. IsFirstOverlap list pair.0 pair.1) → is_some found ≡ not answer → IsTrue answer ↔ TakeTurns places reads
turns-told places reads ranges list None true (later, items) e apart is = (λ t. (later, subst AreApart (e ∙ items) apart), λ t. refl)
turns-told places reads ranges list None false (later, items) e apart is = absurd (cc is)
turns-told places reads ranges list (Some pair) true (later, items) e first is = absurd (cc is)
turns-told places reads ranges list (Some pair) false (later, items) e first is =
    (λ t. absurd (cc t), λ (l, apart). absurd (first-apart list pair.0 pair.1 first (subst AreApart (sym (e ∙ items)) apart)))

-- what has no places is no order
pub not-placed : (nodes : ℕ) (order : List ℕ) (placing : Placing) → IsPlacing nodes order placing → ((places : Vec ℕ Global) → placing ≡ Placed places → ⊥) → IsOrder nodes order → ⊥
not-placed nodes order (Placed places) p none o = none places refl
not-placed nodes order (Unknown k) ((l, m), least) none o = let n = o.only _ (contains_at order k l) in omega (arith, m, n)
not-placed nodes order (Twice k) (known, ((l, m), least)) none o =
    let (a, b) = at_place order _ (contains_at order k l) in o.once _ k m l b
not-placed nodes order (Missing x) (known, once, ((l, m), least)) none o = m (o.all x l)

-- the last test decides
pub turns-decide : (counts : List ℕ) (edges : List Edge) (reads : List Read) (order places : List ℕ) (answer : Result Bool Memory) → IsPlaced (sum counts) reads order places →
    All (EdgeFits (sum counts)) (chains_from 0 counts ++ edges) → Holds (slice_index places) (chains_from 0 counts ++ edges) →
    IfOk answer (λ told. IsTrue told ↔ TakeTurns places reads) → IfOk answer (λ told. IsTrue told ↔ Respects counts edges reads order)
turns-decide counts edges reads order places (Ok told) p fits rising (to, back) =
    (λ t. judged-respects counts edges reads order places p fits rising (to t), λ r. back (respects-turns counts edges reads order places p r))
turns-decide counts edges reads order places (Err e) p fits rising h = h
