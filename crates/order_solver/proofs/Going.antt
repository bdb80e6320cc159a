-- Steps of the search: what waits, and where it stands.
use Rattle.std.proofs.Common.{◌≡◌, ℕ, suc, ◌+◌, ◌-◌, ◌*◌, ◌<◌, ◌≤◌, Bool, true, false, List, [], ◌∷◌, ◌++◌, length, take, drop, reverse, append_assoc, refl, sym, ◌∙◌, ap, subst, arith}
use Rattle.std.specs.Prelude.{All, Option, Some, None, Result, Ok, Err}
use Rattle.light_base.specs.declared.memory.Memory.{Memory}
use Rattle.std.proofs.Math.Seq.{take-append_seam}
use Rattle.std.proofs.lemmas.List.{take-append-drop, take-append-le, length-append, reverse-append}
use Rattle.std.proofs.lemmas.List.Elements.{All-head, All-tail}
use Rattle.plain_search.specs.declared.Edge.{Edge}
use Rattle.plain_search.specs.Chains.{chains_from}
use Rattle.plain_search.specs.Edges.{is_acyclic, Holds, Implies}
use Rattle.plain_search.specs.Searches.{Pair, PairProblem, problem_of, Solves, outcome}
use Rattle.plain_search.specs.Standing.{Stands}
use Rattle.plain_search.proofs.Rankings.{Holds-split, Holds-join}
use Rattle.plain_search.proofs.Standing.{turns, ends, forces}
use Rattle.order_graph.specs.Graphs.{GraphState, edges_of, undone}
use Rattle.order_solver.specs.declared.cursor.Cursor.{Cursor}
use Rattle.order_solver.specs.declared.search.Frame.{Frame}
use Rattle.order_solver.specs.Rivals.{Rivalry, pairs_from, problem_in}
use Rattle.order_solver.specs.Cursors.{cursor, next_of, pairs_at, IsPlace, IsAt, IsSettled, IsRooted, Passes}
use Rattle.order_solver.specs.Sides.{IsNarrower, Takes}
use Rattle.order_solver.specs.Begun.{IsBegun}
use Rattle.order_solver.specs.Frames.{pair_at, edges_with, rests_of, Stacked, StandsAt, TookPair, WentBack}
use Rattle.order_solver.proofs.Passing.{at-next, word-starts}

pub edges-are : (r : Rivalry) (g : GraphState) → g.counts ≡ r.counts → edges_of g ≡ edges_with r g.added
edges-are r g c = ap (λ (xs : List ℕ). chains_from 0 xs ++ g.added) c

-- what more edges imply
pub more-implies : (r : Rivalry) (added more : List Edge) → Implies (edges_with r (added ++ more)) (edges_with r added)
more-implies r added more rank h = (Holds-split rank (edges_with r added) more (subst (λ (es : List Edge). Holds rank es) (sym (append_assoc (chains_from 0 r.counts) added more)) h)).0

pub rooted-more : (r : Rivalry) (edges others : List Edge) → Implies others edges → IsRooted r edges → IsRooted r others
rooted-more r edges others by rooted = record { base = λ rank h. rooted.base rank (by rank h); chained = λ rank w t h lw lt. rooted.chained rank w t (by rank h) lw lt }

pub stacked-rooted : (r : Rivalry) (added : List Edge) (frames : List Frame) → Stacked r added frames → IsRooted r (edges_with r added)
stacked-rooted r added [] s = s
stacked-rooted r added (f ∷ frames) s =
    rooted-more r (edges_with r (take f.mark added)) (edges_with r added)
    (λ rank h. more-implies r (take f.mark added) (drop f.mark added) rank (subst (λ (es : List Edge). Holds rank (edges_with r es)) (sym (take-append-drop f.mark added)) h))
    (stacked-rooted r (take f.mark added) frames s.2)

pub stacked-more : (r : Rivalry) (added more : List Edge) (frames : List Frame) → Stacked r added frames → Stacked r (added ++ more) frames
stacked-more r added more [] s = rooted-more r (edges_with r added) (edges_with r (added ++ more)) (more-implies r added more) s
stacked-more r added more (f ∷ frames) s =
    let l = s.0 in
    let e = length-append added more in
    (omega (arith, l, e), s.1, subst (λ (es : List Edge). Stacked r es frames) (sym (take-append-le f.mark added more s.0)) s.2)

pub rests-more : (r : Rivalry) (added more : List Edge) (frames : List Frame) → Stacked r added frames → rests_of r (added ++ more) frames ≡ rests_of r added frames
rests-more r added more [] s = refl
rests-more r added more (f ∷ frames) s =
    let F : List Edge → List PairProblem = λ es. problem_of ((pair_at r f.at).greater ++ edges_with r es) (pairs_at r (next_of f.at)) ∷ rests_of r es frames in
    ap F (take-append-le f.mark added more s.0)

-- past pairs that are settled
pub passed-list : (problem : PairProblem) (waiting : List PairProblem) (edges : List Edge) (passed rest : List Pair) (dead : ℕ) → All (IsSettled edges) passed →
    Stands problem waiting (Some (problem_of edges (passed ++ rest))) dead → Stands problem waiting (Some (problem_of edges rest)) dead
passed-list problem waiting edges [] rest dead a s = s
passed-list problem waiting edges (pair ∷ passed) rest dead a s =
    passed-list problem waiting edges passed rest dead (All-tail (IsSettled edges) pair passed a)
    (turns.pass problem waiting edges pair (passed ++ rest) dead s (All-head (IsSettled edges) pair passed a))

pub passed-on : (problem : PairProblem) (waiting : List PairProblem) (edges : List Edge) (pairs rest : List Pair) (dead : ℕ) → Passes edges pairs rest →
    Stands problem waiting (Some (problem_of edges pairs)) dead → Stands problem waiting (Some (problem_of edges rest)) dead
passed-on problem waiting edges pairs rest dead p s =
    passed-list problem waiting edges p.passed rest dead p.settled (subst (λ (ps : List Pair). Stands problem waiting (Some (problem_of edges ps)) dead) p.all s)

-- a side was added
pub record IsWith (r : Rivalry) (side old new : List Edge) : Type 0 where
  pub more : List Edge
  pub added : new ≡ old ++ more
  pub there : Implies (side ++ edges_with r old) (edges_with r new)
  pub back : Implies (edges_with r new) (side ++ edges_with r old)

pub with-of : (r : Rivalry) (side : List Edge) (old new : GraphState) → old.counts ≡ r.counts → IsNarrower (λ rank. Holds rank side) old new → IsWith r side old.added new.added
with-of r side old new c n = record {
  more = n.more;
  added = n.added;
  there = λ rank h. let (p, q) = Holds-split rank side (edges_with r old.added) h in subst (λ (es : List Edge). Holds rank es) is' (n.all rank (subst (λ (es : List Edge). Holds rank es) (sym is) q) p);
  back = λ rank h.
      let k = subst (λ (es : List Edge). Holds rank es) (sym is') h in
      Holds-join rank side (edges_with r old.added) (n.holds rank k) (subst (λ (es : List Edge). Holds rank es) is (n.old_holds rank k));
}
  where
    is : edges_of old ≡ edges_with r old.added
    is = edges-are r old c

    is' : edges_of new ≡ edges_with r new.added
    is' = edges-are r new (n.counts ∙ c)

pub stacked-with : (r : Rivalry) (side old new : List Edge) (frames : List Frame) → IsWith r side old new → Stacked r old frames → Stacked r new frames
stacked-with r side old new frames w s = subst (λ (es : List Edge). Stacked r es frames) (sym w.added) (stacked-more r old w.more frames s)

pub rests-with : (r : Rivalry) (side old new : List Edge) (frames : List Frame) → IsWith r side old new → Stacked r old frames → rests_of r new frames ≡ rests_of r old frames
rests-with r side old new frames w s = ap (λ (es : List Edge). rests_of r es frames) w.added ∙ rests-more r old w.more frames s

-- the search goes on with the side
pub goes-with : (r : Rivalry) (problem : PairProblem) (waiting : List PairProblem) (side old new : List Edge) (pairs : List Pair) (dead : ℕ) → IsWith r side old new →
    Stands problem waiting (Some (problem_of (side ++ edges_with r old) pairs)) dead → Stands problem waiting (Some (problem_of (edges_with r new) pairs)) dead
goes-with r problem waiting side old new pairs dead w s = forces.alike problem waiting (side ++ edges_with r old) (edges_with r new) pairs dead s w.there w.back

abbrev pub frame : ℕ → Cursor → Frame
frame mark at = record { mark = mark; at = at }

pub at-pair : (r : Rivalry) (problem : PairProblem) (added : List Edge) (frames : List Frame) (c : Cursor) (dead : ℕ) → IsAt r c → StandsAt r problem added frames c dead →
    Stands problem (rests_of r added frames) (Some (problem_of (edges_with r added) (pair_at r c ∷ pairs_at r (next_of c)))) dead
at-pair r problem added frames c dead a s = subst (λ (ps : List Pair). Stands problem (rests_of r added frames) (Some (problem_of (edges_with r added) ps)) dead) (at-next r c a) s

-- the lesser side is open, and taken
pub was-below : (r : Rivalry) (side old new : List Edge) (mark : ℕ) → mark ≡ length old → IsWith r side old new → take mark new ≡ old
was-below r side old new mark m w = ap (λ (es : List Edge). take mark es) w.added ∙ ap (λ (n : ℕ). take n (old ++ w.more)) m ∙ take-append_seam old w.more

pub lesser-stacked : (r : Rivalry) (old new : List Edge) (frames : List Frame) (c : Cursor) (mark : ℕ) → IsAt r c → mark ≡ length old → Stacked r old frames → IsWith r (pair_at r c).lesser old new →
    Stacked r new (frame mark c ∷ frames)
lesser-stacked r old new frames c mark a m s w =
    (let l = ap length w.added in let e = length-append old w.more in omega (arith, l, e, m), a, subst (λ (es : List Edge). Stacked r es frames) (sym (was-below r (pair_at r c).lesser old new mark m w)) s)

pub lesser-taken : (r : Rivalry) (problem : PairProblem) (old new : List Edge) (frames : List Frame) (c : Cursor) (mark dead : ℕ) → IsAt r c → mark ≡ length old →
    StandsAt r problem old frames c dead → is_acyclic ((pair_at r c).lesser ++ edges_with r old) ≡ true → IsWith r (pair_at r c).lesser old new → StandsAt r problem new (frame mark c ∷ frames) (next_of c) dead
lesser-taken r problem old new frames c mark dead a m st free w =
    goes-with r problem (rests_of r new (frame mark c ∷ frames)) (pair_at r c).lesser old new (pairs_at r (next_of c)) dead w
    (subst (λ (es : List Edge). Stands problem (problem_of ((pair_at r c).greater ++ edges_with r es) (pairs_at r (next_of c)) ∷ rests_of r es frames) (Some (problem_of ((pair_at r c).lesser ++ edges_with r old) (pairs_at r (next_of c)))) dead)
    (sym (was-below r (pair_at r c).lesser old new mark m w))
    (turns.lesser problem (rests_of r old frames) (edges_with r old) (pair_at r c) (pairs_at r (next_of c)) dead (at-pair r problem old frames c dead a st) free))

-- the lesser side is shut, and the greater one is taken
pub greater-taken : (r : Rivalry) (problem : PairProblem) (old new : List Edge) (frames : List Frame) (c : Cursor) (dead : ℕ) → IsAt r c → Stacked r old frames → StandsAt r problem old frames c dead →
    is_acyclic ((pair_at r c).lesser ++ edges_with r old) ≡ false → is_acyclic ((pair_at r c).greater ++ edges_with r old) ≡ true → IsWith r (pair_at r c).greater old new →
    Stacked r new frames × StandsAt r problem new frames (next_of c) dead
greater-taken r problem old new frames c dead a s st shut free w = (
  stacked-with r (pair_at r c).greater old new frames w s,
  goes-with r problem (rests_of r new frames) (pair_at r c).greater old new (pairs_at r (next_of c)) dead w
      (subst (λ (ws : List PairProblem). Stands problem ws (Some (problem_of ((pair_at r c).greater ++ edges_with r old) (pairs_at r (next_of c)))) dead) (sym (rests-with r (pair_at r c).greater old new frames w s))
      (turns.greater problem (rests_of r old frames) (edges_with r old) (pair_at r c) (pairs_at r (next_of c)) dead (at-pair r problem old frames c dead a st) shut free)),
)

-- both are shut
pub both-shut : (r : Rivalry) (problem : PairProblem) (added : List Edge) (frames : List Frame) (c : Cursor) (dead : ℕ) → IsAt r c → StandsAt r problem added frames c dead →
    is_acyclic ((pair_at r c).lesser ++ edges_with r added) ≡ false → is_acyclic ((pair_at r c).greater ++ edges_with r added) ≡ false → Stands problem (rests_of r added frames) None (dead + 1)
both-shut r problem added frames c dead a st one two =
    turns.dead_end problem (rests_of r added frames) (edges_with r added) (pair_at r c) (pairs_at r (next_of c)) dead (at-pair r problem added frames c dead a st) one two

-- going back, the greater side of the nearest frame is open, or shut
pub back-entered : (r : Rivalry) (problem : PairProblem) (added new : List Edge) (f : Frame) (frames : List Frame) (dead : ℕ) → Stacked r added (f ∷ frames) → Stands problem (rests_of r added (f ∷ frames)) None dead →
    is_acyclic ((pair_at r f.at).greater ++ edges_with r (take f.mark added)) ≡ true → IsWith r (pair_at r f.at).greater (take f.mark added) new → StandsAt r problem new frames (next_of f.at) dead
back-entered r problem added new f frames dead s st free w =
    let old = take f.mark added in
    goes-with r problem (rests_of r new frames) (pair_at r f.at).greater old new (pairs_at r (next_of f.at)) dead w
    (subst (λ (ws : List PairProblem). Stands problem ws (Some (problem_of ((pair_at r f.at).greater ++ edges_with r old) (pairs_at r (next_of f.at)))) dead) (sym (rests-with r (pair_at r f.at).greater old new frames w s.2))
    (turns.enter problem (rests_of r old frames) (problem_of ((pair_at r f.at).greater ++ edges_with r old) (pairs_at r (next_of f.at))) dead st free))

pub back-left : (r : Rivalry) (problem : PairProblem) (added : List Edge) (f : Frame) (frames : List Frame) (dead : ℕ) → Stands problem (rests_of r added (f ∷ frames)) None dead →
    is_acyclic ((pair_at r f.at).greater ++ edges_with r (take f.mark added)) ≡ false → Stands problem (rests_of r (take f.mark added) frames) None dead
back-left r problem added f frames dead st shut =
    turns.leave problem (rests_of r (take f.mark added) frames) (problem_of ((pair_at r f.at).greater ++ edges_with r (take f.mark added)) (pairs_at r (next_of f.at))) dead st shut

-- the nearest frame is the last of a vector
pub reverse-push : (frames : List Frame) (f : Frame) → reverse (frames ++ f ∷ []) ≡ f ∷ reverse frames
reverse-push frames f = reverse-append frames (f ∷ [])

pub reverse-pop : (frames frames' : List Frame) (f : Frame) → frames ≡ frames' ++ f ∷ [] → reverse frames ≡ f ∷ reverse frames'
reverse-pop frames frames' f e = ap reverse e ∙ reverse-push frames' f

-- after a pair comes a place in its row
pub place-next : (r : Rivalry) (c : Cursor) → IsAt r c → IsPlace r (next_of c)
place-next r c a = let l = a.lesser in let m = a.greater in record { lesser = omega (arith, l); row = omega (arith, l, m) }

pub popped : (r : Rivalry) (added : List Edge) (frames frames' : List Frame) (f : Frame) → frames ≡ frames' ++ f ∷ [] → Stacked r added (reverse frames) → Stacked r added (f ∷ reverse frames')
popped r added frames frames' f e s = subst (λ (fs : List Frame). Stacked r added fs) (reverse-pop frames frames' f e) s

pub popped-stands : (r : Rivalry) (problem : PairProblem) (added : List Edge) (frames frames' : List Frame) (f : Frame) (dead : ℕ) → frames ≡ frames' ++ f ∷ [] →
    Stands problem (rests_of r added (reverse frames)) None dead → Stands problem (rests_of r added (f ∷ reverse frames')) None dead
popped-stands r problem added frames frames' f dead e s = subst (λ (fs : List Frame). Stands problem (rests_of r added fs) None dead) (reverse-pop frames frames' f e) s

pub takes-true : (side : List Edge) (old new : GraphState) (b : Bool) → Takes side old (Ok b) new → b ≡ true → (is_acyclic (side ++ edges_of old) ≡ true) × IsNarrower (λ rank. Holds rank side) old new
takes-true side old new b t e = subst (λ (x : Bool). Takes side old (Ok x) new) e t

pub takes-false : (side : List Edge) (old new : GraphState) (b : Bool) → Takes side old (Ok b) new → b ≡ false → (is_acyclic (side ++ edges_of old) ≡ false) × (new ≡ old)
takes-false side old new b t e = subst (λ (x : Bool). Takes side old (Ok x) new) e t

-- the nearest frame's greater side was taken
pub back-taken : (r : Rivalry) (g0 g1 g2 : GraphState) (frames frames' : List Frame) (f : Frame) (b : Bool) → g0.counts ≡ r.counts → Stacked r g0.added (reverse frames) → frames ≡ frames' ++ f ∷ [] →
    g1 ≡ undone g0 f.mark → Takes (pair_at r f.at).greater g1 (Ok b) g2 → b ≡ true →
    (g2.counts ≡ r.counts) × IsPlace r (next_of f.at) × Stacked r g2.added (reverse frames') ×
    ((problem : PairProblem) (dead : ℕ) → Stands problem (rests_of r g0.added (reverse frames)) None dead → StandsAt r problem g2.added (reverse frames') (next_of f.at) dead)
back-taken r g0 g1 g2 frames frames' f b c s e u t is = (
  n.counts ∙ c1,
  place-next r f.at k.1,
  stacked-with r (pair_at r f.at).greater (take f.mark g0.added) g2.added (reverse frames') w k.2,
  λ problem dead st. back-entered r problem g0.added g2.added f (reverse frames') dead k (popped-stands r problem g0.added frames frames' f dead e st) free w,
)
  where
    k : Stacked r g0.added (f ∷ reverse frames')
    k = popped r g0.added frames frames' f e s

    c1 : g1.counts ≡ r.counts
    c1 = ap (λ (g : GraphState). g.counts) u ∙ c

    both : (is_acyclic ((pair_at r f.at).greater ++ edges_of g1) ≡ true) × IsNarrower (λ rank. Holds rank (pair_at r f.at).greater) g1 g2
    both = takes-true (pair_at r f.at).greater g1 g2 b t is

    n : IsNarrower (λ rank. Holds rank (pair_at r f.at).greater) g1 g2
    n = both.1

    added : g1.added ≡ take f.mark g0.added
    added = ap (λ (g : GraphState). g.added) u

    edges : edges_of g1 ≡ edges_with r (take f.mark g0.added)
    edges = edges-are r g1 c1 ∙ ap (edges_with r) added

    free : is_acyclic ((pair_at r f.at).greater ++ edges_with r (take f.mark g0.added)) ≡ true
    free = subst (λ (es : List Edge). is_acyclic ((pair_at r f.at).greater ++ es) ≡ true) edges both.0

    w : IsWith r (pair_at r f.at).greater (take f.mark g0.added) g2.added
    w = subst (λ (es : List Edge). IsWith r (pair_at r f.at).greater es g2.added) added (with-of r (pair_at r f.at).greater g1 g2 c1 n)

-- it was not
pub back-shut : (r : Rivalry) (g0 g1 g2 : GraphState) (frames frames' : List Frame) (f : Frame) (b : Bool) → g0.counts ≡ r.counts → Stacked r g0.added (reverse frames) → frames ≡ frames' ++ f ∷ [] →
    g1 ≡ undone g0 f.mark → Takes (pair_at r f.at).greater g1 (Ok b) g2 → b ≡ false →
    (g2.counts ≡ r.counts) × Stacked r g2.added (reverse frames') ×
    ((problem : PairProblem) (dead : ℕ) → Stands problem (rests_of r g0.added (reverse frames)) None dead → Stands problem (rests_of r g2.added (reverse frames')) None dead)
back-shut r g0 g1 g2 frames frames' f b c s e u t is = (
  ap (λ (g : GraphState). g.counts) same ∙ c1,
  subst (λ (es : List Edge). Stacked r es (reverse frames')) (sym added) k.2,
  λ problem dead st. subst (λ (es : List Edge). Stands problem (rests_of r es (reverse frames')) None dead) (sym added)
      (back-left r problem g0.added f (reverse frames') dead (popped-stands r problem g0.added frames frames' f dead e st) shut),
)
  where
    k : Stacked r g0.added (f ∷ reverse frames')
    k = popped r g0.added frames frames' f e s

    c1 : g1.counts ≡ r.counts
    c1 = ap (λ (g : GraphState). g.counts) u ∙ c

    same : g2 ≡ g1
    same = (takes-false (pair_at r f.at).greater g1 g2 b t is).1

    added : g2.added ≡ take f.mark g0.added
    added = ap (λ (g : GraphState). g.added) same ∙ ap (λ (g : GraphState). g.added) u

    edges : edges_of g1 ≡ edges_with r (take f.mark g0.added)
    edges = edges-are r g1 c1 ∙ ap (λ (g : GraphState). edges_with r g.added) u

    shut : is_acyclic ((pair_at r f.at).greater ++ edges_with r (take f.mark g0.added)) ≡ false
    shut = subst (λ (es : List Edge). is_acyclic ((pair_at r f.at).greater ++ es) ≡ false) edges (takes-false (pair_at r f.at).greater g1 g2 b t is).0

-- nothing waits
pub none-left : (r : Rivalry) (problem : PairProblem) (added : List Edge) (frames : List Frame) (dead : ℕ) → length frames ≡ 0 → Stands problem (rests_of r added (reverse frames)) None dead → Stands problem [] None dead
none-left r problem added [] dead e s = s
none-left r problem added (f ∷ frames) dead e s = absurd (omega (arith, e))

-- the pair's lesser side was taken, and a frame is left
pub pair-lesser : (r : Rivalry) (old new : GraphState) (frames frames' : List Frame) (c : Cursor) (mark : ℕ) (b : Bool) → old.counts ≡ r.counts → IsAt r c → mark ≡ length old.added → Stacked r old.added (reverse frames) →
    Takes (pair_at r c).lesser old (Ok b) new → b ≡ true → frames' ≡ frames ++ frame mark c ∷ [] → TookPair r c old (reverse frames) new (reverse frames') (Ok true)
pair-lesser r old new frames frames' c mark b counts a m s t is pushed = (
  n.counts,
  subst (λ (fs : List Frame). Stacked r new.added fs) (sym top) (lesser-stacked r old.added new.added (reverse frames) c mark a m s w),
  λ problem dead st. subst (λ (fs : List Frame). StandsAt r problem new.added fs (next_of c) dead) (sym top) (lesser-taken r problem old.added new.added (reverse frames) c mark dead a m st free w),
)
  where
    both : (is_acyclic ((pair_at r c).lesser ++ edges_of old) ≡ true) × IsNarrower (λ rank. Holds rank (pair_at r c).lesser) old new
    both = takes-true (pair_at r c).lesser old new b t is

    n : IsNarrower (λ rank. Holds rank (pair_at r c).lesser) old new
    n = both.1

    w : IsWith r (pair_at r c).lesser old.added new.added
    w = with-of r (pair_at r c).lesser old new counts n

    free : is_acyclic ((pair_at r c).lesser ++ edges_with r old.added) ≡ true
    free = subst (λ (es : List Edge). is_acyclic ((pair_at r c).lesser ++ es) ≡ true) (edges-are r old counts) both.0

    top : reverse frames' ≡ frame mark c ∷ reverse frames
    top = reverse-pop frames' frames (frame mark c) pushed

-- it was not, and the greater one was, or was not either
pub pair-greater : (r : Rivalry) (old mid new : GraphState) (frames : List Frame) (c : Cursor) (b : Bool) (result : Result Bool Memory) → old.counts ≡ r.counts → IsAt r c → Stacked r old.added frames →
    Takes (pair_at r c).lesser old (Ok b) mid → b ≡ false → Takes (pair_at r c).greater mid result new → TookPair r c old frames new frames result
pair-greater r old mid new frames c b result counts a s t is u =
    let (shut, same) = takes-false (pair_at r c).lesser old mid b t is in
    go result (subst (λ (g : GraphState). Takes (pair_at r c).greater g result new) same u) (subst (λ (es : List Edge). is_acyclic ((pair_at r c).lesser ++ es) ≡ false) (edges-are r old counts) shut)
  where
    go : (o : Result Bool Memory) → Takes (pair_at r c).greater old o new → is_acyclic ((pair_at r c).lesser ++ edges_with r old.added) ≡ false → TookPair r c old frames new frames o
    go (Ok true) v shut =
        let w = with-of r (pair_at r c).greater old new counts v.1 in
        let free = subst (λ (es : List Edge). is_acyclic ((pair_at r c).greater ++ es) ≡ true) (edges-are r old counts) v.0 in
        (v.1.counts, stacked-with r (pair_at r c).greater old.added new.added frames w s, λ problem dead st. (greater-taken r problem old.added new.added frames c dead a s st shut free w).1)
    go (Ok false) v shut = (v.1, refl, λ problem dead st. both-shut r problem old.added frames c dead a st shut (subst (λ (es : List Edge). is_acyclic ((pair_at r c).greater ++ es) ≡ false) (edges-are r old counts) v.0))
    go (Err m) v shut = tt

-- where the search begins, and what it comes to
pub begun-at : (r : Rivalry) (g : GraphState) (frames : List Frame) (at : Cursor) → IsBegun r g → frames ≡ [] → at ≡ cursor 0 0 1 →
    IsPlace r at × Stacked r g.added (reverse frames) × StandsAt r (problem_in r) g.added (reverse frames) at 0
begun-at r g frames at b e q =
    let is = edges-are r g b.counts in
    let start : r.words - 0 ≡ r.words = omega arith in
    let ps : pairs_from r 0 r.words ≡ pairs_at r at = sym (ap (pairs_at r) q ∙ word-starts r 0 (omega arith) ∙ ap (pairs_from r 0) start) in
    let F : List Frame → Type 0 = λ fs. Stacked r g.added (reverse fs) × StandsAt r (problem_in r) g.added (reverse fs) at 0 in
    let none : F [] = (
      subst (λ (es : List Edge). IsRooted r es) is b.rooted,
      subst (λ (xs : List Pair). Stands (problem_in r) [] (Some (problem_of (edges_with r g.added) xs)) 0) ps
          (subst (λ (es : List Edge). Stands (problem_in r) [] (Some (problem_of es (pairs_from r 0 r.words))) 0) is b.stands),
    ) in
    let all : F frames = subst F (sym e) none in
    (subst (λ (c : Cursor). IsPlace r c) (sym q) (record { lesser = omega arith; row = omega arith }), all.0, all.1)

pub rooted-at : (r : Rivalry) (g : GraphState) (frames : List Frame) → g.counts ≡ r.counts → Stacked r g.added frames → IsRooted r (edges_of g)
rooted-at r g frames c s = subst (λ (es : List Edge). IsRooted r es) (sym (edges-are r g c)) (stacked-rooted r g.added frames s)

pub stands-passed : (r : Rivalry) (problem : PairProblem) (g : GraphState) (frames : List Frame) (at : Cursor) (rest : List Pair) (dead : ℕ) → g.counts ≡ r.counts → StandsAt r problem g.added frames at dead →
    Passes (edges_of g) (pairs_at r at) rest → Stands problem (rests_of r g.added frames) (Some (problem_of (edges_with r g.added) rest)) dead
stands-passed r problem g frames at rest dead c s p =
    passed-on problem (rests_of r g.added frames) (edges_with r g.added) (pairs_at r at) rest dead (subst (λ (es : List Edge). Passes es (pairs_at r at) rest) (edges-are r g c) p) s

pub found-all : (r : Rivalry) (problem : PairProblem) (g : GraphState) (frames : List Frame) (at : Cursor) (dead : ℕ) → g.counts ≡ r.counts → StandsAt r problem g.added frames at dead →
    Passes (edges_of g) (pairs_at r at) [] → (rank : ℕ → ℕ) → Holds rank (edges_of g) → Solves problem rank
found-all r problem g frames at dead c s p rank h =
    ends.found problem (rests_of r g.added frames) (edges_with r g.added) dead (stands-passed r problem g frames at [] dead c s p) rank (subst (λ (es : List Edge). Holds rank es) (edges-are r g c) h)

-- a pair was taken
pub took-true : (r : Rivalry) (c : Cursor) (old new : GraphState) (frames frames' : List Frame) (b : Bool) → TookPair r c old frames new frames' (Ok b) → b ≡ true → TookPair r c old frames new frames' (Ok true)
took-true r c old new frames frames' b t e = subst (λ (x : Bool). TookPair r c old frames new frames' (Ok x)) e t

pub stands-taken : (r : Rivalry) (problem : PairProblem) (old new : GraphState) (frames frames' : List Frame) (at c next : Cursor) (b : Bool) (dead : ℕ) → old.counts ≡ r.counts → StandsAt r problem old.added frames at dead →
    Passes (edges_of old) (pairs_at r at) (pairs_at r c) → TookPair r c old frames new frames' (Ok b) → b ≡ true → next ≡ next_of c → StandsAt r problem new.added frames' next dead
stands-taken r problem old new frames frames' at c next b dead counts s p t e q =
    subst (λ (n : Cursor). StandsAt r problem new.added frames' n dead) (sym q)
    ((took-true r c old new frames frames' b t e).2 problem dead (stands-passed r problem old frames at (pairs_at r c) dead counts s p))

-- a dead end was met
pub stands-dead : (r : Rivalry) (problem : PairProblem) (old new : GraphState) (frames frames' : List Frame) (at c : Cursor) (b : Bool) (dead : ℕ) → old.counts ≡ r.counts → StandsAt r problem old.added frames at dead →
    Passes (edges_of old) (pairs_at r at) (pairs_at r c) → TookPair r c old frames new frames' (Ok b) → b ≡ false → Stands problem (rests_of r new.added frames') None (dead + 1)
stands-dead r problem old new frames frames' at c b dead counts s p t e =
    let k : TookPair r c old frames new frames' (Ok false) = subst (λ (x : Bool). TookPair r c old frames new frames' (Ok x)) e t in
    subst (λ (es : List Edge). Stands problem (rests_of r es frames') None (dead + 1)) (sym (ap (λ (g : GraphState). g.added) k.0))
    (subst (λ (fs : List Frame). Stands problem (rests_of r old.added fs) None (dead + 1)) (sym k.1)
    (k.2 problem dead (stands-passed r problem old frames at (pairs_at r c) dead counts s p)))

pub stacked-kept : (r : Rivalry) (old new : GraphState) (frames frames' : List Frame) (c : Cursor) (b : Bool) → Stacked r old.added frames → TookPair r c old frames new frames' (Ok b) → b ≡ false →
    (new.counts ≡ old.counts) × Stacked r new.added frames'
stacked-kept r old new frames frames' c b s t e =
    let k : TookPair r c old frames new frames' (Ok false) = subst (λ (x : Bool). TookPair r c old frames new frames' (Ok x)) e t in (
      ap (λ (g : GraphState). g.counts) k.0,
      subst (λ (es : List Edge). Stacked r es frames') (sym (ap (λ (g : GraphState). g.added) k.0)) (subst (λ (fs : List Frame). Stacked r old.added fs) (sym k.1) s),
    )

-- and the budget is spent
pub spent-dead : (problem : PairProblem) (waiting : List PairProblem) (dead budget : ℕ) → Stands problem waiting None (dead + 1) → dead ≡ budget → budget < (outcome problem).dead
spent-dead problem waiting dead budget s e = let m = ends.bounded problem waiting None (dead + 1) s in omega (arith, m, e)

-- nothing is left to go back to
pub none-solves : (r : Rivalry) (problem : PairProblem) (old new : GraphState) (frames frames' : List Frame) (o : Option Cursor) (dead : ℕ) → Stands problem (rests_of r old.added frames) None dead →
    WentBack r old frames new frames' (Ok o) → o ≡ None → (rank : ℕ → ℕ) → Solves problem rank → ⊥
none-solves r problem old new frames frames' o dead s w e =
    let k : WentBack r old frames new frames' (Ok None) = subst (λ (x : Option Cursor). WentBack r old frames new frames' (Ok x)) e w in
    ends.none problem dead (k problem dead s)

pub went-some : (r : Rivalry) (old new : GraphState) (frames frames' : List Frame) (o : Option Cursor) (next : Cursor) → WentBack r old frames new frames' (Ok o) → o ≡ Some next → WentBack r old frames new frames' (Ok (Some next))
went-some r old new frames frames' o next w e = subst (λ (x : Option Cursor). WentBack r old frames new frames' (Ok x)) e w

-- a dead end more is worth more than all pairs
pub budget-falls : (budget dead more all now next : ℕ) → more ≡ dead + 1 → more ≤ budget → next ≤ all → (budget - more) * (all + 1) + next < (budget - dead) * (all + 1) + now
budget-falls budget dead more all now next n l m =
    let e : budget - dead ≡ suc (budget - more) = omega (arith, l, n) in
    let q : (budget - dead) * (all + 1) ≡ suc (budget - more) * (all + 1) = ap (λ (k : ℕ). k * (all + 1)) e in
    omega (arith, q, m)

-- no frame is left to go back to
pub nothing-left : (r : Rivalry) (problem : PairProblem) (g : GraphState) (frames : List Frame) (dead : ℕ) → length frames ≡ 0 → Stands problem (rests_of r g.added (reverse frames)) None dead →
    (rank : ℕ → ℕ) → Solves problem rank → ⊥
nothing-left r problem g frames dead e s = ends.none problem dead (none-left r problem g.added frames dead e s)
