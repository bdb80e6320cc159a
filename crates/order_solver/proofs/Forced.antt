-- Sides that are forced: with them the search stands as it stood.
use Rattle.std.proofs.Common.{◌≡◌, ℕ, ◌+◌, ◌<◌, Bool, true, false, List, [], ◌++◌, length, append_assoc, refl, sym, ◌∙◌, ap, subst, arith, inl, inr}
use Rattle.std.specs.Prelude.{Contains, IsErr, Option, Some, None, Result, Ok, Err}
use Rattle.std.proofs.lemmas.Bool.{both_ways}
use Rattle.std.proofs.lemmas.List.{append-nil}
use Rattle.light_base.specs.declared.memory.Memory.{Memory}
use Rattle.plain_search.specs.declared.Edge.{Edge}
use Rattle.plain_search.specs.Edges.{is_acyclic, Holds, Implies}
use Rattle.plain_search.specs.Searches.{Pair, PairProblem, problem_of, Solves}
use Rattle.plain_search.specs.Standing.{Stands}
use Rattle.plain_search.proofs.Rankings.{Holds-split, Holds-join, acyclic-ranked, cyclic-unranked}
use Rattle.plain_search.proofs.Standing.{forces}
use Rattle.order_graph.specs.Graphs.{GraphState, edges_of}
use Rattle.order_solver.specs.declared.cursor.Cursor.{Cursor}
use Rattle.order_solver.specs.Rivals.{Rivalry, pair_in, problem_in}
use Rattle.order_solver.specs.Cursors.{IsAt, pairs_at, next_of}
use Rattle.order_solver.specs.Sides.{IsNarrower, Takes}
use Rattle.order_solver.specs.declared.search.Frame.{Frame}
use Rattle.order_solver.specs.Frames.{pair_at, rests_of, Stacked, StandsAt, StandsOrStuck, TookPair, Chose}
use Rattle.order_solver.specs.Forcing.{GoesOn, IsStuck, Forces, ForcesAll}
use Rattle.order_solver.specs.Rooms.{IsDecided, SpendsAtMost, HasRoom, KeepsRoom, LacksRoom}
use Rattle.order_solver.proofs.Rooms.{took-room, spent-room, fewer-fit}
use Rattle.order_solver.proofs.Beginning.{where-in, from-in}
use Rattle.order_solver.proofs.Going.{takes-true, takes-false, edges-are, stacked-more, rests-more, stacked-kept, took-true}

-- nothing was added
pub stays : (r : Rivalry) (g : GraphState) → GoesOn r g g
stays r g = record { counts = refl; more = []; added = sym (append-nil g.added); stands = λ waiting pairs dead s. s; room = λ memory frames h. h }

-- one after the other
pub on_on : (r : Rivalry) (a b c : GraphState) → GoesOn r a b → GoesOn r b c → GoesOn r a c
on_on r a b c one two = record {
  counts = two.counts ∙ one.counts;
  more = one.more ++ two.more;
  added = two.added ∙ ap (λ (xs : List Edge). xs ++ two.more) one.added ∙ append_assoc a.added one.more two.more;
  stands = λ waiting pairs dead s. two.stands waiting pairs dead (one.stands waiting pairs dead s);
  room = λ memory frames h. two.room memory frames (one.room memory frames h);
}

pub on_stuck : (r : Rivalry) (a b c : GraphState) → GoesOn r a b → IsStuck r b c → IsStuck r a c
on_stuck r a b c one two = record {
  counts = two.counts ∙ one.counts;
  more = one.more ++ two.more;
  added = two.added ∙ ap (λ (xs : List Edge). xs ++ two.more) one.added ∙ append_assoc a.added one.more two.more;
  stands = λ waiting pairs dead s. two.stands waiting pairs dead (one.stands waiting pairs dead s);
  room = λ memory frames h. two.room memory frames (one.room memory frames h);
}

-- two rivals are a pair of the problem
pub pair-there : (r : Rivalry) (c : Cursor) → IsAt r c → Contains (problem_in r).pairs (pair_at r c)
pair-there r c a = from-in r 0 r.words c.word (pair_at r c) (omega arith) (let w = a.word in omega (arith, w))
    (where-in (r.rival c.word) (pair_in r c.word) (r.sources c.word) c.lesser c.greater a.lesser a.greater a.rival)

-- a side that each solution holds was added, or closes a cycle
forced-on : (r : Rivalry) (side : List Edge) (old new : GraphState) → is_acyclic (side ++ edges_of old) ≡ true → IsNarrower (λ rank. Holds rank side) old new →
    ((waiting : List PairProblem) (pairs : List Pair) (dead : ℕ) → Stands (problem_in r) waiting (Some (problem_of (edges_of old) pairs)) dead → (rank : ℕ → ℕ) → Solves (problem_of (edges_of old) pairs) rank → Holds rank side) →
    KeepsRoom r old new → GoesOn r old new
forced-on r side old new free n held room = record {
  counts = n.counts;
  more = n.more;
  added = n.added;
  stands = λ waiting pairs dead s.
      forces.alike (problem_in r) waiting (side ++ edges_of old) (edges_of new) pairs dead
      (forces.force (problem_in r) waiting (edges_of old) side pairs dead s (held waiting pairs dead s) free)
      (λ rank h. let (p, q) = Holds-split rank side (edges_of old) h in n.all rank q p)
      (λ rank h. Holds-join rank side (edges_of old) (n.holds rank h) (n.old_holds rank h));
  room = room;
}

forced-stuck : (r : Rivalry) (side : List Edge) (old new : GraphState) → is_acyclic (side ++ edges_of old) ≡ false → new ≡ old →
    ((waiting : List PairProblem) (pairs : List Pair) (dead : ℕ) → Stands (problem_in r) waiting (Some (problem_of (edges_of old) pairs)) dead → (rank : ℕ → ℕ) → Solves (problem_of (edges_of old) pairs) rank → Holds rank side) →
    IsStuck r old new
forced-stuck r side old new shut same held = record {
  counts = ap (λ (g : GraphState). g.counts) same;
  more = [];
  added = ap (λ (g : GraphState). g.added) same ∙ sym (append-nil old.added);
  stands = λ waiting pairs dead s. forces.stuck (problem_in r) waiting (edges_of old) side pairs dead s (held waiting pairs dead s) shut;
  room = λ memory frames h. subst (λ (g : GraphState). HasRoom r memory frames g) (sym same) h;
}

-- of a pair whose one side is shut and whose other side is not implied none is implied
shut-out : (edges side : List Edge) → is_acyclic edges ≡ true → is_acyclic (side ++ edges) ≡ false → Implies edges side → ⊥
shut-out edges side free shut by =
    let (rank, h) = acyclic-ranked edges free in cyclic-unranked (side ++ edges) shut rank (Holds-join rank side edges (by rank h) h)

pub lesser-undecided : (r : Rivalry) (c : Cursor) (edges : List Edge) → is_acyclic edges ≡ true → is_acyclic ((pair_at r c).greater ++ edges) ≡ false → (Implies edges (pair_at r c).lesser → ⊥) → IsDecided edges (pair_at r c) → ⊥
lesser-undecided r c edges free shut n (inl h) = n h
lesser-undecided r c edges free shut n (inr h) = shut-out edges (pair_at r c).greater free shut h

pub greater-undecided : (r : Rivalry) (c : Cursor) (edges : List Edge) → is_acyclic edges ≡ true → is_acyclic ((pair_at r c).lesser ++ edges) ≡ false → (Implies edges (pair_at r c).greater → ⊥) → IsDecided edges (pair_at r c) → ⊥
greater-undecided r c edges free shut n (inl h) = shut-out edges (pair_at r c).lesser free shut h
greater-undecided r c edges free shut n (inr h) = n h

-- a side that is taken decides its pair
pub lesser-room : (r : Rivalry) (c : Cursor) (old new : GraphState) → IsAt r c → (IsDecided (edges_of old) (pair_at r c) → ⊥) → IsNarrower (λ rank. Holds rank (pair_at r c).lesser) old new →
    SpendsAtMost (length (pair_at r c).lesser) old new → (memory frames : ℕ) → HasRoom r memory frames old → HasRoom r memory (frames + 1) new
lesser-room r c old new a loose n spends memory frames h = took-room r memory frames (length (pair_at r c).lesser) (pair_at r c) old new (pair-there r c a) loose (inl n.holds) n.old_holds spends (omega arith) h

pub greater-room : (r : Rivalry) (c : Cursor) (old new : GraphState) → IsAt r c → (IsDecided (edges_of old) (pair_at r c) → ⊥) → IsNarrower (λ rank. Holds rank (pair_at r c).greater) old new →
    SpendsAtMost (length (pair_at r c).greater) old new → (memory frames : ℕ) → HasRoom r memory frames old → HasRoom r memory (frames + 1) new
greater-room r c old new a loose n spends memory frames h = took-room r memory frames (length (pair_at r c).greater) (pair_at r c) old new (pair-there r c a) loose (inr n.holds) n.old_holds spends (omega arith) h

pub lesser-lacks : (r : Rivalry) (c : Cursor) (g : GraphState) → IsAt r c → (IsDecided (edges_of g) (pair_at r c) → ⊥) → g.spare < length (pair_at r c).lesser → LacksRoom r g
lesser-lacks r c g a loose short = spent-room r (length (pair_at r c).lesser) (pair_at r c) g (pair-there r c a) loose (omega arith) short

pub greater-lacks : (r : Rivalry) (c : Cursor) (g : GraphState) → IsAt r c → (IsDecided (edges_of g) (pair_at r c) → ⊥) → g.spare < length (pair_at r c).greater → LacksRoom r g
greater-lacks r c g a loose short = spent-room r (length (pair_at r c).greater) (pair_at r c) g (pair-there r c a) loose (omega arith) short

-- the greater side is shut, so each solution holds the lesser one
pub lesser-on : (r : Rivalry) (c : Cursor) (old new : GraphState) (b : Bool) → IsAt r c → is_acyclic ((pair_at r c).greater ++ edges_of old) ≡ false → (IsDecided (edges_of old) (pair_at r c) → ⊥) → Takes (pair_at r c).lesser old (Ok b) new →
    SpendsAtMost (length (pair_at r c).lesser) old new → b ≡ true → GoesOn r old new
lesser-on r c old new b a shut loose t spends e =
    let (free, n) = takes-true (pair_at r c).lesser old new b t e in
    forced-on r (pair_at r c).lesser old new free n (λ waiting pairs dead s. forces.lesser (problem_in r) waiting (problem_of (edges_of old) pairs) dead (pair_at r c) s (pair-there r c a) shut)
    (λ memory frames h. fewer-fit r memory frames new (lesser-room r c old new a loose n spends memory frames h))

pub lesser-stuck : (r : Rivalry) (c : Cursor) (old new : GraphState) (b : Bool) → IsAt r c → is_acyclic ((pair_at r c).greater ++ edges_of old) ≡ false → Takes (pair_at r c).lesser old (Ok b) new → b ≡ false → IsStuck r old new
lesser-stuck r c old new b a shut t e =
    let (closed, same) = takes-false (pair_at r c).lesser old new b t e in
    forced-stuck r (pair_at r c).lesser old new closed same (λ waiting pairs dead s. forces.lesser (problem_in r) waiting (problem_of (edges_of old) pairs) dead (pair_at r c) s (pair-there r c a) shut)

-- the lesser side is shut, so each solution holds the greater one
pub greater-on : (r : Rivalry) (c : Cursor) (old new : GraphState) (b : Bool) → IsAt r c → is_acyclic ((pair_at r c).lesser ++ edges_of old) ≡ false → (IsDecided (edges_of old) (pair_at r c) → ⊥) → Takes (pair_at r c).greater old (Ok b) new →
    SpendsAtMost (length (pair_at r c).greater) old new → b ≡ true → GoesOn r old new
greater-on r c old new b a shut loose t spends e =
    let (free, n) = takes-true (pair_at r c).greater old new b t e in
    forced-on r (pair_at r c).greater old new free n (λ waiting pairs dead s. forces.greater (problem_in r) waiting (problem_of (edges_of old) pairs) dead (pair_at r c) s (pair-there r c a) shut)
    (λ memory frames h. fewer-fit r memory frames new (greater-room r c old new a loose n spends memory frames h))

pub greater-stuck : (r : Rivalry) (c : Cursor) (old new : GraphState) (b : Bool) → IsAt r c → is_acyclic ((pair_at r c).lesser ++ edges_of old) ≡ false → Takes (pair_at r c).greater old (Ok b) new → b ≡ false → IsStuck r old new
greater-stuck r c old new b a shut t e =
    let (closed, same) = takes-false (pair_at r c).greater old new b t e in
    forced-stuck r (pair_at r c).greater old new closed same (λ waiting pairs dead s. forces.greater (problem_in r) waiting (problem_of (edges_of old) pairs) dead (pair_at r c) s (pair-there r c a) shut)

-- one call more, and what it came to
pub forces_goes : (r : Rivalry) (a b c : GraphState) (o : Option Bool) (some : Bool) → GoesOn r a b → Forces r b (Ok o) c → o ≡ Some some → GoesOn r a c
forces_goes r a b c o some one f e = on_on r a b c one (subst (λ (x : Option Bool). Forces r b (Ok x) c) e f)

pub forces_none : (r : Rivalry) (a b c : GraphState) (o : Option Bool) → GoesOn r a b → Forces r b (Ok o) c → o ≡ None → IsStuck r a c
forces_none r a b c o one f e = on_stuck r a b c one (subst (λ (x : Option Bool). Forces r b (Ok x) c) e f)

-- want of memory at one call more
pub lacks-after : (r : Rivalry) (a b : GraphState) → GoesOn r a b → LacksRoom r b → LacksRoom r a
lacks-after r a b one none memory frames h = none memory frames (one.room memory frames h)

pub forces-err : (r : Rivalry) (old new : GraphState) (result : Result (Option Bool) Memory) → IsErr result → LacksRoom r old → Forces r old result new
forces-err r old new (Ok o) e none = absurd (both_ways false refl e)
forces-err r old new (Err m) e none = none

pub forces_all-err : (r : Rivalry) (old new : GraphState) (result : Result Bool Memory) → IsErr result → LacksRoom r old → ForcesAll r old result new
forces_all-err r old new (Ok b) e none = absurd (both_ways false refl e)
forces_all-err r old new (Err m) e none = none

-- edges at the end change nothing of the frames
stacked-as : (r : Rivalry) (old new more : List Edge) (frames : List Frame) → new ≡ old ++ more → Stacked r old frames → Stacked r new frames
stacked-as r old new more frames e s = subst (λ (es : List Edge). Stacked r es frames) (sym e) (stacked-more r old more frames s)

rests-as : (r : Rivalry) (old new more : List Edge) (frames : List Frame) → new ≡ old ++ more → Stacked r old frames → rests_of r old frames ≡ rests_of r new frames
rests-as r old new more frames e s = sym (ap (λ (es : List Edge). rests_of r es frames) e ∙ rests-more r old more frames s)

-- the search stands where it stood, or is stuck there
pub forced-there : (r : Rivalry) (old new : GraphState) (frames : List Frame) (at : Cursor) (b : Bool) → old.counts ≡ r.counts → Stacked r old.added frames → ForcesAll r old (Ok b) new →
    (new.counts ≡ old.counts) × Stacked r new.added frames × ((dead : ℕ) → StandsAt r (problem_in r) old.added frames at dead → StandsOrStuck r new.added frames at dead b)
forced-there r old new frames at true c s f = (f.counts, stacked-as r old.added new.added f.more frames f.added s, go)
  where
    go : (dead : ℕ) → StandsAt r (problem_in r) old.added frames at dead → StandsAt r (problem_in r) new.added frames at dead
    go dead st = subst (λ (es : List Edge). Stands (problem_in r) (rests_of r new.added frames) (Some (problem_of es (pairs_at r at))) dead) (edges-are r new (f.counts ∙ c))
        (subst (λ (ws : List PairProblem). Stands (problem_in r) ws (Some (problem_of (edges_of new) (pairs_at r at))) dead) (rests-as r old.added new.added f.more frames f.added s)
        (f.stands (rests_of r old.added frames) (pairs_at r at) dead
        (subst (λ (es : List Edge). Stands (problem_in r) (rests_of r old.added frames) (Some (problem_of es (pairs_at r at))) dead) (sym (edges-are r old c)) st)))
forced-there r old new frames at false c s f = (f.counts, stacked-as r old.added new.added f.more frames f.added s, go)
  where
    go : (dead : ℕ) → StandsAt r (problem_in r) old.added frames at dead → Stands (problem_in r) (rests_of r new.added frames) None (dead + 1)
    go dead st = subst (λ (ws : List PairProblem). Stands (problem_in r) ws None (dead + 1)) (rests-as r old.added new.added f.more frames f.added s)
        (f.stands (rests_of r old.added frames) (pairs_at r at) dead
        (subst (λ (es : List Edge). Stands (problem_in r) (rests_of r old.added frames) (Some (problem_of es (pairs_at r at))) dead) (sym (edges-are r old c)) st))

-- a side was taken, and what it forced
pub chose-forced : (r : Rivalry) (c : Cursor) (old mid new : GraphState) (frames frames' : List Frame) (b : Bool) (result : Result Bool Memory) → old.counts ≡ r.counts →
    TookPair r c old frames mid frames' (Ok b) → b ≡ true → ForcesAll r mid result new → Chose r c old frames new frames' result
chose-forced r c old mid new frames frames' b (Ok stands) counts t e f =
    let k = took-true r c old mid frames frames' b t e in
    let h = forced-there r mid new frames' (next_of c) stands (k.0 ∙ counts) k.1 f in
    (h.0 ∙ k.0, h.1, λ dead st. h.2 dead (k.2 (problem_in r) dead st))
chose-forced r c old mid new frames frames' b (Err m) counts t e f = tt

-- no side could be taken
pub chose-none : (r : Rivalry) (c : Cursor) (old new : GraphState) (frames frames' : List Frame) (b : Bool) → Stacked r old.added frames → TookPair r c old frames new frames' (Ok b) → b ≡ false →
    Chose r c old frames new frames' (Ok false)
chose-none r c old new frames frames' b s t e =
    let k : TookPair r c old frames new frames' (Ok false) = subst (λ (x : Bool). TookPair r c old frames new frames' (Ok x)) e t in
    let h = stacked-kept r old new frames frames' c b s t e in (
      h.0,
      h.1,
      λ dead st. subst (λ (es : List Edge). Stands (problem_in r) (rests_of r es frames') None (dead + 1)) (sym (ap (λ (g : GraphState). g.added) k.0))
          (subst (λ (fs : List Frame). Stands (problem_in r) (rests_of r old.added fs) None (dead + 1)) (sym k.1) (k.2 (problem_in r) dead st)),
    )

pub stands-at : (r : Rivalry) (added : List Edge) (frames : List Frame) (at : Cursor) (dead : ℕ) (b : Bool) → StandsOrStuck r added frames at dead b → b ≡ true → StandsAt r (problem_in r) added frames at dead
stands-at r added frames at dead b s e = subst (λ (x : Bool). StandsOrStuck r added frames at dead x) e s

pub is-stuck : (r : Rivalry) (added : List Edge) (frames : List Frame) (at : Cursor) (dead : ℕ) (b : Bool) → StandsOrStuck r added frames at dead b → b ≡ false → Stands (problem_in r) (rests_of r added frames) None (dead + 1)
is-stuck r added frames at dead b s e = subst (λ (x : Bool). StandsOrStuck r added frames at dead x) e s
