-- Memory for the steps of a search.
use Rattle.std.proofs.Common.{◌≡◌, ℕ, ◌+◌, ◌<◌, ◌≤◌, Bool, true, false, List, [], ◌∷◌, ◌++◌, length, take, reverse, sym, ◌∙◌, ap, subst, arith}
use Rattle.std.specs.Prelude.{Result, Ok, Err, OnOk, OnErr}
use Rattle.std.proofs.Math.Seq.{take-append_seam}
use Rattle.std.proofs.lemmas.List.{take-append-le, length-take-le}
use Rattle.light_base.specs.declared.memory.Memory.{Memory}
use Rattle.plain_search.specs.declared.Edge.{Edge}
use Rattle.plain_search.specs.Edges.{Holds}
use Rattle.order_graph.specs.Graphs.{GraphState, edges_of, undone}
use Rattle.order_solver.specs.declared.cursor.Cursor.{Cursor}
use Rattle.order_solver.specs.declared.search.Frame.{Frame}
use Rattle.order_solver.specs.Rivals.{Rivalry, pairs_from}
use Rattle.order_solver.specs.Cursors.{IsAt}
use Rattle.order_solver.specs.Sides.{IsNarrower, Takes}
use Rattle.order_solver.specs.Frames.{pair_at, edges_with, Stacked, TookPair}
use Rattle.order_solver.specs.Forcing.{ForcesAll}
use Rattle.order_solver.specs.Rooms.{side_edges_in, IsDecided, Fits, HasRoom, FramesFit, HasMemory, SpendsAtMost, KeepsMemory, LacksMemory}
use Rattle.order_solver.proofs.Going.{edges-are, took-true, takes-true, takes-false, reverse-push, reverse-pop, popped}
use Rattle.order_solver.proofs.Rooms.{cost-none, cost-within, fewer-fit}
use Rattle.order_solver.proofs.Forced.{lesser-room, greater-room, lesser-lacks, greater-lacks}

-- frames within the edges that are there already
pub frames-more : (r : Rivalry) (memory : ℕ) (added more : List Edge) (frames : List Frame) → Stacked r added frames → FramesFit r memory added frames → FramesFit r memory (added ++ more) frames
frames-more r memory added more [] s f = tt
frames-more r memory added more (frame ∷ frames) s f = subst F (sym (take-append-le frame.mark added more s.0)) f
  where
    F : List Edge → Type 0
    F es = Fits r memory (length frames) (edges_with r es) (length es) × (IsDecided (edges_with r es) (pair_at r frame.at) → ⊥) × FramesFit r memory es frames

pub frames-as : (r : Rivalry) (memory : ℕ) (old new more : List Edge) (frames : List Frame) → new ≡ old ++ more → Stacked r old frames → FramesFit r memory old frames → FramesFit r memory new frames
frames-as r memory old new more frames e s f = subst (λ (es : List Edge). FramesFit r memory es frames) (sym e) (frames-more r memory old more frames s f)

-- frames are no more than what all pairs may cost
pub frames-within : (r : Rivalry) (memory frames : ℕ) (g : GraphState) → HasRoom r memory frames g → frames ≤ side_edges_in r
frames-within r memory frames g h = let a = h.fits.few in let b = cost-within (edges_of g) (pairs_from r 0 r.words) h.fits.cost h.fits.decided in omega (arith, a, b)

abbrev frame : ℕ → Cursor → Frame
frame mark at = record { mark = mark; at = at }

-- the lesser side was taken, and a frame is left
pub lesser-memory : (r : Rivalry) (old new : GraphState) (frames frames' : List Frame) (c : Cursor) (mark capacity capacity' : ℕ) (b : Bool) → old.counts ≡ r.counts → IsAt r c → mark ≡ length old.added →
    (IsDecided (edges_of old) (pair_at r c) → ⊥) → Takes (pair_at r c).lesser old (Ok b) new → SpendsAtMost (length (pair_at r c).lesser) old new → b ≡ true → frames' ≡ frames ++ frame mark c ∷ [] → capacity ≤ capacity' →
    KeepsMemory r old (reverse frames) capacity new (reverse frames') capacity'
lesser-memory r old new frames frames' c mark capacity capacity' b counts a m loose t spends is pushed grows memory h =
    subst (λ (fs : List Frame). HasMemory r memory new fs capacity') (sym (ap reverse pushed ∙ reverse-push frames (frame mark c))) (record {
      room = subst (λ (n : ℕ). HasRoom r memory n new) len (lesser-room r c old new a loose n spends memory (length (reverse frames)) h.room);
      past = subst F (sym below) (subst Fitted (edges-are r old counts) h.room.fits, (λ d. loose (subst (λ (es : List Edge). IsDecided es (pair_at r c)) (sym (edges-are r old counts)) d)), h.past);
      enough = (let k = h.enough in omega (arith, k, grows));
    })
  where
    n : IsNarrower (λ rank. Holds rank (pair_at r c).lesser) old new
    n = (takes-true (pair_at r c).lesser old new b t is).1

    len : length (reverse frames) + 1 ≡ length (frame mark c ∷ reverse frames)
    len = omega arith

    below : take mark new.added ≡ old.added
    below = ap (λ (es : List Edge). take mark es) n.added ∙ ap (λ (k : ℕ). take k (old.added ++ n.more)) m ∙ take-append_seam old.added n.more

    Fitted : List Edge → Type 0
    Fitted es = Fits r memory (length (reverse frames)) es (length old.added)

    F : List Edge → Type 0
    F es = Fits r memory (length (reverse frames)) (edges_with r es) (length es) × (IsDecided (edges_with r es) (pair_at r c) → ⊥) × FramesFit r memory es (reverse frames)

-- for the frame there is room
pub frame-memory : (r : Rivalry) (old new : GraphState) (frames : List Frame) (c : Cursor) (capacity : ℕ) (b : Bool) → IsAt r c → (IsDecided (edges_of old) (pair_at r c) → ⊥) → Takes (pair_at r c).lesser old (Ok b) new →
    SpendsAtMost (length (pair_at r c).lesser) old new → b ≡ true → capacity ≤ length frames → LacksMemory r old frames capacity
frame-memory r old new frames c capacity b a loose t spends is full memory h =
    let k = frames-within r memory (length frames + 1) new (lesser-room r c old new a loose (takes-true (pair_at r c).lesser old new b t is).1 spends memory (length frames) h.room) in
    let l = h.enough in absurd (omega (arith, k, l, full))

pub lesser-wants : (r : Rivalry) (old : GraphState) (frames : List Frame) (c : Cursor) (capacity : ℕ) → IsAt r c → (IsDecided (edges_of old) (pair_at r c) → ⊥) → old.spare < length (pair_at r c).lesser → LacksMemory r old frames capacity
lesser-wants r old frames c capacity a loose short memory h = lesser-lacks r c old a loose short memory (length frames) h.room

-- the greater side was taken, or was not
pub greater-memory : (r : Rivalry) (old new : GraphState) (frames : List Frame) (c : Cursor) (capacity : ℕ) (b : Bool) → IsAt r c → Stacked r old.added frames → (IsDecided (edges_of old) (pair_at r c) → ⊥) →
    Takes (pair_at r c).greater old (Ok b) new → SpendsAtMost (length (pair_at r c).greater) old new → KeepsMemory r old frames capacity new frames capacity
greater-memory r old new frames c capacity true a s loose t spends memory h = record {
  room = fewer-fit r memory (length frames) new (greater-room r c old new a loose t.1 spends memory (length frames) h.room);
  past = frames-as r memory old.added new.added t.1.more frames t.1.added s h.past;
  enough = h.enough;
}
greater-memory r old new frames c capacity false a s loose t spends memory h = subst (λ (g : GraphState). HasMemory r memory g frames capacity) (sym t.1) h

pub greater-wants : (r : Rivalry) (old : GraphState) (frames : List Frame) (c : Cursor) (capacity : ℕ) → IsAt r c → (IsDecided (edges_of old) (pair_at r c) → ⊥) → old.spare < length (pair_at r c).greater → LacksMemory r old frames capacity
greater-wants r old frames c capacity a loose short memory h = greater-lacks r c old a loose short memory (length frames) h.room

-- the lesser side was shut, and the greater one was asked for
pub other-memory : (r : Rivalry) (old mid new : GraphState) (frames : List Frame) (c : Cursor) (capacity : ℕ) (b : Bool) (result : Result Bool Memory) → IsAt r c → Stacked r old.added frames →
    (IsDecided (edges_of old) (pair_at r c) → ⊥) → Takes (pair_at r c).lesser old (Ok b) mid → b ≡ false → Takes (pair_at r c).greater mid result new → OnOk result (SpendsAtMost (length (pair_at r c).greater) mid new) →
    OnOk result (KeepsMemory r old frames capacity new frames capacity)
other-memory r old mid new frames c capacity b (Ok x) a s loose t is u spends =
    let same = (takes-false (pair_at r c).lesser old mid b t is).1 in
    greater-memory r old new frames c capacity x a s loose (subst (λ (g : GraphState). Takes (pair_at r c).greater g (Ok x) new) same u) (subst (λ (g : GraphState). SpendsAtMost (length (pair_at r c).greater) g new) same spends)
other-memory r old mid new frames c capacity b (Err m) a s loose t is u spends = tt

pub other-wants : (r : Rivalry) (old mid : GraphState) (frames : List Frame) (c : Cursor) (capacity : ℕ) (b : Bool) (result : Result Bool Memory) → IsAt r c → (IsDecided (edges_of old) (pair_at r c) → ⊥) →
    Takes (pair_at r c).lesser old (Ok b) mid → b ≡ false → OnErr result (mid.spare < length (pair_at r c).greater) → OnErr result (LacksMemory r old frames capacity)
other-wants r old mid frames c capacity b (Ok x) a loose t is short = tt
other-wants r old mid frames c capacity b (Err m) a loose t is short =
    let same = (takes-false (pair_at r c).lesser old mid b t is).1 in
    greater-wants r old frames c capacity a loose (subst (λ (g : GraphState). g.spare < length (pair_at r c).greater) same short)

-- what is forced needs no more frames
pub forced-memory : (r : Rivalry) (old new : GraphState) (frames : List Frame) (capacity : ℕ) (b : Bool) → Stacked r old.added frames → ForcesAll r old (Ok b) new → KeepsMemory r old frames capacity new frames capacity
forced-memory r old new frames capacity true s f memory h = record {
  room = f.room memory (length frames) h.room;
  past = frames-as r memory old.added new.added f.more frames f.added s h.past;
  enough = h.enough;
}
forced-memory r old new frames capacity false s f memory h = record {
  room = f.room memory (length frames) h.room;
  past = frames-as r memory old.added new.added f.more frames f.added s h.past;
  enough = h.enough;
}

-- a pair was taken, and what that forced
pub chosen-memory : (r : Rivalry) (c : Cursor) (old mid new : GraphState) (frames frames' : List Frame) (capacity capacity' : ℕ) (b : Bool) (result : Result Bool Memory) → TookPair r c old frames mid frames' (Ok b) → b ≡ true →
    KeepsMemory r old frames capacity mid frames' capacity' → ForcesAll r mid result new → OnOk result (KeepsMemory r old frames capacity new frames' capacity')
chosen-memory r c old mid new frames frames' capacity capacity' b (Ok x) t is room f = λ memory h.
    forced-memory r mid new frames' capacity' x (took-true r c old mid frames frames' b t is).1 f memory (room memory h)
chosen-memory r c old mid new frames frames' capacity capacity' b (Err m) t is room f = tt

pub chosen-wants : (r : Rivalry) (old mid new : GraphState) (frames frames' : List Frame) (capacity capacity' : ℕ) (result : Result Bool Memory) → KeepsMemory r old frames capacity mid frames' capacity' →
    ForcesAll r mid result new → OnErr result (LacksMemory r old frames capacity)
chosen-wants r old mid new frames frames' capacity capacity' (Ok x) room f = tt
chosen-wants r old mid new frames frames' capacity capacity' (Err m) room f = λ memory h. f memory (length frames') (room memory h).room

-- back at a frame's mark
record IsBack (r : Rivalry) (memory capacity : ℕ) (g : GraphState) (f : Frame) (frames : List Frame) : Type 0 where
  there : HasMemory r memory g frames capacity
  loose : IsDecided (edges_of g) (pair_at r f.at) → ⊥

back-at : (r : Rivalry) (memory capacity : ℕ) (g0 g1 : GraphState) (f : Frame) (frames : List Frame) → g0.counts ≡ r.counts → Stacked r g0.added (f ∷ frames) → g1 ≡ undone g0 f.mark →
    HasMemory r memory g0 (f ∷ frames) capacity → IsBack r memory capacity g1 f frames
back-at r memory capacity g0 g1 f frames c s u h = subst (λ (g : GraphState). IsBack r memory capacity g f frames) (sym u) (record {
  there = record {
    room = record { fits = subst (λ (es : List Edge). Fits r memory (length frames) es (length old)) (sym edges) h.past.0; spare = (let a = h.room.spare in let l = length-take-le f.mark g0.added s.0 in let m = s.0 in omega (arith, a, l, m)) };
    past = h.past.2;
    enough = h.enough;
  };
  loose = λ d. h.past.1 (subst (λ (es : List Edge). IsDecided es (pair_at r f.at)) edges d);
})
  where
    old : List Edge
    old = take f.mark g0.added

    edges : edges_of (undone g0 f.mark) ≡ edges_with r old
    edges = edges-are r (undone g0 f.mark) c

back-memory : (r : Rivalry) (memory capacity : ℕ) (g0 : GraphState) (frames frames' : List Frame) (f : Frame) → frames ≡ frames' ++ f ∷ [] → HasMemory r memory g0 (reverse frames) capacity → HasMemory r memory g0 (f ∷ reverse frames') capacity
back-memory r memory capacity g0 frames frames' f e h = subst (λ (fs : List Frame). HasMemory r memory g0 fs capacity) (reverse-pop frames frames' f e) h

pub went-memory : (r : Rivalry) (g0 g1 g2 : GraphState) (frames frames' : List Frame) (f : Frame) (capacity capacity' : ℕ) (b : Bool) → g0.counts ≡ r.counts → Stacked r g0.added (reverse frames) → frames ≡ frames' ++ f ∷ [] →
    g1 ≡ undone g0 f.mark → Takes (pair_at r f.at).greater g1 (Ok b) g2 → SpendsAtMost (length (pair_at r f.at).greater) g1 g2 → capacity' ≡ capacity → KeepsMemory r g0 (reverse frames) capacity g2 (reverse frames') capacity'
went-memory r g0 g1 g2 frames frames' f capacity capacity' b c s e u t spends same memory h =
    let k : Stacked r g0.added (f ∷ reverse frames') = popped r g0.added frames frames' f e s in
    let back = back-at r memory capacity g0 g1 f (reverse frames') c k u (back-memory r memory capacity g0 frames frames' f e h) in
    let added : g1.added ≡ take f.mark g0.added = ap (λ (g : GraphState). g.added) u in
    subst (λ (n : ℕ). HasMemory r memory g2 (reverse frames') n) (sym same)
    (greater-memory r g1 g2 (reverse frames') f.at capacity b k.1 (subst (λ (es : List Edge). Stacked r es (reverse frames')) (sym added) k.2) back.loose t spends memory back.there)

pub went-wants : (r : Rivalry) (g0 g1 : GraphState) (frames frames' : List Frame) (f : Frame) (capacity : ℕ) → g0.counts ≡ r.counts → Stacked r g0.added (reverse frames) → frames ≡ frames' ++ f ∷ [] →
    g1 ≡ undone g0 f.mark → g1.spare < length (pair_at r f.at).greater → LacksMemory r g0 (reverse frames) capacity
went-wants r g0 g1 frames frames' f capacity c s e u short memory h =
    let k : Stacked r g0.added (f ∷ reverse frames') = popped r g0.added frames frames' f e s in
    let back = back-at r memory capacity g0 g1 f (reverse frames') c k u (back-memory r memory capacity g0 frames frames' f e h) in
    greater-wants r g1 (reverse frames') f.at capacity k.1 back.loose short memory back.there

-- memory at the start
pub starts-memory : (r : Rivalry) (g : GraphState) (frames : List Frame) (capacity : ℕ) → frames ≡ [] → side_edges_in r ≤ g.spare → side_edges_in r ≤ capacity → HasMemory r (g.spare + length g.added) g (reverse frames) capacity
starts-memory r g frames capacity e spare room = subst (λ (fs : List Frame). HasMemory r (g.spare + length g.added) g (reverse fs) capacity) (sym e) (record {
  room = record { fits = record { cost = 0; decided = cost-none (edges_of g) (pairs_from r 0 r.words); few = omega arith; enough = omega (arith, spare) }; spare = omega arith };
  past = tt;
  enough = room;
})
