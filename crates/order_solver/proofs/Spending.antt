-- How many edges a side adds.
use Rattle.std.proofs.Common.{◌≡◌, ℕ, zero, suc, ◌+◌, ◌<◌, ◌≤◌, true, false, eqb, List, [], ◌∷◌, length, get_or, drop, add-one, refl, sym, ◌∙◌, ap, subst, arith, inl, inr, ◌⊎◌}
use Rattle.std.specs.Prelude.{Result, Ok, Err, OnOk, OnErr, IsErr}
use Rattle.std.proofs.lemmas.List.{length-append}
use Rattle.std.proofs.lemmas.Bool.{cases_Bool, eqb-true, eq-eqb, both_ways}
use Rattle.std.proofs.Math.Seq.{drop-cons}
use Rattle.light_base.specs.declared.memory.Memory.{Memory}
use Rattle.order_graph.specs.declared.thread_graph.Added.{Added}
use Rattle.order_graph.specs.declared.thread_graph.Added.TheVariants.{In, Cycle}
use Rattle.order_graph.specs.Shapes.{arrow}
use Rattle.order_graph.specs.Graphs.{GraphState, Adds}
use Rattle.constraints.specs.Constraints.{edges_to}
use Rattle.order_solver.specs.Rooms.{SpendsAtMost}

pub spends-none : (count : ℕ) (g : GraphState) → SpendsAtMost count g g
spends-none count g = record { added = omega arith; spare = omega arith }

pub spends-same : (count : ℕ) (old new : GraphState) → new ≡ old → SpendsAtMost count old new
spends-same count old new e = subst (λ (g : GraphState). SpendsAtMost count old g) (sym e) (spends-none count old)

pub spends-next : (one two all : ℕ) (old now new : GraphState) → SpendsAtMost one old now → SpendsAtMost two now new → one + two ≤ all → SpendsAtMost all old new
spends-next one two all old now new s t l = record {
  added = (let a = s.added in let b = t.added in omega (arith, a, b, l));
  spare = (let a = s.spare in let b = t.spare in omega (arith, a, b));
}

-- none was spare after some were added
pub spent-short : (one all : ℕ) (old now : GraphState) → SpendsAtMost one old now → now.spare < 1 → one < all → old.spare < all
spent-short one all old now s n l = let a = s.added in let b = s.spare in omega (arith, a, b, n, l)

pub adds-spends : (u v : ℕ) (old new : GraphState) (result : Result Added Memory) → Adds old u v result new → OnOk result (SpendsAtMost 1 old new)
adds-spends u v old new (Ok In) h = record {
  added = (let e = ap length h.2 in let q = length-append old.added (arrow u v ∷ []) in omega (arith, e, q));
  spare = (let e = ap length h.2 in let q = length-append old.added (arrow u v ∷ []) in let s = h.3 in omega (arith, e, q, s));
}
adds-spends u v old new (Ok Cycle) h = spends-same 1 old new h.1
adds-spends u v old new (Err m) h = tt

pub adds-short : (u v : ℕ) (old new : GraphState) (result : Result Added Memory) → Adds old u v result new → OnErr result (old.spare < 1)
adds-short u v old new (Ok a) h = tt
adds-short u v old new (Err m) h = let e = h.0 in omega (arith, e)

-- one last more is one edge more, if it is not the end itself
one-more : (l to : ℕ) (last_reads : List ℕ) → (l ≡ to → ⊥) → length (edges_to (l ∷ last_reads) to) ≡ suc (length (edges_to last_reads to))
one-more l to last_reads n = go (cases_Bool (eqb l to))
  where
    go : (eqb l to ≡ true) ⊎ (eqb l to ≡ false) → length (edges_to (l ∷ last_reads) to) ≡ suc (length (edges_to last_reads to))
    go (inl t) = absurd (n (eqb-true l to t))
    go (inr f) = rw f refl

no-more : (l to : ℕ) (last_reads : List ℕ) → l ≡ to → length (edges_to (l ∷ last_reads) to) ≡ length (edges_to last_reads to)
no-more l to last_reads e = rw (eq-eqb l to e) refl

pub side-more : (to k : ℕ) (last_reads : List ℕ) → k < length last_reads → (get_or last_reads k 0 ≡ to → ⊥) → length (edges_to (drop k last_reads) to) ≡ length (edges_to (drop (k + 1) last_reads) to) + 1
side-more to k last_reads l n =
    let d : drop k last_reads ≡ get_or last_reads k 0 ∷ drop (k + 1) last_reads = drop-cons last_reads k 0 l ∙ ap (λ (m : ℕ). get_or last_reads k 0 ∷ drop m last_reads) (sym (add-one k)) in
    let a = ap (λ (xs : List ℕ). length (edges_to xs to)) d in
    let b = one-more (get_or last_reads k 0) to (drop (k + 1) last_reads) n in omega (arith, a, b)

pub side-part : (to k : ℕ) (last_reads : List ℕ) → length (edges_to (drop k last_reads) to) ≤ length (edges_to last_reads to)
side-part to zero last_reads = omega arith
side-part to (suc k) [] = omega arith
side-part to (suc k) (l ∷ last_reads) = go (side-part to k last_reads) (cases_Bool (eqb l to))
  where
    go : length (edges_to (drop k last_reads) to) ≤ length (edges_to last_reads to) → (eqb l to ≡ true) ⊎ (eqb l to ≡ false) → length (edges_to (drop k last_reads) to) ≤ length (edges_to (l ∷ last_reads) to)
    go ih (inl t) = let a = no-more l to last_reads (eqb-true l to t) in omega (arith, a, ih)
    go ih (inr f) = let a = one-more l to last_reads (λ e. both_ways _ f (eq-eqb l to e)) in omega (arith, a, ih)

-- the last reads from one place on, and one place further down
abbrev pub SpendsFrom : ℕ → List ℕ → ℕ → GraphState → GraphState → Type 0
SpendsFrom to last_reads k old new = SpendsAtMost (length (edges_to (drop k last_reads) to)) old new

pub side-spends : (to left k : ℕ) (last_reads : List ℕ) (old now new : GraphState) → left ≡ k + 1 → k < length last_reads → (get_or last_reads k 0 ≡ to → ⊥) → SpendsFrom to last_reads left old now → SpendsAtMost 1 now new →
    SpendsFrom to last_reads k old new
side-spends to left k last_reads old now new e l n s t =
    let a = side-more to k last_reads l n in
    let b = ap (λ (m : ℕ). length (edges_to (drop m last_reads) to)) e in
    spends-next (length (edges_to (drop left last_reads) to)) 1 (length (edges_to (drop k last_reads) to)) old now new s t (omega (arith, a, b))

pub side-skips : (to left k : ℕ) (last_reads : List ℕ) (old now : GraphState) → left ≡ k + 1 → k < length last_reads → get_or last_reads k 0 ≡ to → SpendsFrom to last_reads left old now → SpendsFrom to last_reads k old now
side-skips to left k last_reads old now e l q s =
    let d : drop k last_reads ≡ get_or last_reads k 0 ∷ drop (k + 1) last_reads = drop-cons last_reads k 0 l ∙ ap (λ (m : ℕ). get_or last_reads k 0 ∷ drop m last_reads) (sym (add-one k)) in
    let a = ap (λ (xs : List ℕ). length (edges_to xs to)) d in
    let b = no-more (get_or last_reads k 0) to (drop (k + 1) last_reads) q in
    let c = ap (λ (m : ℕ). length (edges_to (drop m last_reads) to)) e in
    spends-next (length (edges_to (drop left last_reads) to)) 0 (length (edges_to (drop k last_reads) to)) old now now s (spends-none 0 now) (omega (arith, a, b, c))

pub side-short : (to left k : ℕ) (last_reads : List ℕ) (old now : GraphState) → left ≡ k + 1 → k < length last_reads → (get_or last_reads k 0 ≡ to → ⊥) → SpendsFrom to last_reads left old now → now.spare < 1 →
    old.spare < length (edges_to last_reads to)
side-short to left k last_reads old now e l n s z =
    let a = side-more to k last_reads l n in
    let b = ap (λ (m : ℕ). length (edges_to (drop m last_reads) to)) e in
    let c = side-part to k last_reads in
    spent-short (length (edges_to (drop left last_reads) to)) (length (edges_to last_reads to)) old now s z (omega (arith, a, b, c))

pub side-spent : (to k : ℕ) (last_reads : List ℕ) (old now : GraphState) → SpendsFrom to last_reads k old now → SpendsAtMost (length (edges_to last_reads to)) old now
side-spent to k last_reads old now s =
    let c = side-part to k last_reads in
    spends-next (length (edges_to (drop k last_reads) to)) 0 (length (edges_to last_reads to)) old now now s (spends-none 0 now) (omega (arith, c))

pub on_err : {A : Type 0} (result : Result A Memory) (P : Type 0) → IsErr result → P → OnErr result P
on_err {A} (Ok x) P e p = tt
on_err {A} (Err m) P e p = p
