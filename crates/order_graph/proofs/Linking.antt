use Rattle.std.proofs.Common.{◌≡◌, ℕ, ◌+◌, ◌<◌, ◌≤◌, List, [], ◌∷◌, ◌++◌, length, take, set, replicate, refl, sym, ◌∙◌, ap, subst, arith, inl, inr, ◌⊎◌, get_or-set_other, get_or-set_same}
use Rattle.std.specs.Prelude.{slice_index, slice_index_or}
use Rattle.std.proofs.lemmas.Bool.{cases_eq, cases_lt}
use Rattle.std.proofs.lemmas.List.{length_push, length-set, get_or_append_left, get_or_push, get_or-replicate, length-replicate, take_more, take_all, length-take-le}
use Rattle.plain_search.specs.declared.Edge.{Edge}
use Rattle.order_graph.specs.Shapes.{arrow}
use Rattle.order_graph.specs.Links.{end_of, IsLatest, AreLinked, EndsBelow}

pub latest-same : (edges edges' : List Edge) (below v at : ℕ) → ((k : ℕ) → k < below → end_of edges' k ≡ end_of edges k) → IsLatest edges below v at → IsLatest edges' below v at
latest-same edges edges' below v at same h = record {
  within = h.within;
  here = λ k e. (let w = h.within in same k (omega (arith, w, e)) ∙ h.here k e);
  none = λ k a b e. h.none k a b (sym (same k b) ∙ e);
}

end-left : (edges : List Edge) (edge : Edge) (k : ℕ) → k < length edges → end_of (edges ++ edge ∷ []) k ≡ end_of edges k
end-left edges edge k l = ap (λ (d : Edge). d.to) (get_or_append_left edges (edge ∷ []) (arrow 0 0) k l)

end-last : (edges : List Edge) (edge : Edge) (k : ℕ) → length edges ≡ k → end_of (edges ++ edge ∷ []) k ≡ edge.to
end-last edges edge k l = ap (λ (d : Edge). d.to) (get_or_push edges edge (arrow 0 0) k l)

-- one edge more
pub link-one : (nodes : ℕ) (edges : List Edge) (heads older : List ℕ) (edge : Edge) (at last : ℕ) → AreLinked nodes edges heads older → edge.to < nodes → at ≡ slice_index heads edge.to → last ≡ length edges + 1 →
    AreLinked nodes (edges ++ edge ∷ []) (set heads edge.to last) (older ++ at ∷ [])
link-one nodes edges heads older edge at last h l e f = record {
  heads_size = length-set heads edge.to last ∙ h.heads_size;
  older_size = (let a = length_push older at in let b = length_push edges edge in let s = h.older_size in omega (arith, a, b, s));
  heads_latest = λ v n. subst (λ (k : ℕ). IsLatest (edges ++ edge ∷ []) k v (slice_index (set heads edge.to last) v)) (sym (length_push edges edge)) (heads_latest v n (cases_eq v edge.to));
  older_latest = λ k n. older_latest k (let b = length_push edges edge in omega (arith, n, b)) (cases_lt k (length edges));
}
  where
    heads_latest : (v : ℕ) → v < nodes → (v ≡ edge.to) ⊎ (v ≡ edge.to → ⊥) → IsLatest (edges ++ edge ∷ []) (length edges + 1) v (slice_index (set heads edge.to last) v)
    heads_latest v n (inl p) =
        let a = get_or-set_same heads edge.to last 0 (let s = h.heads_size in omega (arith, s, l)) in
        let q : slice_index (set heads edge.to last) v ≡ length edges + 1 = ap (λ (k : ℕ). slice_index (set heads edge.to last) k) p ∙ a ∙ f in
        subst (λ (k : ℕ). IsLatest (edges ++ edge ∷ []) (length edges + 1) v k) (sym q)
        (record { within = omega arith; here = λ k s. end-last edges edge k (omega (arith, s)) ∙ sym p; none = λ k b d z. absurd (omega (arith, b, d)) })
    heads_latest v n (inr p) =
        let a = get_or-set_other heads edge.to v last 0 p in
        let old = h.heads_latest v n in
        subst (λ (k : ℕ). IsLatest (edges ++ edge ∷ []) (length edges + 1) v k) (sym a)
        (record {
          within = (let w = old.within in omega (arith, w));
          here = λ k s. (let w = old.within in end-left edges edge k (omega (arith, s, w)) ∙ old.here k s);
          none = λ k b d z. go k b d z (cases_lt k (length edges));
        })
      where
        go : (k : ℕ) → slice_index heads v ≤ k → k < length edges + 1 → end_of (edges ++ edge ∷ []) k ≡ v → (k < length edges) ⊎ (length edges ≤ k) → ⊥
        go k b d z (inl s) = (h.heads_latest v n).none k b s (sym (end-left edges edge k s) ∙ z)
        go k b d z (inr s) = p (sym z ∙ end-last edges edge k (omega (arith, d, s)))

    older_latest : (k : ℕ) → k < length edges + 1 → (k < length edges) ⊎ (length edges ≤ k) → IsLatest (edges ++ edge ∷ []) k (end_of (edges ++ edge ∷ []) k) (slice_index (older ++ at ∷ []) k)
    older_latest k n (inl s) =
        let a = get_or_append_left older (at ∷ []) 0 k (let z = h.older_size in omega (arith, z, s)) in
        subst (λ (x : ℕ). IsLatest (edges ++ edge ∷ []) k (end_of (edges ++ edge ∷ []) k) x) (sym a)
        (subst (λ (v : ℕ). IsLatest (edges ++ edge ∷ []) k v (slice_index older k)) (sym (end-left edges edge k s))
        (latest-same edges (edges ++ edge ∷ []) k (end_of edges k) (slice_index older k) (λ j m. end-left edges edge j (omega (arith, m, s))) (h.older_latest k s)))
    older_latest k n (inr s) =
        let q : length edges ≡ k = omega (arith, n, s) in
        let a = get_or_push older at 0 k (h.older_size ∙ q) in
        subst (λ (x : ℕ). IsLatest (edges ++ edge ∷ []) k (end_of (edges ++ edge ∷ []) k) x) (sym (a ∙ e))
        (subst (λ (v : ℕ). IsLatest (edges ++ edge ∷ []) k v (slice_index heads edge.to)) (sym (end-last edges edge k q))
        (latest-same edges (edges ++ edge ∷ []) k edge.to (slice_index heads edge.to) (λ j m. end-left edges edge j (omega (arith, m, q)))
        (subst (λ (b : ℕ). IsLatest edges b edge.to (slice_index heads edge.to)) q (h.heads_latest edge.to l))))

-- one edge less
pub unlink-one : (nodes : ℕ) (rest : List Edge) (heads rest' : List ℕ) (edge : Edge) (at : ℕ) → length rest' ≡ length rest → AreLinked nodes (rest ++ edge ∷ []) heads (rest' ++ at ∷ []) → edge.to < nodes →
    AreLinked nodes rest (set heads edge.to at) rest'
unlink-one nodes rest heads rest' edge at size h l = record {
  heads_size = length-set heads edge.to at ∙ h.heads_size;
  older_size = size;
  heads_latest = λ v n. heads_latest v n (cases_eq v edge.to);
  older_latest = λ k n. older_latest k n;
}
  where
    whole : length (rest ++ edge ∷ []) ≡ length rest + 1
    whole = length_push rest edge

    same : (k : ℕ) → k < length rest → end_of rest k ≡ end_of (rest ++ edge ∷ []) k
    same k n = sym (end-left rest edge k n)

    older_latest : (k : ℕ) → k < length rest → IsLatest rest k (end_of rest k) (slice_index rest' k)
    older_latest k n =
        let a = get_or_append_left rest' (at ∷ []) 0 k (omega (arith, n, size)) in
        let b = h.older_latest k (omega (arith, n, whole)) in
        subst (λ (x : ℕ). IsLatest rest k (end_of rest k) x) a
        (subst (λ (v : ℕ). IsLatest rest k v (slice_index (rest' ++ at ∷ []) k)) (end-left rest edge k n)
        (latest-same (rest ++ edge ∷ []) rest k (end_of (rest ++ edge ∷ []) k) (slice_index (rest' ++ at ∷ []) k) (λ j m. same j (omega (arith, m, n))) b))

    heads_latest : (v : ℕ) → v < nodes → (v ≡ edge.to) ⊎ (v ≡ edge.to → ⊥) → IsLatest rest (length rest) v (slice_index (set heads edge.to at) v)
    heads_latest v n (inl p) =
        let a = get_or-set_same heads edge.to at 0 (let s = h.heads_size in omega (arith, s, l)) in
        let b = h.older_latest (length rest) (omega (arith, whole)) in
        let c = get_or_push rest' at 0 (length rest) size in
        let d : IsLatest (rest ++ edge ∷ []) (length rest) edge.to at = subst (λ (w : ℕ). IsLatest (rest ++ edge ∷ []) (length rest) w at) (end-last rest edge (length rest) refl)
        (subst (λ (x : ℕ). IsLatest (rest ++ edge ∷ []) (length rest) (end_of (rest ++ edge ∷ []) (length rest)) x) c b) in
        subst (λ (w : ℕ). IsLatest rest (length rest) w (slice_index (set heads edge.to at) w)) (sym p)
        (subst (λ (x : ℕ). IsLatest rest (length rest) edge.to x) (sym a) (latest-same (rest ++ edge ∷ []) rest (length rest) edge.to at same d))
    heads_latest v n (inr p) = subst (λ (x : ℕ). IsLatest rest (length rest) v x) (sym (get_or-set_other heads edge.to v at 0 p))
        (record {
          within = within (cases_eq (slice_index heads v) (length rest + 1));
          here = λ k s. (let w = within (cases_eq (slice_index heads v) (length rest + 1)) in same k (omega (arith, s, w)) ∙ (h.heads_latest v n).here k s);
          none = λ k b d z. (h.heads_latest v n).none k b (omega (arith, d, whole)) (sym (same k d) ∙ z);
        })
      where
        within : (slice_index heads v ≡ length rest + 1) ⊎ (slice_index heads v ≡ length rest + 1 → ⊥) → slice_index heads v ≤ length rest
        within (inl q) = absurd (p (sym ((h.heads_latest v n).here (length rest) q) ∙ end-last rest edge (length rest) refl))
        within (inr q) = let w = (h.heads_latest v n).within in omega (arith, w, whole, q)

-- one edge less of those that are left
pub unlink-more : (nodes : ℕ) (edges : List Edge) (heads older : List ℕ) (at : ℕ) → at < length edges → length older ≡ length edges → EndsBelow edges nodes →
    AreLinked nodes (take (at + 1) edges) heads (take (at + 1) older) → AreLinked nodes (take at edges) (set heads (end_of edges at) (slice_index older at)) (take at older)
unlink-more nodes edges heads older at l size ends h =
    let a = take_more edges at (arrow 0 0) l in
    let b = take_more older at 0 (omega (arith, l, size)) in
    let m = length-take-le at edges (omega (arith, l)) in
    let n = length-take-le at older (omega (arith, l, size)) in
    unlink-one nodes (take at edges) heads (take at older) (slice_index_or edges at (arrow 0 0)) (slice_index older at) (n ∙ sym m)
    (subst (λ (z : List ℕ). AreLinked nodes (take at edges ++ slice_index_or edges at (arrow 0 0) ∷ []) heads z) b (subst (λ (z : List Edge). AreLinked nodes z heads (take (at + 1) older)) a h)) (ends.ends at l)

pub linked-all : (nodes : ℕ) (edges : List Edge) (heads older : List ℕ) (at : ℕ) → at ≡ length edges → AreLinked nodes edges heads older → AreLinked nodes (take at edges) heads (take at older)
linked-all nodes edges heads older at e h =
    subst (λ (z : List ℕ). AreLinked nodes (take at edges) heads z) (sym (take_all at older (let s = h.older_size in omega (arith, s, e))))
    (subst (λ (z : List Edge). AreLinked nodes z heads older) (sym (take_all at edges (omega (arith, e)))) h)

-- no edge
pub linked-none : (nodes : ℕ) (heads : List ℕ) → heads ≡ replicate nodes 0 → AreLinked nodes [] heads []
linked-none nodes heads e = record {
  heads_size = ap length e ∙ length-replicate nodes 0;
  older_size = refl;
  heads_latest = λ v n. subst (λ (x : ℕ). IsLatest [] 0 v x) (sym (ap (λ (z : List ℕ). slice_index z v) e ∙ get_or-replicate nodes v 0 0 n))
      (record { within = omega arith; here = λ k s. absurd (omega (arith, s)); none = λ k a b z. absurd (omega (arith, b)) });
  older_latest = λ k n. absurd (omega (arith, n));
}
