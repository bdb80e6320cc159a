use Rattle.std.proofs.Common.{◌≡◌, ◌≢◌, ℕ, ◌+◌, ◌*◌, ◌<◌, ◌≤◌, Bool, true, false, List, length, set, get_or, refl, sym, ◌∙◌, ap, subst, arith, inl, inr, ◌⊎◌, get_or-set_other, get_or-set_same}
use Rattle.std.specs.Prelude.{sum}
use Rattle.std.proofs.lemmas.Bool.{cases_eq, cases_lt}
use Rattle.std.proofs.lemmas.Nat.{same_from_place}
use Rattle.std.proofs.lemmas.List.{length-set}
use Rattle.std.proofs.lemmas.List.Sums.{sum_by-set}
use Rattle.order_graph.specs.Clocks.{clock, IsLowering, IsTold}

pub lowering-none : (threads u v : ℕ) (old : List ℕ) → IsLowering threads u v 0 old old
lowering-none threads u v old = record { less = λ i. omega arith; kept = λ x t l. inl refl; lowered = λ t l. absurd (omega (arith, l)) }

pub told-none : (old : List ℕ) → IsTold old old false
told-none old = record { size = refl; still = λ _. refl; fell = λ h. cc }

-- a number that was not above the other stays
pub lowering-keeps : (threads u v t : ℕ) (old new : List ℕ) → t < threads → IsLowering threads u v t old new → clock threads new u t ≤ clock threads new v t →
    IsLowering threads u v (t + 1) old new
lowering-keeps threads u v t old new l h q = record { less = h.less; kept = h.kept; lowered = λ s k. go s k (cases_eq s t) }
  where
    go : (s : ℕ) → s < t + 1 → (s ≡ t) ⊎ (s ≡ t → ⊥) → clock threads new u s ≤ clock threads old v s
    go s k (inl e) =
        let a = h.less (v * threads + t) in
        let b : clock threads new u t ≤ clock threads old v t = omega (arith, a, q) in
        subst (λ (i : ℕ). clock threads new u i ≤ clock threads old v i) (sym e) b
    go s k (inr e) = h.lowered s (omega (arith, k, e))

-- a number that was above the other is lowered to it
pub lowering-sets : (threads u v t r : ℕ) (old new : List ℕ) → t < threads → u * threads + t < length new → IsLowering threads u v t old new →
    r ≡ clock threads new v t → r < clock threads new u t → IsLowering threads u v (t + 1) old (set new (u * threads + t) r)
lowering-sets threads u v t r old new l b h e q = record { less = λ i. less i (cases_eq i (u * threads + t)); kept = λ x s k. kept x s k (cases_eq (x * threads + s) (u * threads + t)); lowered = λ s k. lowered s k (cases_eq s t) }
  where
    here : get_or (set new (u * threads + t) r) (u * threads + t) 0 ≡ r
    here = get_or-set_same new (u * threads + t) r 0 b

    value : r ≡ clock threads old v t
    value = go (h.kept v t l)
      where
        go : (clock threads new v t ≡ clock threads old v t) ⊎ ((v ≡ u) × (clock threads new v t ≡ clock threads old v t)) → r ≡ clock threads old v t
        go (inl p) = e ∙ p
        go (inr p) = e ∙ p.1

    less : (i : ℕ) → (i ≡ u * threads + t) ⊎ (i ≡ u * threads + t → ⊥) → get_or (set new (u * threads + t) r) i 0 ≤ get_or old i 0
    less i (inl p) =
        let a = h.less (u * threads + t) in
        let c : get_or (set new (u * threads + t) r) (u * threads + t) 0 ≤ get_or old (u * threads + t) 0 = omega (arith, a, here, q) in
        subst (λ (k : ℕ). get_or (set new (u * threads + t) r) k 0 ≤ get_or old k 0) (sym p) c
    less i (inr p) = let a = h.less i in let c = get_or-set_other new (u * threads + t) i r 0 p in omega (arith, a, c)

    kept : (x s : ℕ) → s < threads → (x * threads + s ≡ u * threads + t) ⊎ (x * threads + s ≡ u * threads + t → ⊥) →
        (clock threads (set new (u * threads + t) r) x s ≡ clock threads old x s) ⊎ ((x ≡ u) × (clock threads (set new (u * threads + t) r) x s ≡ clock threads old v s))
    kept x s k (inl p) =
        let w = same_from_place x s u t threads k l p in
        inr (w.0, ap (λ (i : ℕ). get_or (set new (u * threads + t) r) i 0) p ∙ here ∙ value ∙ ap (λ (i : ℕ). clock threads old v i) (sym w.1))
    kept x s k (inr p) = let c = get_or-set_other new (u * threads + t) (x * threads + s) r 0 p in go c (h.kept x s k)
      where
        go : get_or (set new (u * threads + t) r) (x * threads + s) 0 ≡ get_or new (x * threads + s) 0 → (clock threads new x s ≡ clock threads old x s) ⊎ ((x ≡ u) × (clock threads new x s ≡ clock threads old v s)) →
            (clock threads (set new (u * threads + t) r) x s ≡ clock threads old x s) ⊎ ((x ≡ u) × (clock threads (set new (u * threads + t) r) x s ≡ clock threads old v s))
        go c (inl a) = inl (c ∙ a)
        go c (inr a) = inr (a.0, c ∙ a.1)

    lowered : (s : ℕ) → s < t + 1 → (s ≡ t) ⊎ (s ≡ t → ⊥) → clock threads (set new (u * threads + t) r) u s ≤ clock threads old v s
    lowered s k (inl p) =
        let c : clock threads (set new (u * threads + t) r) u t ≤ clock threads old v t = omega (arith, here, value) in
        subst (λ (i : ℕ). clock threads (set new (u * threads + t) r) u i ≤ clock threads old v i) (sym p) c
    lowered s k (inr p) =
        let n : u * threads + s ≢ u * threads + t = λ z. p (omega (arith, z)) in
        let c = get_or-set_other new (u * threads + t) (u * threads + s) r 0 n in
        let a = h.lowered s (omega (arith, k, p)) in omega (arith, a, c)

pub told-sets : (old new : List ℕ) (changed : Bool) (i r : ℕ) → i < length new → r < get_or new i 0 → IsTold old new changed → IsTold old (set new i r) true
told-sets old new changed i r b q h = record { size = length-set new i r ∙ h.size; still = λ z. cc; fell = λ _. go (Rattle.std.proofs.lemmas.Bool.cases_Bool changed) }
  where
    go : (changed ≡ true) ⊎ (changed ≡ false) → sum (set new i r) < sum old
    go (inl t) = let a = h.fell t in let s = sum_by-set (λ (x : ℕ). x) new i r 0 b in omega (arith, a, s, q)
    go (inr t) = let a = ap sum (h.still t) in let s = sum_by-set (λ (x : ℕ). x) new i r 0 b in omega (arith, a, s, q)

-- a step of the loop that lowered a number
pub lower-then : (threads u v t r : ℕ) (old new new' : List ℕ) (changed changed' : Bool) → t < threads → u * threads + t < length new →
    IsLowering threads u v t old new → IsTold old new changed → r ≡ clock threads new v t → r < clock threads new u t → new' ≡ set new (u * threads + t) r → changed' ≡ true →
    IsLowering threads u v (t + 1) old new' × IsTold old new' changed'
lower-then threads u v t r old new new' changed changed' l b h k e q n m = (
  subst (λ (z : List ℕ). IsLowering threads u v (t + 1) old z) (sym n) (lowering-sets threads u v t r old new l b h e q),
  subst (λ (y : Bool). IsTold old new' y) (sym m) (subst (λ (z : List ℕ). IsTold old z true) (sym n) (told-sets old new changed (u * threads + t) r b q k)),
)

-- a step that left it
pub lower-else : (threads u v t : ℕ) (old new new' : List ℕ) (changed changed' : Bool) → t < threads →
    IsLowering threads u v t old new → IsTold old new changed → clock threads new u t ≤ clock threads new v t → new' ≡ new → changed' ≡ changed →
    IsLowering threads u v (t + 1) old new' × IsTold old new' changed'
lower-else threads u v t old new new' changed changed' l h k q n m = (
  subst (λ (z : List ℕ). IsLowering threads u v (t + 1) old z) (sym n) (lowering-keeps threads u v t old new l h q),
  subst (λ (y : Bool). IsTold old new' y) (sym m) (subst (λ (z : List ℕ). IsTold old z changed) (sym n) k),
)
