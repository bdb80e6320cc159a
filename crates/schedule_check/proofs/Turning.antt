-- The nearest position of each thread, as an order is gone through.
use Rattle.std.proofs.Common.{◌≡◌, ℕ, ◌+◌, ◌<◌, ◌≤◌, Option, Some, None, List, length, get_or, sym, ◌∙◌, ap, subst, arith, inl, inr, ◌⊎◌}
use Rattle.std.specs.Prelude.{◌≢◌}
use Rattle.std.proofs.Math.ListN.{set, replicate}
use Rattle.std.proofs.lemmas.Bool.{cases_lt, cases_eq}
use Rattle.std.proofs.lemmas.List.{length-set, length-replicate, get_or-replicate, get_or-set_same, get_or-set_other}
use Rattle.light_base.specs.declared.tag.Event.{Event}
use Rattle.schedule_check.specs.Turns.{at, IsInTurn, IsFirstOvertaken}

-- of the first j events, the last one of the thread stands here, or there is none
abbrev pub IsNearest : List Event → ℕ → ℕ → Option ℕ → Type 0
IsNearest order j thread None = (k : ℕ) → k < j → (at order k).thread ≢ thread
IsNearest order j thread (Some i) = (i < j) × ((at order i).thread ≡ thread) × ((k : ℕ) → i < k → k < j → (at order k).thread ≢ thread)

pub record AreNearest (order : List Event) (j : ℕ) (nearest : List (Option ℕ)) : Type 0 where
  pub count : length nearest ≡ 256
  pub each : (thread : ℕ) → thread < 256 → IsNearest order j thread (get_or nearest thread None)
  pub in_turn : IsInTurn order j

pub nearest_none : (order : List Event) → AreNearest order 0 (replicate 256 None)
nearest_none order = record {
  count = length-replicate {A = Option ℕ} 256 None;
  each = λ thread l. let P : Option ℕ → Type 0 = IsNearest order 0 thread in subst P (sym (get_or-replicate {A = Option ℕ} 256 thread None None l)) (λ k m. absurd (omega (arith, m)));
  in_turn = λ p q l m. absurd (omega (arith, m));
}

-- the event at j stands after no event of its thread with a greater number
abbrev pub IsOnTop : List Event → ℕ → Option ℕ → Type 0
IsOnTop order j None = Unit {0}
IsOnTop order j (Some i) = (at order i).step ≤ (at order j).step

pub nearest_more : (order : List Event) (j : ℕ) (nearest : List (Option ℕ)) → (at order j).thread < 256 → AreNearest order j nearest → IsOnTop order j (get_or nearest (at order j).thread None) →
    AreNearest order (j + 1) (set nearest (at order j).thread (Some j))
nearest_more order j nearest small n top = record {
  count = length-set nearest (at order j).thread (Some j) ∙ n.count;
  each = λ thread l. each thread l (cases_eq thread (at order j).thread);
  in_turn = λ p q l m e. turn p q l e (cases_lt q j) m;
}
  where
    t : ℕ
    t = (at order j).thread

    inside : t < length nearest
    inside = let c = n.count in omega (arith, c, small)

    each : (thread : ℕ) → thread < 256 → (thread ≡ (at order j).thread) ⊎ (thread ≢ (at order j).thread) → IsNearest order (j + 1) thread (get_or (set nearest (at order j).thread (Some j)) thread None)
    each thread l (inl e) =
        let P : Option ℕ → Type 0 = IsNearest order (j + 1) thread in
        let here : get_or (set nearest (at order j).thread (Some j)) thread None ≡ Some j =
        ap (λ (i : ℕ). get_or (set nearest (at order j).thread (Some j)) i None) e ∙ get_or-set_same nearest (at order j).thread (Some j) None inside in
        subst P (sym here) (omega arith, sym e, λ k a b. absurd (omega (arith, a, b)))
    each thread l (inr d) =
        let P : Option ℕ → Type 0 = IsNearest order (j + 1) thread in
        subst P (sym (get_or-set_other nearest (at order j).thread thread (Some j) None d)) (kept (get_or nearest thread None) (n.each thread l))
      where
        kept : (found : Option ℕ) → IsNearest order j thread found → IsNearest order (j + 1) thread found
        kept None h = λ k m e. last k e (cases_lt k j) m
          where
            last : (k : ℕ) → (at order k).thread ≡ thread → (k < j) ⊎ (j ≤ k) → k < j + 1 → ⊥
            last k e (inl a) m = h k a e
            last k e (inr a) m = d (sym e ∙ ap (λ (i : ℕ). (at order i).thread) (let q : k ≡ j = omega (arith, a, m) in q))
        kept (Some i) (a, b, h) = (omega (arith, a), b, λ k l m e. last k l e (cases_lt k j) m)
          where
            last : (k : ℕ) → i < k → (at order k).thread ≡ thread → (k < j) ⊎ (j ≤ k) → k < j + 1 → ⊥
            last k l e (inl c) m = h k l c e
            last k l e (inr c) m = d (sym e ∙ ap (λ (i : ℕ). (at order i).thread) (let q : k ≡ j = omega (arith, c, m) in q))

    turn : (p q : ℕ) → p < q → (at order p).thread ≡ (at order q).thread → (q < j) ⊎ (j ≤ q) → q < j + 1 → (at order p).step ≤ (at order q).step
    turn p q l e (inl a) m = n.in_turn p q l a e
    turn p q l e (inr a) m =
        let s : q ≡ j = omega (arith, a, m) in
        let P : ℕ → Type 0 = λ k. (at order p).step ≤ (at order k).step in
        subst P (sym s) (below (get_or nearest (at order j).thread None) (n.each (at order j).thread small) top)
      where
        same : (at order p).thread ≡ (at order j).thread
        same = e ∙ ap (λ (i : ℕ). (at order i).thread) (let s : q ≡ j = omega (arith, a, m) in s)

        below : (found : Option ℕ) → IsNearest order j (at order j).thread found → IsOnTop order j found → (at order p).step ≤ (at order j).step
        below None h o = absurd (h p (omega (arith, l, a, m)) same)
        below (Some i) (b, c, h) o = rank (cases_lt p i)
          where
            rank : (p < i) ⊎ (i ≤ p) → (at order p).step ≤ (at order j).step
            rank (inl r) = let x = n.in_turn p i r b (same ∙ sym c) in omega (arith, x, o)
            rank (inr r) = equal (cases_lt i p)
              where
                equal : (i < p) ⊎ (p ≤ i) → (at order p).step ≤ (at order j).step
                equal (inl s) = absurd (h p s (omega (arith, l, a, m)) same)
                equal (inr s) = let P : ℕ → Type 0 = λ k. (at order k).step ≤ (at order j).step in subst P (let q : i ≡ p = omega (arith, r, s) in q) o

-- the event at j has a smaller number than the nearest one of its thread
pub overtaken_here : (order : List Event) (j i : ℕ) (nearest : List (Option ℕ)) → j < length order → (at order j).thread < 256 → AreNearest order j nearest → get_or nearest (at order j).thread None ≡ Some i →
    (at order j).step < (at order i).step → IsFirstOvertaken order i j
overtaken_here order j i nearest l small n e less =
    let (a, b, h) = subst (IsNearest order j (at order j).thread) e (n.each (at order j).thread small) in
    record { below = l; earlier = a; thread = b; greater = less; nearest = h; before = n.in_turn }
