-- What is said of each element of a list at its place.
use Rattle.std.proofs.Common.{◌≡◌, ℕ, suc, ◌+◌, ◌<◌, ◌≤◌, List, [], ◌∷◌, ◌++◌, length, take, drop, map, refl, sym, ◌∙◌, ap, subst, arith, inl, inr, ◌⊎◌}
use Rattle.std.specs.Prelude.{slice_index_or, slice_set}
use Rattle.std.specs.List.{range_with_len}
use Rattle.std.proofs.lemmas.Bool.{cases_eq, cases_lt}
use Rattle.std.proofs.lemmas.List.{take_all, drop_all, append-nil, length-set, get_or-set_same, get_or-set_other, get_or_append_left}
use Rattle.std.proofs.Math.Seq.{get_or-append_seam}

-- what is told of each place of a list is told of the numbers of its places
pub map-range : {X Y : Type 0} (f : X → Y) (g : ℕ → Y) (xs : List X) (a : ℕ) → ((k : ℕ) (d : X) → k < length xs → f (slice_index_or xs k d) ≡ g (a + k)) → map f xs ≡ map g (range_with_len a (length xs))
map-range f g [] a h = refl
map-range {X} {Y} f g (x ∷ xs) a h =
    let z : a + 0 ≡ a = omega arith in
    let here : f x ≡ g a = h 0 x (omega arith) ∙ ap g z in
    ap (λ (y : Y). y ∷ map f xs) here ∙
    ap (λ (l : List Y). g a ∷ l) (map-range f g xs (a + 1) (λ k d l. h (suc k) d (omega arith) ∙ ap g (let e : a + suc k ≡ (a + 1) + k = omega arith in e)))

-- what is written back to a list by a slice of all of it
pub written_back : {X : Type 0} (n : ℕ) (new old : List X) → length old ≡ n → length new ≡ n → take n (new ++ drop (length new) old) ≡ new
written_back {X} n new old o m =
    ap (λ (x : List X). take n (new ++ x)) (drop_all (length new) old (omega arith)) ∙ ap (take n) (append-nil new) ∙ take_all n new (omega arith)

module _ {X : Type 0} (P : ℕ → X → Type 0) (xs : List X) (new : X) where
  -- one element is replaced
  pub each-set : (k : ℕ) → k < length xs → P k new → ((j : ℕ) (d : X) → (j ≡ k → ⊥) → j < length xs → P j (slice_index_or xs j d)) →
      (j : ℕ) (d : X) → j < length (slice_set xs k new) → P j (slice_index_or (slice_set xs k new) j d)
  each-set k l here there j d jl = go (cases_eq j k)
    where
      go : (j ≡ k) ⊎ (j ≡ k → ⊥) → P j (slice_index_or (slice_set xs k new) j d)
      go (inl e) = subst (λ (i : ℕ). P i (slice_index_or (slice_set xs k new) i d)) (sym e) (subst (P k) (sym (get_or-set_same xs k new d l)) here)
      go (inr ne) = subst (P j) (sym (get_or-set_other xs k j new d ne)) (there j d ne (let n = length-set xs k new in omega (arith, n, jl)))

  -- one more is added
  pub each-push : (n : ℕ) → length xs ≡ n → P n new → ((j : ℕ) (d : X) → j < n → P j (slice_index_or xs j d)) → (j : ℕ) (d : X) → j < n + 1 → P j (slice_index_or (xs ++ new ∷ []) j d)
  each-push n count here there j d jl = go (cases_lt j n)
    where
      go : (j < n) ⊎ (n ≤ j) → P j (slice_index_or (xs ++ new ∷ []) j d)
      go (inl b) = subst (P j) (sym (get_or_append_left xs (new ∷ []) d j (omega (arith, count, b)))) (there j d b)
      go (inr g) =
          let e : length xs ≡ j = omega (arith, count, g, jl) in
          subst (λ (i : ℕ). P i (slice_index_or (xs ++ new ∷ []) i d)) e (subst (P (length xs)) (sym (get_or-append_seam xs new [] d)) (subst (λ (i : ℕ). P i new) (sym count) here))
