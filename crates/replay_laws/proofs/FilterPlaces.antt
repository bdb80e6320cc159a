-- Places in the part of an order that passes a test.
use Rattle.std.proofs.Common.{◌≡◌, zero, suc, ◌<◌, ◌≤◌, Bool, true, false, cond, List, [], ◌∷◌, length, sym, ◌∙◌, ap, subst, arith, inl, inr, ◌⊎◌}
use Rattle.std.specs.Prelude.{Contains, filter}
use Rattle.std.proofs.lemmas.List.{get_or_default}
use Rattle.std.proofs.lemmas.List.Elements.{filter_passes, All-contains}
use Rattle.std.proofs.lemmas.Bool.{cases_Bool, cases_lt}
use Rattle.replay_model.specs.Steps.{Event, same_event}
use Rattle.replay_model.specs.Orders.{place}
use Rattle.replay_model.proofs.Tags.{same_event-true}
use Rattle.replay_laws.proofs.Places.{IsOnce, same_place}

-- one more event in front
pub Contains-next : (x : Event) (xs : List Event) (e : Event) → Contains xs e → Contains (x ∷ xs) e
Contains-next x xs e (k, l, h) = (suc k, omega arith, h)

-- what passes was there
pub Contains-filter : (p : Event → Bool) (xs : List Event) (e : Event) → Contains (filter p xs) e → Contains xs e
Contains-filter p [] e c = c
Contains-filter p (x ∷ xs) e c = go (Contains-filter p xs e) (cases_Bool (p x))
  where
    go : (Contains (filter p xs) e → Contains xs e) → (p x ≡ true) ⊎ (p x ≡ false) → Contains (x ∷ xs) e
    go ih (inr f) =
        let Q : Bool → Type 0 = λ b. Contains (cond b (x ∷ filter p xs) (filter p xs)) e in
        Contains-next x xs e (ih (subst Q f c))
    go ih (inl t) =
        let Q : Bool → Type 0 = λ b. Contains (cond b (x ∷ filter p xs) (filter p xs)) e in
        at (subst Q t c)
      where
        at : Contains (x ∷ filter p xs) e → Contains (x ∷ xs) e
        at (zero, l, h) = (0, omega arith, h)
        at (suc k, l, h) = Contains-next x xs e (ih (k, omega arith, h))

-- and passes the test
pub filter-test : (p : Event → Bool) (xs : List Event) (e : Event) → Contains (filter p xs) e → p e ≡ true
filter-test p xs e c = All-contains (λ x. p x ≡ true) (filter p xs) e (filter_passes p xs) c

-- an event that passes keeps a place
pub place_filter-in : (p : Event → Bool) (xs : List Event) (e : Event) → p e ≡ true → place xs e < length xs → place (filter p xs) e < length (filter p xs)
place_filter-in p [] e t l = l
place_filter-in p (x ∷ xs) e t l = go (place_filter-in p xs e t) (cases_Bool (same_event x e)) (cases_Bool (p x))
  where
    at : Bool → Bool → Type 0
    at b c = cond b 0 (suc (place (filter p xs) e)) < suc (length (filter p xs))

    go : (place xs e < length xs → place (filter p xs) e < length (filter p xs)) → (same_event x e ≡ true) ⊎ (same_event x e ≡ false) → (p x ≡ true) ⊎ (p x ≡ false) →
        place (filter p (x ∷ xs)) e < length (filter p (x ∷ xs))
    go ih (inl s) (inl q) = rw q (rw s (omega arith))
    go ih (inl s) (inr q) = absurd (let y : p x ≡ true = ap p (same_event-true x e s) ∙ t in let z : true ≡ false = sym y ∙ q in cc z)
    go ih (inr s) (inl q) =
        let m : suc (place xs e) < suc (length xs) = subst (λ (b : Bool). cond b 0 (suc (place xs e)) < suc (length xs)) s l in
        let i = ih (omega (arith, m)) in rw q (rw s (omega (arith, i)))
    go ih (inr s) (inr q) =
        let m : suc (place xs e) < suc (length xs) = subst (λ (b : Bool). cond b 0 (suc (place xs e)) < suc (length xs)) s l in
        let i = ih (omega (arith, m)) in rw q i

-- earlier stays earlier
pub place_filter-lt : (p : Event → Bool) (xs : List Event) (a b : Event) → p a ≡ true → p b ≡ true → place xs a < place xs b → place (filter p xs) a < place (filter p xs) b
place_filter-lt p [] a b ta tb l = l
place_filter-lt p (x ∷ xs) a b ta tb l = go (place_filter-lt p xs a b ta tb) (cases_Bool (same_event x a)) (cases_Bool (same_event x b)) (cases_Bool (p x))
  where
    go : (place xs a < place xs b → place (filter p xs) a < place (filter p xs) b) →
        (same_event x a ≡ true) ⊎ (same_event x a ≡ false) → (same_event x b ≡ true) ⊎ (same_event x b ≡ false) → (p x ≡ true) ⊎ (p x ≡ false) →
        place (filter p (x ∷ xs)) a < place (filter p (x ∷ xs)) b
    go ih (inl s) (inl r) q = absurd (let m : cond (same_event x a) 0 (suc (place xs a)) < 0 = subst (λ (c : Bool). cond (same_event x a) 0 (suc (place xs a)) < cond c 0 (suc (place xs b))) r l in omega (arith, m))
    go ih (inr s) (inl r) q = absurd (let m : cond (same_event x a) 0 (suc (place xs a)) < 0 = subst (λ (c : Bool). cond (same_event x a) 0 (suc (place xs a)) < cond c 0 (suc (place xs b))) r l in omega (arith, m))
    go ih (inl s) (inr r) (inl q) = rw q (rw (s, r) (omega arith))
    go ih (inl s) (inr r) (inr q) = absurd (let y : p x ≡ true = ap p (same_event-true x a s) ∙ ta in let z : true ≡ false = sym y ∙ q in cc z)
    go ih (inr s) (inr r) q = last q
      where
        m : suc (place xs a) < suc (place xs b)
        m = subst (λ (c : Bool). cond c 0 (suc (place xs a)) < suc (place xs b)) s (subst (λ (c : Bool). cond (same_event x a) 0 (suc (place xs a)) < cond c 0 (suc (place xs b))) r l)

        i : place (filter p xs) a < place (filter p xs) b
        i = ih (let k = m in omega (arith, k))

        last : (p x ≡ true) ⊎ (p x ≡ false) → place (filter p (x ∷ xs)) a < place (filter p (x ∷ xs)) b
        last (inl q) = let k = i in rw q (rw (s, r) (omega (arith, k)))
        last (inr q) = rw q i

-- no later stays no later
pub place_filter-le : (p : Event → Bool) (xs : List Event) (a b : Event) → p a ≡ true → p b ≡ true → place xs a < length xs → place xs a ≤ place xs b → place (filter p xs) a ≤ place (filter p xs) b
place_filter-le p xs a b ta tb in' l = go (cases_lt (place xs a) (place xs b))
  where
    go : (place xs a < place xs b) ⊎ (place xs b ≤ place xs a) → place (filter p xs) a ≤ place (filter p xs) b
    go (inl m) = let r = place_filter-lt p xs a b ta tb m in omega (arith, r)
    go (inr m) =
        let q : place xs a ≡ place xs b = omega arith in
        let r : place (filter p xs) a ≡ place (filter p xs) b = ap (place (filter p xs)) (same_place xs a b q in') in omega (arith, r)

-- the rest of a list with each event once
pub once_next : (x : Event) (xs : List Event) → IsOnce (x ∷ xs) → IsOnce xs
once_next x xs once i j d ij jl = once (suc i) (suc j) d (omega arith) (omega arith)

-- what stood once stands once
pub once_filter : (p : Event → Bool) (xs : List Event) → IsOnce xs → IsOnce (filter p xs)
once_filter p [] once = once
once_filter p (x ∷ xs) once = go (once_filter p xs (once_next x xs once)) (cases_Bool (p x))
  where
    go : IsOnce (filter p xs) → (p x ≡ true) ⊎ (p x ≡ false) → IsOnce (filter p (x ∷ xs))
    go ih (inr q) = subst (λ (b : Bool). IsOnce (cond b (x ∷ filter p xs) (filter p xs))) (sym q) ih
    go ih (inl q) = subst (λ (b : Bool). IsOnce (cond b (x ∷ filter p xs) (filter p xs))) (sym q) new
      where
        new : IsOnce (x ∷ filter p xs)
        new i zero d ij jl = absurd (omega arith)
        new zero (suc j) d ij jl = λ s.
            let c : Contains (filter p xs) x = (j, omega arith, get_or_default (filter p xs) j x d (omega arith) ∙ sym s) in
            let (k, l, h) = Contains-filter p xs x c in
            once 0 (suc k) x (omega arith) (omega arith) (sym h)
        new (suc i) (suc j) d ij jl = ih i j d (omega arith) (omega arith)
