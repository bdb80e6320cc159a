-- Places in lists.
use Rattle.std.proofs.Common.{◌≡◌, ℕ, zero, suc, ◌+◌, Bool, true, false, cond, eqb, List, [], ◌∷◌, ◌++◌, length, get_or, take, refl, sym, ◌∙◌, ap, subst, arith, inl, inr, ◌⊎◌}
use Rattle.std.specs.Prelude.{Contains, Some, slice_get}
use Rattle.std.proofs.Math.Logic.{⊎_elim}
use Rattle.std.proofs.lemmas.List.{length_push, get_or_push}
use Rattle.std.proofs.lemmas.Option.{slice_get-get_or, slice_get_within}
use Rattle.std.proofs.lemmas.Bool.{cases_Bool}
use mathlib.Core.Option.{some, some-injective, some-ne-none}
use lib.ListN.{get_elem?}
use Rattle.replay_model.specs.Steps.{Step}
use Rattle.replay_model.specs.WordSteps.{WordStep, part}
use Rattle.replay_model.proofs.WordSteps.{step_of}

-- an element of a list with one more at its end, and where it stands
pub at_end : {A : Type 0} (l : List A) (a b : A) (j : ℕ) → get_elem? (l ++ a ∷ []) j ≡ some b → (get_elem? l j ≡ some b) ⊎ ((j ≡ length l) × (a ≡ b))
at_end [] a b zero e = inr (refl, some-injective a b e)
at_end [] a b (suc j) e = absurd (some-ne-none b (sym e))
at_end (x ∷ xs) a b zero e = inl e
at_end (x ∷ xs) a b (suc j) e = ⊎_elim inl (λ t. inr (ap suc t.0, t.1)) (at_end xs a b j e)

-- an element that was pushed
pub slice_get_push : {A : Type 0} (xs : List A) (x : A) (n : ℕ) → length xs ≡ n → slice_get (xs ++ x ∷ []) n ≡ Some x
slice_get_push xs x n h = let l = length_push xs x in slice_get-get_or (xs ++ x ∷ []) n x (omega (arith, l, h)) ∙ ap Some (get_or_push xs x x n h)

-- an element that was read
pub slice_get-contains : {A : Type 0} (xs : List A) (k : ℕ) (x : A) → slice_get xs k ≡ Some x → Contains xs x
slice_get-contains xs k x e =
    let l = slice_get_within xs k x e in
    let q : Some (get_or xs k x) ≡ Some x = sym (slice_get-get_or xs k x l) ∙ e in
    let r : get_or xs k x ≡ x = cc q in (k, l, r)

-- a step of a thread's part is one of the list
pub part-contains : (t : ℕ) (list : List WordStep) (step : Step) → Contains (part t list) step → (e : WordStep) × Contains list e × (step_of e ≡ step)
part-contains t [] step (k, l, h) = absurd (omega (arith, l))
part-contains t (e ∷ list) step c = go (part-contains t list step) (cases_Bool (eqb e.thread t))
  where
    later : (x : WordStep) × Contains list x × (step_of x ≡ step) → (x : WordStep) × Contains (e ∷ list) x × (step_of x ≡ step)
    later (x, (k, l, h), is) = (x, (suc k, omega (arith, l), h), is)

    first : (Contains (part t list) step → (x : WordStep) × Contains list x × (step_of x ≡ step)) → Contains (step_of e ∷ part t list) step → (x : WordStep) × Contains (e ∷ list) x × (step_of x ≡ step)
    first ih (zero, l, h) = (e, (0, omega arith, refl), h)
    first ih (suc k, l, h) = later (ih (k, omega (arith, l), h))

    go : (Contains (part t list) step → (x : WordStep) × Contains list x × (step_of x ≡ step)) → (eqb e.thread t ≡ true) ⊎ (eqb e.thread t ≡ false) → (x : WordStep) × Contains (e ∷ list) x × (step_of x ≡ step)
    go ih (inl q) = first ih (subst (λ (b : Bool). Contains (cond b (step_of e ∷ []) [] ++ part t list) step) q c)
    go ih (inr q) = later (ih (subst (λ (b : Bool). Contains (cond b (step_of e ∷ []) [] ++ part t list) step) q c))

take_next : {A : Type 0} (l : List A) (i : ℕ) (a : A) → get_elem? l i ≡ some a → take (suc i) l ≡ take i l ++ a ∷ []
take_next [] i a e = absurd (some-ne-none a (sym e))
take_next (x ∷ xs) zero a e = λ k. some-injective x a e k ∷ []
take_next (x ∷ xs) (suc i) a e = λ k. x ∷ take_next xs i a e k

-- one more element of the front
pub take_one_more : {A : Type 0} (l : List A) (i : ℕ) (a : A) → get_elem? l i ≡ some a → take (i + 1) l ≡ take i l ++ a ∷ []
take_one_more l i a e = let n : i + 1 ≡ suc i = omega arith in ap (λ (k : ℕ). take k l) n ∙ take_next l i a e
