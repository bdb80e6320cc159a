-- Tests on events and tags, and the two lists of a test.
use Rattle.std.proofs.Common.{◌≡◌, Bool, true, false, eqb, List, get_or, refl, sym, ap, subst, inl, inr, ◌⊎◌}
use Rattle.std.specs.Prelude.{◌≢◌, Contains, Some, None}
use Rattle.std.specs.List.{list_any}
use Rattle.std.proofs.lemmas.Bool.{eqb-true, eq-eqb, cases_Bool, and_parts, and_from}
use Rattle.std.proofs.lemmas.List.Folds.{Any-from_list_any, list_any_at}
use Rattle.replay_model.specs.Steps.{Event, Tag, same_event, same_tag}

-- the test on events decides
pub same_event-true : (a b : Event) → same_event a b ≡ true → a ≡ b
same_event-true a b h =
    let p : a.thread ≡ b.thread = eqb-true _ _ (and_parts (eqb a.thread b.thread) (eqb a.step b.step) h).0 in
    let q : a.step ≡ b.step = eqb-true _ _ (and_parts (eqb a.thread b.thread) (eqb a.step b.step) h).1 in
    λ i. record { thread = p i; step = q i }

-- an event is the same as itself
pub same_event-same : (a : Event) → same_event a a ≡ true
same_event-same a = and_from _ _ (eq-eqb a.thread a.thread refl) (eq-eqb a.step a.step refl)

-- other events fail the test
pub same_event-false : (a b : Event) → a ≢ b → same_event a b ≡ false
same_event-false a b n = go (cases_Bool (same_event a b))
  where
    go : (same_event a b ≡ true) ⊎ (same_event a b ≡ false) → same_event a b ≡ false
    go (inl e) = absurd (n (same_event-true a b e))
    go (inr e) = e

-- two events are one or not
pub event_cases : (a b : Event) → (a ≡ b) ⊎ (a ≢ b)
event_cases a b = go (cases_Bool (same_event a b))
  where
    go : (same_event a b ≡ true) ⊎ (same_event a b ≡ false) → (a ≡ b) ⊎ (a ≢ b)
    go (inl e) = inl (same_event-true a b e)
    go (inr e) = inr (λ s. let k : same_event a b ≡ true = subst (λ (x : Event). same_event a x ≡ true) s (same_event-same a) in cc (e, k))

-- the test on tags decides
pub same_tag-true : (a b : Tag) → same_tag a b ≡ true → a ≡ b
same_tag-true None None h = refl
same_tag-true (Some a) (Some b) h = ap Some (same_event-true a b h)
same_tag-true None (Some b) h = cc
same_tag-true (Some a) None h = cc

-- a tag is the same as itself
pub same_tag-same : (a : Tag) → same_tag a a ≡ true
same_tag-same None = refl
same_tag-same (Some a) = same_event-same a

-- an element that passes a test
pub any-element : {X : Type 0} (p : X → Bool) (xs : List X) → list_any p xs ≡ true → (x : X) × Contains xs x × (p x ≡ true)
any-element p xs h = let (k, x, l, at, t) = Any-from_list_any p xs h in (x, (k, l, at), t)

-- and the other way round
pub element-any : {X : Type 0} (p : X → Bool) (xs : List X) (x : X) → Contains xs x → p x ≡ true → list_any p xs ≡ true
element-any {X} p xs x (k, l, at) t =
    let P : X → Type 0 = λ y. p y ≡ true in
    let s : p (get_or xs k x) ≡ true = subst P (sym at) t in
    list_any_at p xs k x l s
