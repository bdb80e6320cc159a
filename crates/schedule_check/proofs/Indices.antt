-- The position of an event in the list of events, also where it has none.
use Rattle.std.proofs.Common.{◌≡◌, ℕ, suc, ◌<◌, ◌≤◌, true, false, cond, List, [], ◌∷◌, length, get_or, ◌∙◌, ap, arith, inl, inr, ◌⊎◌}
use Rattle.std.specs.Prelude.{Contains}
use Rattle.std.specs.List.Sorted.{IsPartitionPoint}
use Rattle.std.proofs.lemmas.Bool.{cases_lt}
use Rattle.light_base.specs.declared.tag.Event.{Event}
use Rattle.replay_model.specs.Steps.{same_event}
use Rattle.replay_model.specs.Orders.{place}
use Rattle.replay_laws.proofs.Places.{place-contains, at_place, Contains-place}
use Rattle.constraints.specs.Positions.{is_before, IsListed}
use Rattle.constraints.proofs.Listing.{point-place}

pub place-le : (events : List Event) (e : Event) → place events e ≤ length events
place-le [] e = omega arith
place-le (x ∷ events) e =
    let ih : place events e ≤ length events = place-le events e in
    elim (same_event x e) as (λ v. cond v 0 (suc (place events e)) ≤ suc (length events)) [ true ↦ omega arith | false ↦ omega arith ]

-- an event that is not there has the length for its place
pub place-none : (events : List Event) (e : Event) → (Contains events e → ⊥) → length events ≡ place events e
place-none events e h = go (cases_lt (place events e) (length events))
  where
    go : (place events e < length events) ⊎ (length events ≤ place events e) → length events ≡ place events e
    go (inl l) = absurd (h (Contains-place events e l))
    go (inr l) = let m = place-le events e in omega (arith, l, m)

abbrev pub IsPoint : List Event → Event → ℕ → Type 0
IsPoint events e i = IsPartitionPoint (λ (x : Event). is_before x e ≡ true) (λ (x : Event). is_before x e ≡ false) events i

-- what stands at the point where the list passes the event is that event, or the list does not have it
pub point-found : (events : List Event) (e : Event) (i : ℕ) → IsListed events → i < length events → IsPoint events e i → get_or events i e ≡ e → i ≡ place events e
point-found events e i h l p at = point-place events e i h (i, l, at) (omega (arith, l)) p

pub point-none : (events : List Event) (e : Event) (i : ℕ) → IsListed events → i ≤ length events → IsPoint events e i → (i < length events → get_or events i e ≡ e → ⊥) → length events ≡ place events e
point-none events e i h l p other = place-none events e (λ c.
    let q = point-place events e i h c l p in
    let m = place-contains events e c in
    other (omega (arith, q, m)) (ap (λ (n : ℕ). get_or events n e) q ∙ at_place events e e m))
