-- The steps that a log names, as they are collected.
use Rattle.std.proofs.Common.{◌≡◌, ℕ, zero, suc, ◌+◌, ◌<◌, ◌≤◌, Bool, true, false, List, [], ◌∷◌, length, refl, sym, ◌∙◌, ap, subst, arith, inl, inr, ◌⊎◌, take}
use Rattle.std.specs.Prelude.{◌||◌, ◌≢◌, eqb, Some, None, slice_index, slice_index_or, All, Contains}
use Rattle.std.specs.List.{list_any}
use Rattle.std.proofs.lemmas.List.Folds.{list_any_more}
use Rattle.std.proofs.lemmas.List.Elements.{All-nil}
use Rattle.std.proofs.lemmas.List.Filters.{All-dedup}
use Rattle.std.proofs.lemmas.List.Kept.{Contains-dedup_nat, Contains-from_dedup}
use Rattle.std.proofs.lemmas.List.Sorted.{Contains-permutation, All-permutation, IsPermutation-sym}
use Rattle.std.proofs.lemmas.Map.Keys.{IsStrictlyIncreasing-dedup}
use Rattle.std.proofs.lemmas.Bool.{eqb-true, eq-eqb}
use Rattle.std.specs.List.{dedup}
use Rattle.std.specs.List.Sorted.{IsStrictlyIncreasing, IsPermutation, IsSorted}
use Rattle.std.specs.Ordering.{nat_cmp}
use Rattle.replay_model.specs.Steps.{Event, Tag, same_event, same_tag}
use Rattle.replay_model.specs.Logs.{ThreadLog, Log}
use Rattle.replay_model.specs.Events.{names_source}
use Rattle.replay_model.proofs.Tags.{event_cases, same_event-false, any-element, element-any}
use Rattle.replayer.specs.KeptSteps.{event_at, has_step, is_tagged, AreAdded, AreNamed, AreLeft}

or_none : (b : Bool) → b ≡ (b || false)
or_none true = refl
or_none false = refl

or_assoc : (a b c : Bool) → ((a || b) || c) ≡ (a || (b || c))
or_assoc true b c = refl
or_assoc false b c = refl

-- the test on steps decides
has_step-to : (steps : List ℕ) (m : ℕ) → has_step m steps ≡ true → Contains steps m
has_step-to steps m h =
    let some = any-element (λ (n : ℕ). eqb n m) steps h in
    subst (Contains steps) (eqb-true some.0 m some.2) some.1

has_step-from : (steps : List ℕ) (m : ℕ) → Contains steps m → has_step m steps ≡ true
has_step-from steps m h = element-any (λ (n : ℕ). eqb n m) steps m h (eq-eqb m m refl)

-- a number before numbers that rise
rising-from : (steps : List ℕ) (n : ℕ) → IsStrictlyIncreasing steps → All (λ (m : ℕ). n + 1 ≤ m) steps → IsStrictlyIncreasing (n ∷ steps)
rising-from steps n rises above zero l = let h = above 0 0 (omega arith) in omega arith
rising-from steps n rises above (suc k) l =
    let z : suc (k + 1) ≡ suc k + 1 = omega arith in
    subst (λ (j : ℕ). slice_index steps k < slice_index (n ∷ steps) j) z (rises k (omega arith))

-- nothing is added
pub add_none : (passes : ℕ → Bool) (steps : List ℕ) → ((m : ℕ) → passes m ≡ false) → AreAdded passes steps steps
add_none passes steps none = record {
  each = λ m. or_none (has_step m steps) ∙ ap (λ (b : Bool). has_step m steps || b) (sym (none m));
  low = λ h. h;
}

-- what two lots add
pub add_more : {X : Type 0} (passes : X → ℕ → Bool) (xs : List X) (i : ℕ) (d x : X) (old mid new : List ℕ) → i < length xs → x ≡ slice_index_or xs i d →
    AreAdded (λ (m : ℕ). list_any (λ (y : X). passes y m) (take i xs)) old mid → AreAdded (passes x) mid new →
    AreAdded (λ (m : ℕ). list_any (λ (y : X). passes y m) (take (i + 1) xs)) old new
add_more {X} passes xs i d x old mid new l at first second = record {
  each = λ m.
      second.each m ∙ ap (λ (b : Bool). b || passes x m) (first.each m) ∙ or_assoc (has_step m old) _ _ ∙
      ap (λ (b : Bool). has_step m old || b) (ap (λ (y : X). list_any (λ (z : X). passes z m) (take i xs) || passes y m) at ∙ sym (list_any_more (λ (y : X). passes y m) xs i d l));
  low = λ h. second.low (first.low h);
}

-- tests that agree on each element
any_same : {X : Type 0} (p q : X → Bool) → ((x : X) → p x ≡ q x) → (xs : List X) → list_any p xs ≡ list_any q xs
any_same p q h [] = refl
any_same p q h (x ∷ xs) = ap (λ (b : Bool). b || list_any p xs) (h x) ∙ ap (λ (b : Bool). q x || b) (any_same p q h xs)

same_event-sym : (a b : Event) → same_event a b ≡ same_event b a
same_event-sym a b = go (event_cases a b)
  where
    go : (a ≡ b) ⊎ (a ≢ b) → same_event a b ≡ same_event b a
    go (inl e) = ap (λ (x : Event). same_event x b) e ∙ ap (same_event b) (sym e)
    go (inr n) = same_event-false a b n ∙ sym (same_event-false b a (λ e. n (sym e)))

same_tag-sym : (a b : Tag) → same_tag a b ≡ same_tag b a
same_tag-sym None None = refl
same_tag-sym None (Some b) = refl
same_tag-sym (Some a) None = refl
same_tag-sym (Some a) (Some b) = same_event-sym a b

-- the sources and the last tags are all that the log names
pub named_all : (log : Log) (t : ℕ) (threads : List ThreadLog) (tags : List Tag) (none mid new : List ℕ) → none ≡ [] → threads ≡ log.threads → tags ≡ log.last_tags →
    AreAdded (λ (m : ℕ). list_any (names_source (Some (event_at t m))) threads) none mid → AreAdded (is_tagged t tags) mid new → AreNamed log t new
named_all log t threads tags none mid new n th ta first second = record {
  each = λ m.
      second.each m ∙
      ap (λ (b : Bool). b || is_tagged t tags m) (first.each m ∙ ap (λ (l : List ℕ). has_step m l || list_any (names_source (Some (event_at t m))) threads) n ∙ ap (list_any (names_source (Some (event_at t m)))) th) ∙
      ap (λ (b : Bool). list_any (names_source (Some (event_at t m))) log.threads || b)
      (ap (λ (l : List Tag). is_tagged t l m) ta ∙ any_same (λ (tag : Tag). same_tag tag (Some (event_at t m))) (same_tag (Some (event_at t m))) (λ tag. same_tag-sym tag (Some (event_at t m))) log.last_tags);
  low = second.low (first.low (subst (All (λ (m : ℕ). 1 ≤ m)) (sym n) (All-nil (λ (m : ℕ). 1 ≤ m))));
}

-- sorted, and each of them once
pub left_at_start : (log : Log) (t : ℕ) (steps sorted : List ℕ) → AreNamed log t steps → IsPermutation steps sorted → IsSorted nat_cmp sorted → AreLeft log t 0 (dedup eqb sorted)
left_at_start log t steps sorted named moved rises = record {
  rising = rising-from (dedup eqb sorted) 0 (IsStrictlyIncreasing-dedup sorted rises) (All-dedup eqb (λ (m : ℕ). 1 ≤ m) sorted (All-permutation (λ (m : ℕ). 1 ≤ m) steps sorted moved named.low));
  named = λ m above. (
    λ has. sym (named.each m) ∙ has_step-from steps m (Contains-permutation sorted steps m (IsPermutation-sym steps sorted moved) (Contains-from_dedup eqb sorted m has)),
    λ kept. Contains-dedup_nat sorted m (Contains-permutation steps sorted m moved (has_step-to steps m (named.each m ∙ kept))),
  );
}
